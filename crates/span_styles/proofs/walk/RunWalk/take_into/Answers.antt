use Rattle.std.proofs.Common.{◌≡◌, ◌++◌, length, replicate, ap, arith, length-append}
use Rattle.std.proofs.lemmas.List.{length-replicate}
use Rattle.span_styles.proofs.WalkLemmas.{IsTaking-next}
use Rattle.span_styles.proofs.walk.RunWalk.take_into.Goals as goal

pub loop-left-preserved : goal.loop-left-preserved
loop-left-preserved c =
    let pushed : c.push.new.self ≡ c.loop-left.made ++ replicate c.min-len.result c.front-front.result.style = c.in_ok-push.ensures in
    record {
      taking =
          IsTaking-next _ _ _ _ c.loop-left.left c.min-len.result c.front-front.result.len c.front-front.result.style _ _ c.loop-left.invariant.taking
          (omega arith) (omega arith) c.front-front.ensures.same pushed c.skip.ensures;
      room =
          omega (arith, c.loop-left.invariant.room, ap length pushed, length-append c.loop-left.made (replicate c.min-len.result c.front-front.result.style), length-replicate c.min-len.result c.front-front.result.style);
    }
