use Rattle.std.proofs.Common.{refl, arith, length-drop}
use Rattle.plugin_link.specs.Link.{link_told}
use Rattle.plugin_link.proofs.PullLemmas.{pushed_more, stopped_within}
use Rattle.plugin_link.proofs.push.push_piece.Goals as goal

pub loop-taken-preserved : goal.loop-taken-preserved
loop-taken-preserved g c =
    let told = link_told g.L.Link.left g.L.Link.held g.L.Link.faults in
    record {
      within = omega (arith, c.in-Took.ensures.part, length-drop c.loop-taken.taken c.args.piece.now);
      pushes =
          pushed_more (told c.args.link.now) (told c.loop-taken.link) (told c.push.new.self) c.args.piece.now c.loop-taken.taken c.in-Took.count
          c.loop-taken.invariant.pushes
          (record { gains = c.in-Took.ensures.gains; left = c.in-Took.ensures.left_stay; faults = c.in-Took.ensures.faults_stay });
    }

pub returns-in-Failed : goal.returns-in-Failed
returns-in-Failed g c =
    let told = link_told g.L.Link.left g.L.Link.held g.L.Link.faults in
    stopped_within (told c.args.link.now) (told c.loop-taken.link) (told c.push.new.self) c.args.piece.now c.loop-taken.taken
    (omega (arith, c.loop-taken-test.true)) c.loop-taken.invariant.pushes
    (record { gains = c.in-Failed.ensures.gains; left = c.in-Failed.ensures.left_stay; faults = c.in-Failed.ensures.faults_stay })
    (c.in-Failed.ensures.failed refl)
