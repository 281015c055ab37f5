use Rattle.std.proofs.Common.{◌<◌, length, ap, ◌∙◌, arith}
use Rattle.plain_text.specs.Numbers.{with_number}
use Rattle.number_set.proofs.SetLemmas.{with-taken}
use Rattle.number_set.proofs.set.NumberSet.set.Goals as goal

pub loop-index-preserved : goal.loop-index-preserved
loop-index-preserved c =
    let at = c.loop-index.index in
    let inside : at < length c.args.self.now = omega (arith, c.len-index-end.ensures.len) in
    c.in_ok-insert.ensures.keys ∙ ap (λ keys. with_number keys c.at.result) c.loop-index.invariant ∙ with-taken c.args.self.now at c.at.result c.len-index-end.ensures.rising inside c.at.ensures
