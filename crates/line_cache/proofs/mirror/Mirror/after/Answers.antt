use Rattle.std.proofs.Common.{false, ◌∙◌, length, take, ap, arith}
use Rattle.std.proofs.lemmas.List.{length-take}
use Rattle.line_cache.specs.Runs.{run_count}
use Rattle.line_cache.proofs.FewLemmas.{shown-few}
use Rattle.line_cache.proofs.mirror.Mirror.after.Goals as goal

pub returns-clause-few : goal.returns-clause-few
returns-clause-few c =
    let index = c.loop-step.step-index in
    let items = c.as_slice-step-items.result.now in
    omega (
      arith,
      ap run_count (c.in_ok-lines.ensures.ok ∙ c.loop-step.invariant.shown),
      shown-few false (take index items),
      length-take index items,
      ap length c.as_slice-step-items.ensures,
    )
