use Rattle.std.proofs.Common.{List, sym, subst}
use Rattle.plain_text.specs.declared.run.Run.{Run}
use Rattle.plain_edits.specs.declared.delta.Added.{Added}
use Rattle.delta_core.specs.Inner.{IsToCome, IsRestOfKept}
use Rattle.delta_core.proofs.WalkLemmas.{IsToCome-start}
use Rattle.delta_core.proofs.unit_walk.UnitWalk.new.Goals as goal

pub invariant_of-result : goal.invariant_of-result
invariant_of-result c =
    let units = c.args.units.now in
    let runs = c.runs_after.result.now in
    let rest = subst (λ (xs : List Run). IsRestOfKept xs runs 0) c.as_slice.ensures c.runs_after.ensures.rest in
    subst (λ (xs : List Added). IsToCome units.base 0 runs xs) (sym c.as_slice-2.ensures) (IsToCome-start units runs c.requires rest c.runs_after.ensures.ends)
