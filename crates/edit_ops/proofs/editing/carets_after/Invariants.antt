use Rattle.std.proofs.Common.{◌≡◌, ◌++◌, drop, map}
use Rattle.selection_core.specs.Selection.{caret_of}
use Rattle.edit_ops.specs.Replacements.{gap_with}
use Rattle.edit_ops.proofs.OrderLemmas.{IsReached}
use Rattle.edit_ops.proofs.editing.carets_after.Given as goal

abbrev pub invariant-loop-replacement : goal.invariant-loop-replacement
invariant-loop-replacement l = record {
  so_far : l.carets ++ map (λ r. caret_of (gap_with l.replacements r.range.start)) (drop l.replacement-index l.replacements) ≡
      map (λ r. caret_of (gap_with l.replacements r.range.start)) l.replacements;
  reached : IsReached l.base l.replacements l.at l.kept l.added (drop l.replacement-index l.replacements);
}
