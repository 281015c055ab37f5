use Rattle.std.proofs.Common.{◌≡◌, [], ◌∷◌, None, subst}
use Rattle.std.specs.Prelude.{IfOk}
use Rattle.plain_text.specs.declared.selection.Region.{Region}
use Rattle.selection_core.specs.Selection.{caret_of}
use Rattle.selection_core.proofs.MergeLemmas.{last_caret-seen}
use Rattle.selection_core.proofs.selection.SelSelection.collapse.Goals as goal

pub returns-clause-regions : goal.returns-clause-regions
returns-clause-regions c =
    let d : Region = record { anchor = 0; caret = 0; goal = None } in
    subst (λ gap. IfOk c.caret_at.result (λ sel. sel.regions ≡ caret_of gap ∷ []))
    (last_caret-seen _ _ d c.as_slice-regions.ensures c.requires.some) c.caret_at.ensures.regions
