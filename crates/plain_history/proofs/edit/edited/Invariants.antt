use Rattle.std.proofs.Common.{◌≡◌, ◌++◌, drop, [], ◌∷◌}
use Rattle.plain_text.specs.Woven.{woven}
use Rattle.plain_edits.specs.Edits.{inserted_at}
use Rattle.plain_history.specs.UnitEdit.{edit_of}
use Rattle.plain_history.specs.Inner.{kept_or_deleted}
use Rattle.plain_history.proofs.edit.edited.Given as goal

abbrev pub invariant-loop-index : goal.invariant-loop-index
invariant-loop-index l =
    l.made ++ woven (inserted_at l.history (edit_of l.e)) (λ index tagged. kept_or_deleted l.history (edit_of l.e) index tagged ∷ []) l.index
    (drop l.index l.characters) ≡
    woven (inserted_at l.history (edit_of l.e)) (λ index tagged. kept_or_deleted l.history (edit_of l.e) index tagged ∷ []) 0 l.characters
