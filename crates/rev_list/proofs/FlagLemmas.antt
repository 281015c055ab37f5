-- What is dead before and after a revision, as flags.
use Rattle.std.proofs.Common.{◌≡◌, ℕ, ◌+◌, ◌<◌, Bool, true, not, ◌&&◌, ◌||◌, false, List, ◌∷◌, length, drop, get_or, ap, sym, ◌∙◌, arith}
use Rattle.std.proofs.lemmas.List.{drop_more, get_or-map, length-map}
use Rattle.subset_runs.specs.Subset.{count, expand, shrink, symmetric_difference}
use Rattle.subset_runs.proofs.ForCallers.{length-at_each, length-expand_as, items_outside-expand_as, symmetric_difference-back, symmetric_difference_comm}
use Rattle.rev_list.specs.declared.edit.RevEdit.{RevEdit}
use Rattle.rev_list.specs.declared.step.RevStep.{RevStep}
use Rattle.rev_list.specs.declared.step.RevStep.TheVariants.{Edit, Undo}
use Rattle.rev_list.specs.declared.records.RevRecord.{RevRecord}
use Rattle.rev_list.specs.Kept.{steps_of, grown_by, ungrown_by, dead_after, dead_before, HasLength, GrowFrom}
use Rattle.rev_list.specs.Inner.{dead_later}

-- what is in exactly one of the sets before and after takes the later one back to the earlier one
pub turned_back : (before after : List Bool) → length before ≡ length after → symmetric_difference after (symmetric_difference before after) ≡ before
turned_back before after same =
    ap (λ flags. symmetric_difference after flags) (symmetric_difference_comm before after) ∙ symmetric_difference-back after before (sym same)

-- the revision takes `before` to `dead`, and what it turned takes it back
pub record IsBack (dead : List Bool) (r : RevRecord) (before : List Bool) : Type 0 where
  pub same_length : length dead ≡ length r.turned
  pub fits : HasLength (length dead) r.step
  pub back : dead_before dead r ≡ before

-- the same, where the step and what it turned are known
pub record IsTurn (dead : List Bool) (step : RevStep) (turned before : List Bool) : Type 0 where
  pub same_length : length dead ≡ length turned
  pub fits : HasLength (length dead) step
  pub back : ungrown_by (symmetric_difference dead turned) step ≡ before

pub IsTurn-edit : (before after : List Bool) (e : RevEdit) → length e.inserted ≡ length before + count e.inserted → length after ≡ length e.inserted →
    IsTurn after (Edit e) (symmetric_difference (grown_by before (Edit e)) after) before
IsTurn-edit before after e grown same =
    let longer = length-expand_as false before e.inserted in
    let alike : length (expand before e.inserted) ≡ length after = omega (arith, same) in
    record {
      same_length = omega (arith, length-at_each (λ x y. x && not y || y && not x) (expand before e.inserted) after alike);
      fits = same;
      back =
          ap (λ flags. shrink flags e.inserted) (turned_back (expand before e.inserted) after alike) ∙
          items_outside-expand_as false before e.inserted (sym grown);
    }

pub IsTurn-undo : (before after : List Bool) (groups : List ℕ) → length before ≡ length after →
    IsTurn after (Undo groups) (symmetric_difference (grown_by before (Undo groups)) after) before
IsTurn-undo before after groups alike = record {
  same_length = omega (arith, length-at_each (λ x y. x && not y || y && not x) before after alike);
  fits = tt;
  back = turned_back before after alike;
}

pub length-dead_after : (undone : Bool) (dead : List Bool) (e : RevEdit) → length e.inserted ≡ length dead + count e.inserted → length e.deleted ≡ length e.inserted → length (dead_after undone dead e) ≡ length e.inserted
length-dead_after true dead e grown same = length-expand_as true dead e.inserted
length-dead_after false dead e grown same =
    let longer = length-expand_as false dead e.inserted in
    omega (arith, length-at_each (λ x y. x || y) (expand dead e.inserted) e.deleted (omega (arith, longer, same)), longer)

-- ---- the steps of the records

pub length-steps_of : (records : List RevRecord) → length (steps_of records) ≡ length records
length-steps_of records = length-map records (λ r. r.step)

-- the step of a record that is read
pub steps_of-at : (records : List RevRecord) (i : ℕ) (r : RevRecord) → i < length records → r ≡ get_or records i r → r.step ≡ get_or (steps_of records) i r.step
steps_of-at records i r lt is = ap (λ x. x.step) is ∙ sym (get_or-map (λ x. x.step) records i r r.step lt)

pub steps_of-drop : (records : List RevRecord) (i : ℕ) (r : RevRecord) → i < length records → r ≡ get_or records i r → drop i (steps_of records) ≡ r.step ∷ drop (i + 1) (steps_of records)
steps_of-drop records i r lt is =
    drop_more (steps_of records) i r.step (omega (arith, length-steps_of records))
    ∙ ap (λ e. e ∷ drop (i + 1) (steps_of records)) (sym (steps_of-at records i r lt is))

-- what is left to carry over after one revision
pub grow_next : (dead : List Bool) (r : RevStep) (revisions : List RevStep) → GrowFrom (length dead) (r ∷ revisions) → GrowFrom (length (dead_later dead r)) revisions
grow_next dead (Edit e) revisions grow = rw (length-expand_as true dead e.inserted) grow.1
grow_next dead (Undo groups) revisions grow = grow
