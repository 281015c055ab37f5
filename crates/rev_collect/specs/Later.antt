-- A collection below the head: what is left up to a later revision, one revision after the other.
use Rattle.std.specs.Prelude.{◌≡◌, ℕ, Bool, List, length, map}
use Rattle.subset_runs.specs.Subset.{shrink}
use Rattle.plain_edits.specs.History.{History}
use Rattle.plain_edits.specs.Collection.{collected_at, is_dropped}
use Rattle.collection_laws.specs.Left.{left_of}
use Rattle.rev_list.specs.declared.step.RevStep.{RevStep}
use Rattle.rev_list.specs.declared.step.RevStep.TheVariants.{Edit, Undo}
use Rattle.rev_list.specs.declared.records.RevRecord.{RevRecord}
use Rattle.rev_list.specs.Until.{history_until}

-- the step without some positions of its own union
abbrev pub step_without : List Bool → RevStep → RevStep
step_without dropped (Edit e) = Edit (record {
  base = e.base;
  priority = e.priority;
  group = e.group;
  author = e.author;
  inserted = shrink e.inserted dropped;
  deleted = shrink e.deleted dropped;
})
step_without dropped (Undo groups) = Undo groups

-- the record without them
abbrev pub record_without : List Bool → RevRecord → RevRecord
record_without dropped r = record { step = step_without dropped r.step; turned = shrink r.turned dropped }

-- an edit says positions of a union of this length
abbrev pub IsOfLength : ℕ → RevStep → Type 0
IsOfLength len (Edit e) = (length e.inserted ≡ len) × (length e.deleted ≡ len)
IsOfLength len (Undo groups) = Unit {0}

-- what the record says is of a union of this length
pub record HasLengthsOf (len : ℕ) (r : RevRecord) : Type 0 where
  pub turned : length r.turned ≡ len
  pub step : IsOfLength len r.step

-- the history up to a revision, after the collection of some groups at a floor before it
abbrev pub collected_until : History → ℕ → List ℕ → ℕ → History
collected_until history floor groups rev = collected_at (history_until history rev) floor groups

-- what is left of that, and the dropped ones of its characters
pub record IsLeftUntil (history : History) (floor : ℕ) (groups : List ℕ) (rev : ℕ) (left : History) (dropped : List Bool) : Type 0 where
  pub left_is : left ≡ left_of (collected_until history floor groups rev)
  pub dropped_is : dropped ≡ map (is_dropped (collected_until history floor groups rev)) (history_until history rev).characters
