-- What a list of revisions keeps: what is up to the floor, and after it the edits, each in the positions of its own union, and the undos.
use Rattle.std.specs.Prelude.{◌≡◌, ℕ, ◌+◌, ◌^◌, ◌<◌, Bool, true, false, List, [], ◌∷◌, length, map}
use Rattle.std.specs.List.{fold, AllByRecursion}
use Rattle.subset_runs.specs.Subset.{count, expand, expand_in, shrink, union, symmetric_difference}
use Rattle.plain_text.specs.Numbers.{has, IsRising}
use Rattle.plain_edits.specs.History.{Revision, edit, undo, History, IsSound, head}
use Rattle.plain_edits.specs.Collection.{is_clean}
use Rattle.plain_edits.specs.HistorySteps.{HasRisingSet}
use Rattle.plain_edits.specs.Undo.{undone_now}
use Rattle.rev_list.specs.declared.edit.RevEdit.{RevEdit}
use Rattle.rev_list.specs.declared.step.RevStep.{RevStep}
use Rattle.rev_list.specs.declared.step.RevStep.TheVariants.{Edit, Undo}
use Rattle.rev_list.specs.declared.records.RevRecord.{RevRecord}
use Rattle.rev_list.specs.Edit.{after_revision}
use Rattle.rev_list.specs.Groups.{Firsts, AreFirstEdits}
use Rattle.rev_list.specs.Hidden.{hidden_at}
use Rattle.rev_list.specs.Settled.{Settled, AreSettled, settled_history}

-- the history of revisions after what is up to the floor
abbrev pub history_of : Settled → List RevStep → History
history_of settled revisions = fold after_revision (settled_history settled) revisions

-- the revisions of the records
abbrev pub steps_of : List RevRecord → List RevStep
steps_of records = map (λ r. r.step) records

-- what is dead at the head
abbrev pub dead_now : History → List Bool
dead_now history = hidden_at history (head history)

-- what is dead after an edit, where `dead` was before it, by whether its group is undone: what it inserts, or what it deletes
abbrev pub dead_after : Bool → List Bool → RevEdit → List Bool
dead_after true dead e = expand_in dead e.inserted
dead_after false dead e = union (expand dead e.inserted) e.deleted

-- what was dead before a revision, in the positions of the union after it, where what is new counts as alive
abbrev pub grown_by : List Bool → RevStep → List Bool
grown_by dead (Edit e) = expand dead e.inserted
grown_by dead (Undo groups) = dead

-- the same set without the new positions
abbrev pub ungrown_by : List Bool → RevStep → List Bool
ungrown_by dead (Edit e) = shrink dead e.inserted
ungrown_by dead (Undo groups) = dead

-- the positions that a revision turns from dead to alive or back
abbrev pub turned_by : History → RevStep → List Bool
turned_by history revision = symmetric_difference (grown_by (dead_now history) revision) (dead_now (after_revision history revision))

-- what was dead before a revision, in the positions of the union before it, where `dead` is after it
abbrev pub dead_before : List Bool → RevRecord → List Bool
dead_before dead r = ungrown_by (symmetric_difference dead r.turned) r.step

-- an edit speaks of the union before it with its insertions
pub record IsNext (history : History) (e : RevEdit) : Type 0 where
  pub grown : length e.inserted ≡ length history.characters + count e.inserted
  pub same_length : length e.deleted ≡ length e.inserted

-- the revision may follow the history: an edit speaks of its union, and an undo of no positions
abbrev pub Follows : History → RevStep → Type 0
Follows history (Edit e) = IsNext history e
Follows history (Undo groups) = Unit {0}

-- a set of positions of the union after a revision has this length
abbrev pub HasLength : ℕ → RevStep → Type 0
HasLength len (Edit e) = len ≡ length e.inserted
HasLength len (Undo groups) = Unit {0}

-- each edit grows the union before it, which has this length at first
abbrev pub GrowFrom : ℕ → List RevStep → Type 0
GrowFrom len [] = Unit {0}
GrowFrom len (Edit e ∷ revisions) = (length e.inserted ≡ len + count e.inserted) × GrowFrom (length e.inserted) revisions
GrowFrom len (Undo groups ∷ revisions) = GrowFrom len revisions

-- each record has a revision that may follow the history, and the positions that it turned
abbrev pub AreKept : History → List RevRecord → Type 0
AreKept history [] = Unit {0}
AreKept history (r ∷ records) =
    Follows history r.step × (r.turned ≡ turned_by history r.step) × AreKept (after_revision history r.step) records

-- an edit is of no collected group
abbrev pub IsOpen : List ℕ → Revision → Type 0
IsOpen collected (edit base group priority author) = has collected group ≡ false
IsOpen collected (undo groups) = Unit {0}

-- what a list keeps: what is up to the floor, and what is undone there, each later revision with what it turned, what is dead at the head, the first edit of each
-- group, and which groups are undone at the head; each undo has a rising set, no later edit has its base below the floor, and no edit is of
-- a collected group
pub record HoldsRevisions (settled : Settled) (records : List RevRecord) (gone : List Bool) (first : Firsts) (groups : List ℕ) : Type 0 where
  pub parts : AreSettled settled
  pub sound : IsSound (settled_history settled)
  pub at_floor : undone_now (settled_history settled) ≡ settled.undone
  pub kept : AreKept (settled_history settled) records
  pub numbers : settled.floor + length records < 2 ^ 63
  pub dead : gone ≡ dead_now (history_of settled (steps_of records))
  pub first_edits : AreFirstEdits (history_of settled (steps_of records)).revisions first
  pub undone : groups ≡ undone_now (history_of settled (steps_of records))
  pub rising : IsRising groups
  pub sets : AllByRecursion HasRisingSet (history_of settled (steps_of records)).revisions
  pub clean : is_clean (history_of settled (steps_of records)).revisions settled.floor ≡ true
  pub uncollected : AllByRecursion (IsOpen settled.collected) (history_of settled (steps_of records)).revisions
