-- The history up to a revision, and what one more revision makes of it.
use Rattle.std.specs.Prelude.{◌≡◌, ℕ, ◌+◌, ◌-◌, ◌^◌, ◌<◌, true, nat_le, List, [], ◌∷◌, length, map, take, Some, slice_get}
use Rattle.std.specs.List.{filter, fold}
use Rattle.plain_text.specs.Numbers.{flipped}
use Rattle.plain_edits.specs.History.{Tagged, Revision, undo, History, head}
use Rattle.plain_edits.specs.Collection.{is_based_from}
use Rattle.plain_edits.specs.HistorySteps.{HasRisingSet}
use Rattle.plain_edits.specs.Undo.{undone_now}
use Rattle.rev_list.specs.declared.step.RevStep.{RevStep}
use Rattle.rev_list.specs.declared.step.RevStep.TheVariants.{Edit, Undo}
use Rattle.rev_list.specs.declared.records.RevRecord.{RevRecord}
use Rattle.rev_list.specs.Edit.{edit_revision, undone_by, after_revision}
use Rattle.rev_list.specs.Hidden.{union_at, IsKeptAt}
use Rattle.rev_list.specs.Kept.{steps_of, dead_now, Follows, IsOpen, turned_by}

-- the character as it was at a revision: no later deletion has come
abbrev pub tagged_until : ℕ → Tagged → Tagged
tagged_until rev tagged = record tagged { deleted = filter (λ deletion. nat_le deletion rev) tagged.deleted }

-- THE HISTORY UP TO A REVISION: what was inserted by then, with the deletions that had come, and the revisions up to there
abbrev pub history_until : History → ℕ → History
history_until history rev = record history {
  characters = map (tagged_until rev) (union_at history rev);
  revisions = take rev history.revisions;
}

-- the record is that of the revision: it may follow the history up to the revision before, it says what it turned there, and it leads from
-- there to the history up to the revision
pub record IsRecordAt (history : History) (rev : ℕ) (r : RevRecord) : Type 0 where
  pub follows : Follows (history_until history (rev - 1)) r.step
  pub turned : r.turned ≡ turned_by (history_until history (rev - 1)) r.step
  pub next : history_until history rev ≡ after_revision (history_until history (rev - 1)) r.step
  pub has_number : rev < 2 ^ 63

-- the revision of a step
abbrev pub revision_of : History → RevStep → Revision
revision_of history (Edit e) = edit_revision e
revision_of history (Undo groups) = undo (undone_by history groups)

-- a record may be the next one: it may follow, and says what it turns; it is against no base below the floor, of no collected group, and no
-- undo of group 0; and it has a number
pub record MayFollow (history : History) (r : RevRecord) : Type 0 where
  pub follows : Follows history r.step
  pub turned : r.turned ≡ turned_by history r.step
  pub from : is_based_from history.floor (revision_of history r.step) ≡ true
  pub is_open : IsOpen history.collected (revision_of history r.step)
  pub set : HasRisingSet (revision_of history r.step)
  pub has_number : head history < 2 ^ 63 - 1

-- the groups that are undone after a step, where these were before it
abbrev pub undone_after_step : List ℕ → RevStep → List ℕ
undone_after_step groups (Edit e) = groups
undone_after_step groups (Undo others) = flipped groups others

-- ---- many records

-- the records are those of the revisions after one, the oldest first
pub record AreRecordsAfter (history : History) (rev : ℕ) (records : List RevRecord) : Type 0 where
  pub len : length records + rev ≡ head history
  pub each : (k : ℕ) (r : RevRecord) → slice_get records k ≡ Some r → IsRecordAt history (rev + 1 + k) r

-- each of the records may be the next one in its turn
abbrev pub MayAllFollow : History → List RevRecord → Type 0
MayAllFollow history [] = Unit {0}
MayAllFollow history (r ∷ records) = MayFollow history r × MayAllFollow (after_revision history r.step) records

-- the history after them
abbrev pub after_records : History → List RevRecord → History
after_records history records = fold after_revision history (steps_of records)

-- the records of another history may follow as they are, and lead to what is dead and undone at the head of that
pub record IsLedBy (history other : History) (records : List RevRecord) : Type 0 where
  pub may : MayAllFollow history records
  pub dead : dead_now (after_records history records) ≡ dead_now other
  pub undone : undone_now (after_records history records) ≡ undone_now other

-- A HISTORY MAY GO ON as another one does from there: its head is a kept revision of that, and the later records may follow as they are
pub record MayGoOn (history other : History) : Type 0 where
  pub kept : IsKeptAt other (head history)
  pub led : (records : List RevRecord) → AreRecordsAfter other (head history) records → IsLedBy history other records

-- the history that has gone on so
pub record IsGoneOn (history other made : History) : Type 0 where
  pub records : List RevRecord
  pub are : AreRecordsAfter other (head history) records
  pub is : made ≡ after_records history records
