-- What an engine is, and the histories that it stands for.
use Rattle.std.specs.Prelude.{◌≡◌, ℕ, false, length}
use Rattle.plain_text.specs.Numbers.{has}
use Rattle.plain_edits.specs.History.{History, IsSound, head, inserted_count, text_at, undone}
use Rattle.plain_edits.specs.Delta.{Fits}
use Rattle.plain_edits.specs.Edits.{PlainEdit, edited}
use Rattle.plain_edits.specs.Change.{change_keeps, change_adds}
use Rattle.plain_edits.specs.Collection.{kept}
use Rattle.plain_edits.specs.declared.delta.UnitDelta.{UnitDelta}
use Rattle.plain_edits.specs.UnitDelta.{IsCanonical, unit_keeps, unit_adds}
use Rattle.delta_core.specs.Units.{IsUnitsOf, text_after}
use Rattle.collection_laws.specs.Left.{left_of}
use Rattle.rev_list.specs.WithoutText.{without_text}
use Rattle.rev_rebase.specs.Rebase.{characters_of}
use Rattle.rev_engine.specs.declared.edit.Edit.{Edit}
use Rattle.rev_engine.specs.declared.edit.UnitEdit.{UnitEdit}
use Rattle.rev_engine.specs.declared.edit.Change.{Change}
use Rattle.rev_engine.specs.Given.{AskedEdit}
use Rattle.rev_engine.specs.Asked.{IsGiven}
use Rattle.rev_engine.specs.State.{State}

-- THE ENGINE STANDS FOR A HISTORY: it is one that calls give, and the engine has the characters of what is left of it, the revisions of that
-- over their positions, and how many characters were ever inserted
pub record StandsFor (engine : State) (history : History) : Type 0 where
  pub given : IsGiven engine.limit history
  pub union : engine.union ≡ characters_of (left_of history)
  pub revisions : engine.revisions ≡ without_text (left_of history)
  pub spent : engine.spent ≡ inserted_count history

-- MEMORY IS BOUNDED BY WHAT IS KEPT: an engine holds exactly as many characters as are kept
abbrev pub UnionIsWhatIsKept : Type 0
UnionIsWhatIsKept = (engine : State) (history : History) → StandsFor engine history → length engine.union ≡ kept history

-- the edit that is asked for
abbrev pub asked_by : Edit → AskedEdit
asked_by edit = record { base = edit.rev; delta = edit.delta; group = edit.group; priority = edit.priority; author = edit.author }

-- an edit in characters, of the text of a revision
abbrev pub in_characters : ℕ → UnitEdit → PlainEdit
in_characters rev edit = record {
  base = rev;
  kept = unit_keeps edit.units;
  added = unit_adds edit.units;
  group = edit.group;
  priority = edit.priority;
  author = edit.author;
}

-- AN EDIT OF THE HEAD TEXT in characters says what this one says in bytes
pub record IsSaidBy (history : History) (edit : UnitEdit) (asked : AskedEdit) : Type 0 where
  pub base : asked.base ≡ head history
  pub fits : Fits (text_at history (head history)) asked.delta
  pub units : IsUnitsOf (text_at history (head history)) asked.delta edit.units
  pub group : asked.group ≡ edit.group
  pub priority : asked.priority ≡ edit.priority
  pub author : asked.author ≡ edit.author

-- THE CHANGE from the head text of one history to that of the next, as the only delta of its meaning: it keeps what stays and adds what
-- appears, and so it leads from the one text to the other
pub record IsChange (before after : History) (change : Change) : Type 0 where
  pub rev : change.rev ≡ head after
  pub canonical : IsCanonical change.units
  pub base : change.units.base ≡ length (text_at before (head before))
  pub kept : (index : ℕ) → unit_keeps change.units index ≡ change_keeps after (head before) (head after) index
  pub added : (gap : ℕ) → unit_adds change.units gap ≡ change_adds after (head before) (head after) gap
  pub leads : text_after change.units (text_at before (head before)) ≡ text_at after (head after)

-- the unit delta is that of the change
abbrev pub IsChangeBy : History → History → UnitDelta → Type 0
IsChangeBy before after units = IsChange before after (record { rev = head after; units = units })

-- THE EDIT SINCE A REVISION, as the only delta of its meaning: of the text of the revision it keeps what the head shows too, and it adds each
-- other character of the head text at the gap that counts the characters of the revision left of it
pub record IsSince (history : History) (rev : ℕ) (units : UnitDelta) : Type 0 where
  pub canonical : IsCanonical units
  pub base : units.base ≡ length (text_at history rev)
  pub kept : (index : ℕ) → unit_keeps units index ≡ change_keeps history rev (head history) index
  pub added : (gap : ℕ) → unit_adds units gap ≡ change_adds history rev (head history) gap
  pub leads : text_after units (text_at history rev) ≡ text_at history (head history)

-- AN EDIT AGAINST THE HEAD IS ITS CHANGE: in canonical form it is itself what it changes of the head text
abbrev pub HeadEditIsItsChange : Type 0
HeadEditIsItsChange = (history : History) (edit : UnitEdit) → IsSound history → has (undone history.revisions (head history)) edit.group ≡ false →
    IsCanonical edit.units → edit.units.base ≡ length (text_at history (head history)) →
    IsChangeBy history (edited history (in_characters (head history) edit)) edit.units
