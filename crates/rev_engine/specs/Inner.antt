-- What private functions say: the steps of an edit, and of a collection.
use Rattle.std.specs.Prelude.{◌≡◌, ℕ, ◌+◌, ◌≤◌, List, length, map}
use Rattle.plain_edits.specs.declared.delta.UnitDelta.{UnitDelta}
use Rattle.plain_edits.specs.Delta.{Fits}
use Rattle.plain_edits.specs.History.{History, head, visible_at}
use Rattle.plain_edits.specs.UnitDelta.{IsCanonical}
use Rattle.plain_edits.specs.Collection.{collected_at, is_dropped}
use Rattle.subset_runs.specs.Subset.{items_outside}
use Rattle.collection_laws.specs.Left.{left_of}
use Rattle.delta_core.specs.Units.{IsUnitsOf}
use Rattle.rev_list.specs.Edit.{after_edit}
use Rattle.rev_list.specs.Hidden.{IsKeptAt}
use Rattle.rev_list.specs.WithoutText.{insertion_flags, in_positions}
use Rattle.rev_rebase.specs.Rebase.{added_text, put_in}
use Rattle.rev_engine.specs.declared.edit.Edit.{Edit}
use Rattle.rev_engine.specs.declared.edit.UnitEdit.{UnitEdit}
use Rattle.rev_engine.specs.declared.step.Fitting.{Fitting}
use Rattle.rev_engine.specs.State.{State, shown_at}
use Rattle.rev_engine.specs.Engine.{in_characters}

-- so many characters are spent with so many more, and that is within the limit
pub record IsRoom (engine : State) (more spent : ℕ) : Type 0 where
  pub is : spent ≡ engine.spent + more
  pub within : spent ≤ engine.limit

-- THE EDIT FITS: its base is kept, it is one of the text that this shows, and there is room for its characters under the limit
pub record IsFitting (engine : State) (rev : ℕ) (fitting : Fitting) : Type 0 where
  pub base_kept : engine.revisions.floor ≤ rev
  pub base_known : rev ≤ head engine.revisions
  pub canonical : IsCanonical fitting.edit.units
  pub base : fitting.edit.units.base ≡ length (shown_at engine.union engine.revisions rev)
  pub room : IsRoom engine (length (added_text fitting.edit.units)) fitting.spent

-- the base of the edit is kept, its delta fits the text of that, and these are its characters
pub record IsUnitsFor (engine : State) (edit : Edit) (units : UnitDelta) : Type 0 where
  pub kept : IsKeptAt engine.revisions edit.rev
  pub fits : Fits (shown_at engine.union engine.revisions edit.rev) edit.delta
  pub says : IsUnitsOf (shown_at engine.union engine.revisions edit.rev) edit.delta units

-- it says in characters what the edit says in bytes, which fits the text
pub record IsAnswered (engine : State) (edit : Edit) (fitting : Fitting) : Type 0 where
  pub fits : Fits (shown_at engine.union engine.revisions edit.rev) edit.delta
  pub units : IsUnitsOf (shown_at engine.union engine.revisions edit.rev) edit.delta fitting.edit.units
  pub group : edit.group ≡ fitting.edit.group
  pub priority : edit.priority ≡ fitting.edit.priority
  pub author : edit.author ≡ fitting.edit.author

-- what an edit asks of the revisions and the characters that it is put into
pub record IsBasedOn (union : List ℕ) (revisions : History) (rev : ℕ) (units : UnitDelta) : Type 0 where
  pub base_kept : revisions.floor ≤ rev
  pub base_known : rev ≤ head revisions
  pub alive : units.base ≡ length (visible_at revisions rev)
  pub positions : length union ≡ length revisions.characters

-- THE EDIT IS PUT IN: its text into the characters, and its revision
pub record IsPutIn (union : List ℕ) (revisions : History) (rev : ℕ) (edit : UnitEdit) (union_after : List ℕ) (revisions_after : History) : Type 0 where
  pub union_is : union_after ≡ put_in (insertion_flags revisions (in_characters rev edit)) (added_text edit.units) union
  pub revisions_is : revisions_after ≡ after_edit revisions (in_positions revisions (in_characters rev edit))

-- the engine after an edit
pub record IsNext (engine : State) (rev : ℕ) (fitting : Fitting) (next : State) : Type 0 where
  pub put : IsPutIn engine.union engine.revisions rev fitting.edit next.union next.revisions
  pub limit : next.limit ≡ engine.limit
  pub spent : next.spent ≡ fitting.spent

-- the engine after a collection: of the characters those that are not dropped, and of the revisions what is left
pub record IsNextLeft (engine : State) (floor : ℕ) (groups : List ℕ) (next : State) : Type 0 where
  pub union_is : next.union ≡ items_outside (map (is_dropped (collected_at engine.revisions floor groups)) engine.revisions.characters) engine.union
  pub revisions_is : next.revisions ≡ left_of (collected_at engine.revisions floor groups)
  pub limit : next.limit ≡ engine.limit
  pub spent : next.spent ≡ engine.spent
