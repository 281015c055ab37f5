-- What private functions say: the steps of a revision, an undo and a collection.
use Rattle.std.specs.Prelude.{◌≡◌, ℕ, ◌+◌, ◌^◌, ◌<◌, ◌≤◌, true, false, List, length, Option, Some, None, ⊤}
use Rattle.std.specs.Arc.{arc_value}
use Rattle.std.specs.List.{AllByRecursion}
use Rattle.plain_text.specs.Numbers.{has, turned}
use Rattle.plain_edits.specs.History.{History, head, inserted_count, text_at}
use Rattle.plain_edits.specs.Undo.{undone_now}
use Rattle.plain_edits.specs.UnitDelta.{IsCanonical}
use Rattle.plain_edits.specs.declared.delta.UnitDelta.{UnitDelta}
use Rattle.delta_core.specs.Elements.{delta_of}
use Rattle.rev_engine.specs.declared.edit.Change.{Change}
use Rattle.rev_engine.specs.declared.edit.UnitEdit.{UnitEdit}
use Rattle.rev_engine.specs.State.{State}
use Rattle.rev_engine.specs.Engine.{IsChange, IsSaidBy, StandsFor}
use Rattle.rev_engine.specs.Asked.{IsCollectionTaken}
use Rattle.rev_engine.specs.Given.{AskedEdit, after}
use Rattle.selection_core.specs.Mapped.{length_after}
use Rattle.undo_groups.specs.Groups.{Groups, IsStack}
use Rattle.edit_groups.specs.declared.typing.Typing.{Typing}
use Rattle.doc_layout.specs.Changed.{IsChangeOf}
use Rattle.doc_text.specs.declared.engine_step.EngineStep.{EngineStep}
use Rattle.doc_text.specs.Asking.{front_priority, headed_edit}
use Rattle.doc_text.specs.InMemory.{TextState, head_shown}
use Rattle.doc_text.specs.Writing.{Writing}

-- ---- an engine

-- it stands for some history
abbrev pub StandsForSome : State → Type 0
StandsForSome engine = ∥ ((history : History) × StandsFor engine history) ∥₁

-- ---- edits

-- the engine stands for the history, and the edit in characters says this edit of its head text
pub record SaysSome (engine : State) (edit : UnitEdit) (history : History) (asked : AskedEdit) : Type 0 where
  pub stands : StandsFor engine history
  pub said : IsSaidBy history edit asked

-- the engine stands for some history, of which the edit says some edit
abbrev pub IsSaidOfSome : State → UnitEdit → Type 0
IsSaidOfSome engine edit = ∥ ((history : History) × (asked : AskedEdit) × SaysSome engine edit history asked) ∥₁

-- an edit in characters is the front end's, of what the engine shows
pub record IsFrontEdit (engine : State) (edit : UnitEdit) : Type 0 where
  pub canonical : IsCanonical edit.units
  pub base : edit.units.base ≡ length (head_shown engine)
  pub priority : edit.priority ≡ front_priority
  pub author : edit.author ≡ 0

-- the edit that it says
abbrev pub unit_edit : ℕ → History → UnitDelta → AskedEdit
unit_edit group history units = headed_edit group history (delta_of (text_at history (head history)) units)

-- a step is this engine with this change
pub record IsShared (engine : State) (change : Change) (step : EngineStep) : Type 0 where
  pub engine_is : arc_value step.engine ≡ engine
  pub change_is : step.change ≡ change

-- what every edit makes of an engine, whatever the history: a change of the head text, and 64 bits count the characters after it
pub record IsStepFrom (engine : State) (step : EngineStep) : Type 0 where
  pub changes : IsChangeOf (head_shown engine) (head_shown (arc_value step.engine)) step.change.units
  pub counted : length (head_shown (arc_value step.engine)) < 2 ^ 64
  pub limit : (arc_value step.engine).limit ≡ engine.limit

-- what a revision makes is that of the history after it, in which the text before it stays: the engine, and the change
pub record IsAfter (history next : History) (step : EngineStep) : Type 0 where
  pub one_more : head next ≡ head history + 1
  pub same_floor : next.floor ≡ history.floor
  pub text_before : text_at next (head history) ≡ text_at history (head history)
  pub stands : StandsFor (arc_value step.engine) next
  pub within : inserted_count next ≤ (arc_value step.engine).limit
  pub changes : IsChange history next step.change

-- the same of an edit that is asked for
abbrev pub IsAfterEdit : History → AskedEdit → EngineStep → Type 0
IsAfterEdit history asked step = IsAfter history (after history asked) step

-- it takes no gap past the end of the text after it
abbrev pub EndsWithin : EngineStep → Type 0
EndsWithin step = length_after step.change.units ≤ length (head_shown (arc_value step.engine))

-- the text with this history, and its groups and its run as they were left
abbrev pub left_text : Writing → History → Groups → Option Typing → Writing
left_text text history groups typing = record text { history = history; groups = groups; typing = typing }

-- ---- undo groups

-- a live group is undone or given back, and nothing else changes
pub record IsTurned (before next : Groups) (group : ℕ) : Type 0 where
  pub sound : IsStack next
  pub is_live : has before.live group ≡ true
  pub undone : next.undone ≡ turned before.undone group
  pub live : next.live ≡ before.live
  pub retired : next.retired ≡ before.retired
  pub given : next.given ≡ before.given

-- so it is with the group that an undo or a redo takes, where there is one
abbrev pub IsTurnedBy : Groups → Groups → Option ℕ → Type 0
IsTurnedBy before next None = ⊤
IsTurnedBy before next (Some group) = IsTurned before next group

-- a revision may be made in this group: it counts from 1 and is not collected; and it is not undone
pub record IsOpenGroup (revisions : History) (group : ℕ) : Type 0 where
  pub counts : 1 ≤ group
  pub kept : has revisions.collected group ≡ false
  pub shown : has (undone_now revisions) group ≡ false

-- ---- collections

-- these groups may be collected at the floor: the engine takes it, and the stack has retired them
pub record MayCollectIn (text : TextState) (floor : ℕ) (groups : List ℕ) : Type 0 where
  pub taken : IsCollectionTaken text.engine.revisions floor groups
  pub retired : AllByRecursion (λ group. has text.groups.retired group ≡ true) groups
