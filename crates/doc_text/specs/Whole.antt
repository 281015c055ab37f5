-- What the parts of a text in memory keep.
use Rattle.std.specs.Prelude.{◌^◌, ◌≤◌, Option}
use Rattle.plain_edits.specs.History.{History, inserted_count}
use Rattle.rev_engine.specs.State.{State}
use Rattle.rev_engine.specs.Engine.{StandsFor}
use Rattle.undo_groups.specs.Groups.{Groups}
use Rattle.edit_groups.specs.declared.typing.Typing.{Typing}
use Rattle.doc_text.specs.Agree.{Agree}

-- the engine stands for the history, within its limit
pub record IsStateOf (history : History) (engine : State) : Type 0 where
  pub stands : StandsFor engine history
  pub within : inserted_count history ≤ engine.limit
  pub bound : engine.limit ≤ 2 ^ 60

-- it does for some history, and the undo groups and the run of typing agree with that
pub record IsWholeOf (history : History) (engine : State) (groups : Groups) (typing : Option Typing) : Type 0 where
  pub state : IsStateOf history engine
  pub agree : Agree history.revisions history.collected groups typing

-- THE INVARIANT of a text in memory: so it is for some history
abbrev pub IsWhole : State → Groups → Option Typing → Type 0
IsWhole engine groups typing = ∥ ((history : History) × IsWholeOf history engine groups typing) ∥₁
