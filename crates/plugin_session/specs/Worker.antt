-- A WORKER: a plugin that has its turns at a room, until its session is over.
use Rattle.std.specs.Prelude.{◌≡◌, ℕ, Bool, true, false, List, [], ◌∷◌, Option}
use Rattle.atomic_table.specs.Seated.{TableId}
use Rattle.xi_plain.specs.declared.entry.Entry.{Entry}
use Rattle.xi_plain.specs.declared.ask.Ask.{Ask}
use Rattle.xi_plain.specs.declared.ask.Query.{Query}
use Rattle.xi_plain.specs.declared.reply.Reply.{Reply}
use Rattle.xi_plain.specs.declared.reply.Answer.{Answer}
use Rattle.xi_plain.specs.Room.{Begins}
use Rattle.room_lock.specs.Room.{Known, IsSamePass, IsKnownOf, own}
use Rattle.plugin_session.specs.declared.after.After.TheVariants.{NoMemory}
use Rattle.plugin_session.specs.Turn.{Turned, TellsMore}
use Rattle.plugin_session.specs.Seat.{IsUsable}
use Rattle.plugin_session.specs.Visit.{Visit, IsServed, IsWhole, turns_of}

-- the pass is one of a plugin in this room, which was made with this object, and its caller has no entry yet
pub record MayWork {O : Type 0} (fits : O → ℕ → Ask → Type 0) (legal : O → List Entry → Type 0) (room : TableId) (first : O) (pass : Known) : Type 0 where
  pub here : pass.room ≡ room
  pub usable : IsUsable fits legal first pass
  pub fresh : own pass ≡ []

-- how a session ended that is over: it is whole; or memory was wanting
abbrev pub HasEnded : Bool → List Visit → Type 0
HasEnded true visits = IsWhole visits
HasEnded false [] = ⊥
HasEnded false (visit ∷ visits) = visit.after ≡ NoMemory

module _ (serves : List Entry → ℕ → Ask → Reply → List Entry → Type 0) (answers : List Entry → ℕ → Query → Answer → Type 0) where
  -- WHAT A WORKER DID: the pass that it was given may have seen more, and this serves the visits whose turns the plugin tells more; they
  -- ended so
  pub record HasWorked (before after : Known) (turns turns_after : Option (List Turned)) (over : Bool) : Type 0 where
    pub same : IsSamePass before after
    pub seen : Begins before.seen after.seen
    pub visits : List Visit
    pub served : IsServed serves answers before.caller after.seen visits
    pub tells : TellsMore turns turns_after (turns_of visits)
    pub ended : HasEnded over visits

  -- THE CLOSED ROOM: what a pass has seen serves visits, and so does every journal that the pass knows, as that of the closed room
  abbrev pub ServedAtClose : Type 0
  ServedAtClose =
      (journal : List Entry) (pass : Known) (visits : List Visit) → IsKnownOf journal pass
      → IsServed serves answers pass.caller pass.seen visits → IsServed serves answers pass.caller journal visits
