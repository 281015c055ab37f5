-- How a worker goes on from visit to visit. Private functions alone speak of it.
use Rattle.std.specs.Prelude.{◌≡◌, ◌≤◌, ℕ, Bool, true, false, List, ◌∷◌, Option, length}
use Rattle.xi_plain.specs.declared.entry.Entry.{Entry}
use Rattle.xi_plain.specs.declared.ask.Ask.{Ask}
use Rattle.xi_plain.specs.declared.ask.Query.{Query}
use Rattle.xi_plain.specs.declared.reply.Reply.{Reply}
use Rattle.xi_plain.specs.declared.reply.Answer.{Answer}
use Rattle.xi_plain.specs.Room.{Begins}
use Rattle.room_lock.specs.Room.{Known, IsSamePass}
use Rattle.plugin_session.specs.declared.after.After.{After}
use Rattle.plugin_session.specs.declared.after.After.TheVariants as came
use Rattle.plugin_session.specs.Turn.{Turned, TellsMore}
use Rattle.plugin_session.specs.Visit.{Visit, PortState, IsServed, IsWhole, after_visit, port_of, turns_of}

-- the port is that of the pass, its place is in what was seen, and its session has not ended
pub record IsOpenAt (port : PortState) (pass : Known) : Type 0 where
  pub open_ : port.ended ≡ false
  pub caller : pass.caller ≡ port.caller
  pub place : port.place ≤ length pass.seen

-- whether the session ended of itself
abbrev pub is_over : After → Bool
is_over came.Turned = false
is_over came.Idle = false
is_over came.Over = true
is_over came.NoMemory = false

module _ (serves : List Entry → ℕ → Ask → Reply → List Entry → Type 0) (answers : List Entry → ℕ → Query → Answer → Type 0) where
  -- a visit of a port by a pass that may see more, with what the plugin tells more, and what came of it
  pub record Visits (port port_after : PortState) (before after : Known) (turns turns_after : Option (List Turned)) (ended : After) : Type 0 where
    pub same : IsSamePass before after
    pub seen : Begins before.seen after.seen
    pub visit : Visit
    pub moved : port_after ≡ after_visit port visit
    pub place : port_after.place ≤ length after.seen
    pub tells : TellsMore turns turns_after visit.turns
    pub ends : visit.after ≡ ended
    pub served : (visits : List Visit) → port ≡ port_of before.caller visits → IsServed serves answers before.caller before.seen visits
        → IsServed serves answers before.caller after.seen (visit ∷ visits) × (visit.after ≡ came.Over → IsWhole (visit ∷ visits))

  -- the visits so far, of the port that goes on
  pub record SoFar (port : PortState) (before now : Known) (turns turns_now : Option (List Turned)) : Type 0 where
    pub open_ : IsOpenAt port now
    pub same : IsSamePass before now
    pub seen : Begins before.seen now.seen
    pub visits : List Visit
    pub port_is : port ≡ port_of before.caller visits
    pub served : IsServed serves answers before.caller now.seen visits
    pub tells : TellsMore turns turns_now (turns_of visits)
