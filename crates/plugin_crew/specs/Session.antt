-- THE SESSION OF A PLUGIN in a run.
use Rattle.std.specs.Prelude.{◌≡◌, ◌≤◌, ℕ, List, Option, length}
use Rattle.xi_plain.specs.declared.entry.Entry.{Entry}
use Rattle.xi_plain.specs.declared.ask.Ask.{Ask}
use Rattle.xi_plain.specs.declared.ask.Query.{Query}
use Rattle.xi_plain.specs.declared.reply.Reply.{Reply}
use Rattle.xi_plain.specs.declared.reply.Answer.{Answer}
use Rattle.plugin_session.specs.Turn.{Turned, TellsMore}
use Rattle.plugin_session.specs.Visit.{Visit, PortState, IsServed, port_of, turns_of}
use Rattle.plugin_crew.specs.declared.standing.Standing.{Standing}
use Rattle.plugin_crew.specs.Standing.{HasStanding}

module _ (serves : List Entry → ℕ → Ask → Reply → List Entry → Type 0) (answers : List Entry → ℕ → Query → Answer → Type 0) where
  -- THE PLUGIN IS SERVED by the journal: these are its visits, after which its port and its session stand so; the turns that it tells more
  -- than it told at first are theirs
  pub record IsSession (caller : ℕ) (journal : List Entry) (port : PortState) (began told : Option (List Turned)) (standing : Standing)
      (visits : List Visit) : Type 0 where
    pub moved : port ≡ port_of caller visits
    pub place : port.place ≤ length journal
    pub served : IsServed serves answers caller journal visits
    pub tells : TellsMore began told (turns_of visits)
    pub stands : HasStanding standing visits
