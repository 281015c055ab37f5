-- WHAT ONE CALL OF A PORT DOES at a door, with a plugin.
use Rattle.std.specs.Prelude.{◌≡◌, ℕ, List, ◌∷◌, Option}
use Rattle.xi_plain.specs.declared.entry.Entry.{Entry}
use Rattle.xi_plain.specs.declared.ask.Ask.{Ask}
use Rattle.xi_plain.specs.declared.ask.Query.{Query}
use Rattle.xi_plain.specs.declared.reply.Reply.{Reply}
use Rattle.xi_plain.specs.declared.reply.Answer.{Answer}
use Rattle.plugin_session.specs.declared.noted.Noted.{Noted}
use Rattle.plugin_session.specs.declared.after.After.TheVariants.{Over}
use Rattle.plugin_session.specs.Turn.{Turned, TellsMore}
use Rattle.plugin_session.specs.Call.{Used}
use Rattle.plugin_session.specs.Visit.{Visit, PortState, IsVisit, IsServed, IsWhole, after_visit, port_of}

module _ {D : Type 0} (caller : D → ℕ) (journal : D → List Entry)
    (serves : D → List Entry → ℕ → Ask → Reply → List Entry → Type 0) (answers : D → List Entry → ℕ → Query → Answer → Type 0)
    (later : D → D → Type 0) (ready : D → Type 0) (told : D → Option (List Noted)) where
  -- where the visits so far were served by the door's journal, since a former state of the door, and the port is that after them, they are
  -- served with this visit too, and are whole where it is the last and did not lack memory
  abbrev pub Carries : PortState → D → D → Visit → Type 0
  Carries port before after visit =
      (first : D) (visits : List Visit) → later first before → port ≡ port_of (caller before) visits
      → IsServed (serves first) (answers first) (caller before) (journal before) visits
      → IsServed (serves first) (answers first) (caller before) (journal after) (visit ∷ visits)
      × (visit.after ≡ Over → IsWhole (visit ∷ visits))

  -- a visit, of a port, at a door, with what the plugin tells
  pub record Visited (port port_after : PortState) (before after : D) (turns turns_after : Option (List Turned)) (visit : Visit) : Type 0 where
    pub fits : IsVisit port visit
    pub moved : port_after ≡ after_visit port visit
    pub used : Used caller journal serves answers later ready told before after visit.calls
    pub tells : TellsMore turns turns_after visit.turns
    pub carries : Carries port before after visit
