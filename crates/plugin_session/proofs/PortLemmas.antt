-- A visit of a port at a door, and the session that it goes on.
use Rattle.std.proofs.Common.{◌≡◌, ℕ, Bool, true, not, List, Option, subst}
use Rattle.xi_plain.specs.declared.entry.Entry.{Entry}
use Rattle.xi_plain.specs.declared.ask.Ask.{Ask}
use Rattle.xi_plain.specs.declared.ask.Query.{Query}
use Rattle.xi_plain.specs.declared.reply.Reply.{Reply}
use Rattle.xi_plain.specs.declared.reply.Answer.{Answer}
use Rattle.plugin_session.specs.declared.noted.Noted.{Noted}
use Rattle.plugin_session.specs.Call.{Used}
use Rattle.plugin_session.specs.Visit.{Visit, PortState, IsVisit, goes_on, answers_after, place_after, after_visit, port_of}
use Rattle.plugin_session.specs.Port.{Carries}
use Rattle.plugin_session.proofs.DoorLemmas.{went_before}
use Rattle.plugin_session.proofs.SessionLemmas.{served_further}
use Rattle.plugin_session.proofs.WholeLemmas.{over_is_whole}

-- the port after a visit, by its parts
pub port_is : (port : PortState) (visit : Visit) (caller place : ℕ) (answers : List (List ℕ)) (ended : Bool) → caller ≡ port.caller
    → place ≡ place_after port.place visit.calls → answers ≡ answers_after port.answers visit.turns visit.calls
    → ended ≡ not (goes_on visit.after)
    → ◌≡◌ {A = PortState} (record { caller = caller; place = place; answers = answers; begun = true; ended = ended }) (after_visit port visit)
port_is port visit caller place answers ended a b c d = cc

module _ {D : Type 0} (caller : D → ℕ) (journal : D → List Entry)
    (serves : D → List Entry → ℕ → Ask → Reply → List Entry → Type 0) (answers : D → List Entry → ℕ → Query → Answer → Type 0)
    (later : D → D → Type 0) (ready : D → Type 0) (told : D → Option (List Noted))
    (onward : (a b c : D) → later a b → later b c → later a c)
    (serve : (a b : D) (log : List Entry) (who : ℕ) (ask : Ask) (reply : Reply) (done : List Entry) → later a b → serves b log who ask reply done
    → serves a log who ask reply done)
    (answer : (a b : D) (log : List Entry) (who : ℕ) (query : Query) (found : Answer) → later a b → answers b log who query found
    → answers a log who query found) where
  -- the session so far, with this visit
  pub carries_of : (port : PortState) (before after : D) (visit : Visit) → IsVisit port visit
      → Used caller journal serves answers later ready told before after visit.calls
      → Carries caller journal serves answers later ready told port before after visit
  carries_of port before after visit fits used first visits grown same served =
      let fit : IsVisit (port_of (caller before) visits) visit = subst (λ p. IsVisit p visit) same fits in
      let went = went_before caller journal serves answers later ready told onward serve answer first before (caller before) (journal before) (journal after)
      visit.calls grown used.went in
      let all = served_further (serves first) (answers first) (caller before) (journal before) (journal after) visits visit served fit went in
      (all, λ over. over_is_whole (caller before) visit visits all.each over)
