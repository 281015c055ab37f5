-- A session, past the entries of others, and with one visit more.
use Rattle.std.proofs.Common.{◌≡◌, ◌≤◌, ℕ, false, not, List, [], ◌∷◌, ◌++◌, length, Option, refl, ap, sym, ◌∙◌, subst, arith}
use Rattle.std.proofs.lemmas.List.{length-append}
use Rattle.xi_plain.specs.declared.entry.Entry.{Entry}
use Rattle.xi_plain.specs.declared.ask.Ask.{Ask}
use Rattle.xi_plain.specs.declared.ask.Query.{Query}
use Rattle.xi_plain.specs.declared.reply.Reply.{Reply}
use Rattle.xi_plain.specs.declared.reply.Answer.{Answer}
use Rattle.xi_plain.specs.Journal.{entries_of}
use Rattle.plugin_session.specs.declared.after.After.{After}
use Rattle.plugin_session.specs.declared.after.After.TheVariants as after
use Rattle.plugin_session.specs.Turn.{Turned, TellsMore}
use Rattle.plugin_session.specs.Call.{Went}
use Rattle.plugin_session.specs.Visit.{Visit, PortState, IsVisit, AreVisits, IsWhole, goes_on, after_visit, new_port, port_of, turns_of}
use Rattle.plugin_session.proofs.ForCallers.{TellsMore-none, TellsMore-append, served_further, served_stays, over_is_whole}
use Rattle.plugin_crew.specs.declared.standing.Standing.{Standing}
use Rattle.plugin_crew.specs.declared.standing.Standing.TheVariants.{Going, Over, Short}
use Rattle.plugin_crew.specs.Standing.{standing_after, is_going, is_open, HasStanding}
use Rattle.plugin_crew.specs.Session.{IsSession}

-- how a session stands after one visit more
stands : (caller : ℕ) (visit : Visit) (visits : List Visit) (ended : After) → visit.after ≡ ended → AreVisits caller (visit ∷ visits)
    → HasStanding (standing_after ended) (visit ∷ visits)
stands caller visit visits after.Turned is each = ap goes_on is
stands caller visit visits after.Idle is each = ap goes_on is
stands caller visit visits after.Over is each = over_is_whole caller visit visits each is
stands caller visit visits after.NoMemory is each = is

-- a session that is over, or lacked memory, does not go on
whole_ended : (visits : List Visit) → IsWhole visits → is_open visits ≡ false
whole_ended [] whole = absurd whole
whole_ended (visit ∷ visits) whole = ap goes_on whole.1

short_ended : (visits : List Visit) → HasStanding Short visits → is_open visits ≡ false
short_ended [] short = absurd short
short_ended (visit ∷ visits) short = ap goes_on short

pub open_as : (standing : Standing) (visits : List Visit) → HasStanding standing visits → is_open visits ≡ is_going standing
open_as Going visits is = is
open_as Over visits is = whole_ended visits is
open_as Short visits is = short_ended visits is

-- the port after some visits: it has ended where they have, and its caller is the same
pub port_ended : (caller : ℕ) (visits : List Visit) → (port_of caller visits).ended ≡ not (is_open visits)
port_ended caller [] = refl
port_ended caller (visit ∷ visits) = refl

pub port_caller : (caller : ℕ) (visits : List Visit) → (port_of caller visits).caller ≡ caller
port_caller caller [] = refl
port_caller caller (visit ∷ visits) = port_caller caller visits

module _ (serves : List Entry → ℕ → Ask → Reply → List Entry → Type 0) (answers : List Entry → ℕ → Query → Answer → Type 0) where
  -- before the first visit
  pub session_new : (caller : ℕ) (journal : List Entry) (port : PortState) (began told : Option (List Turned)) (standing : Standing)
      → entries_of caller journal ≡ [] → port ≡ new_port caller → began ≡ told → standing ≡ Going
      → IsSession serves answers caller journal port began told standing []
  session_new caller journal port began told standing none is same going =
      record {
        moved = is;
        place = omega (arith, ap (λ p. p.place) is);
        served = record { each = tt; stand = omega arith; alone = none };
        tells = subst (λ t. TellsMore began t []) same (TellsMore-none began);
        stands = subst (λ s. HasStanding s []) (sym going) refl;
      }

  -- past the entries of others
  pub session_stays : (caller : ℕ) (journal more : List Entry) (port : PortState) (began told : Option (List Turned)) (standing : Standing)
      (visits : List Visit) → entries_of caller more ≡ [] → IsSession serves answers caller journal port began told standing visits
      → IsSession serves answers caller (journal ++ more) port began told standing visits
  session_stays caller journal more port began told standing visits none is =
      record {
        moved = is.moved;
        place = omega (arith, is.place, length-append journal more);
        served = served_stays serves answers caller journal more visits is.served none;
        tells = is.tells;
        stands = is.stands;
      }

  -- one visit more
  pub session_further : (caller : ℕ) (before after : List Entry) (port port_after : PortState) (began told told_after : Option (List Turned))
      (standing : Standing) (visits : List Visit) (visit : Visit) → IsVisit port visit → port_after ≡ after_visit port visit → port_after.place ≤ length after
      → Went serves answers caller before after visit.calls → TellsMore told told_after visit.turns
      → IsSession serves answers caller before port began told standing visits
      → IsSession serves answers caller after port_after began told_after (standing_after visit.after) (visit ∷ visits)
  session_further caller before after port port_after began told told_after standing visits visit fits moved place went tells is =
      let served = served_further serves answers caller before after visits visit is.served (subst (λ p. IsVisit p visit) is.moved fits) went in
      record {
        moved = moved ∙ ap (λ p. after_visit p visit) is.moved;
        place = place;
        served = served;
        tells = TellsMore-append began told told_after (turns_of visits) visit.turns is.tells tells;
        stands = stands caller visit visits visit.after refl served.each;
      }
