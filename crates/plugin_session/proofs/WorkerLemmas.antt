-- A worker's visits, one after the other.
use Rattle.std.proofs.Common.{◌≡◌, ℕ, true, false, not, List, [], ◌∷◌, Option, refl, ap, sym, ◌∙◌, subst, arith}
use Rattle.xi_plain.specs.declared.entry.Entry.{Entry}
use Rattle.xi_plain.specs.declared.ask.Ask.{Ask}
use Rattle.xi_plain.specs.declared.ask.Query.{Query}
use Rattle.xi_plain.specs.declared.reply.Reply.{Reply}
use Rattle.xi_plain.specs.declared.reply.Answer.{Answer}
use Rattle.xi_plain.specs.Journal.{entries_of}
use Rattle.room_lock.specs.Room.{Known, IsSamePass, own}
use Rattle.plugin_session.specs.declared.after.After.{After}
use Rattle.plugin_session.specs.declared.after.After.TheVariants as after
use Rattle.plugin_session.specs.Turn.{Turned}
use Rattle.plugin_session.specs.Visit.{Visit, PortState, IsServed, IsWhole, goes_on, after_visit, port_of, new_port, turns_of}
use Rattle.plugin_session.specs.Visiting.{Visits, SoFar, is_over}
use Rattle.plugin_session.specs.Worker.{HasWorked, HasEnded, ServedAtClose}
use Rattle.plugin_session.specs.Seat.{Begins-same, Begins-trans}
use Rattle.plugin_session.proofs.DoorLemmas.{TellsMore-none, TellsMore-append}
use Rattle.plugin_session.proofs.SeatLemmas.{no_own}
use Rattle.plugin_session.proofs.SessionLemmas.{served_stays}

-- a pass that goes on twice is the same one
pub same_on : (a b c : Known) → IsSamePass a b → IsSamePass b c → IsSamePass a c
same_on a b c one two =
    record { room = two.room ∙ one.room; caller = two.caller ∙ one.caller; made = two.made ∙ one.made }

ends : (ended : After) (visit : Visit) (visits : List Visit) → visit.after ≡ ended → not (goes_on ended) ≡ true
    → (visit.after ≡ after.Over → IsWhole (visit ∷ visits)) → HasEnded (is_over ended) (visit ∷ visits)
ends after.Turned visit visits is last whole = absurd cc
ends after.Idle visit visits is last whole = absurd cc
ends after.Over visit visits is last whole = whole is
ends after.NoMemory visit visits is last whole = is

module _ (serves : List Entry → ℕ → Ask → Reply → List Entry → Type 0) (answers : List Entry → ℕ → Query → Answer → Type 0) where
  -- what a pass has seen, and the journal of the closed room
  pub served_at_close : ServedAtClose serves answers
  served_at_close journal pass visits (more, is, own_is) served =
      let none = no_own pass.caller pass.seen more (ap (entries_of pass.caller) (sym is) ∙ own_is) in
      subst (λ x. IsServed serves answers pass.caller x visits) (sym is)
      (served_stays serves answers pass.caller pass.seen more visits served none)

  -- before the first visit
  pub SoFar-start : (port : PortState) (pass : Known) (turns : Option (List Turned)) → port ≡ new_port pass.caller → own pass ≡ []
      → SoFar serves answers port pass pass turns turns
  SoFar-start port pass turns is fresh =
      record {
        open_ = record { open_ = ap (λ p. p.ended) is; caller = sym (ap (λ p. p.caller) is); place = omega (arith, ap (λ p. p.place) is) };
        same = record { room = refl; caller = refl; made = refl };
        seen = Begins-same pass.seen;
        visits = [];
        port_is = is;
        served = record { each = tt; stand = omega arith; alone = fresh };
        tells = TellsMore-none turns;
      }

  -- what a visit more comes to
  more_served : (port port_after : PortState) (before now next : Known) (turns turns_now turns_next : Option (List Turned)) (ended : After)
      → (so_far : SoFar serves answers port before now turns turns_now)
      → (visits : Visits serves answers port port_after now next turns_now turns_next ended)
      → IsServed serves answers before.caller next.seen (visits.visit ∷ so_far.visits) × (visits.visit.after ≡ after.Over → IsWhole (visits.visit ∷ so_far.visits))
  more_served port port_after before now next turns turns_now turns_next ended so_far visits =
      let who = so_far.same.caller in
      subst (λ c. IsServed serves answers c next.seen (visits.visit ∷ so_far.visits) × (visits.visit.after ≡ after.Over → IsWhole (visits.visit ∷ so_far.visits))) who
      (visits.served so_far.visits (so_far.port_is ∙ ap (λ c. port_of c so_far.visits) (sym who))
      (subst (λ c. IsServed serves answers c now.seen so_far.visits) (sym who) so_far.served))

  pub SoFar-on : (port port_after : PortState) (before now next : Known) (turns turns_now turns_next : Option (List Turned)) (ended : After)
      → SoFar serves answers port before now turns turns_now → Visits serves answers port port_after now next turns_now turns_next ended
      → not (goes_on ended) ≡ false → SoFar serves answers port_after before next turns turns_next
  SoFar-on port port_after before now next turns turns_now turns_next ended so_far visits going =
      let visit = visits.visit in
      record {
        open_ =
            record {
              open_ = ap (λ p. p.ended) visits.moved ∙ ap (λ e. not (goes_on e)) visits.ends ∙ going;
              caller = visits.same.caller ∙ so_far.open_.caller ∙ sym (ap (λ p. p.caller) visits.moved);
              place = visits.place;
            };
        same = same_on before now next so_far.same visits.same;
        seen = Begins-trans before.seen now.seen next.seen so_far.seen visits.seen;
        visits = visit ∷ so_far.visits;
        port_is = visits.moved ∙ ap (λ p. after_visit p visit) so_far.port_is;
        served = (more_served port port_after before now next turns turns_now turns_next ended so_far visits).0;
        tells = TellsMore-append turns turns_now turns_next (turns_of so_far.visits) visit.turns so_far.tells visits.tells;
      }

  -- and what the last one
  pub SoFar-ends : (port port_after : PortState) (before now next : Known) (turns turns_now turns_next : Option (List Turned)) (ended : After)
      → SoFar serves answers port before now turns turns_now → Visits serves answers port port_after now next turns_now turns_next ended
      → not (goes_on ended) ≡ true → HasWorked serves answers before next turns turns_next (is_over ended)
  SoFar-ends port port_after before now next turns turns_now turns_next ended so_far visits last =
      let visit = visits.visit in
      let served = more_served port port_after before now next turns turns_now turns_next ended so_far visits in
      record {
        same = same_on before now next so_far.same visits.same;
        seen = Begins-trans before.seen now.seen next.seen so_far.seen visits.seen;
        visits = visit ∷ so_far.visits;
        served = served.0;
        tells = TellsMore-append turns turns_now turns_next (turns_of so_far.visits) visit.turns so_far.tells visits.tells;
        ended = ends ended visit so_far.visits visits.ends last served.1;
      }
