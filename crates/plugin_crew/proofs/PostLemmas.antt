-- A plugin of a run on threads: what its worker handed back, and its turns on the calling thread.
use Rattle.std.proofs.Common.{◌≡◌, ◌≤◌, ℕ, Bool, true, false, not, List, [], ◌∷◌, length, Option, refl, ap, sym, ◌∙◌, subst}
use Rattle.std.specs.Bool.{MatchBool}
use Rattle.std.specs.Prelude.{Result}
use Rattle.atomic_table.specs.Seated.{TableId}
use Rattle.xi_plain.specs.declared.entry.Entry.{Entry}
use Rattle.xi_plain.specs.declared.ask.Ask.{Ask}
use Rattle.xi_plain.specs.declared.ask.Query.{Query}
use Rattle.xi_plain.specs.declared.reply.Reply.{Reply}
use Rattle.xi_plain.specs.declared.reply.Answer.{Answer}
use Rattle.xi_plain.specs.Room.{Begins}
use Rattle.room_lock.specs.Room.{Known, IsSamePass}
use Rattle.plugin_session.specs.declared.errand.Errand.{Errand}
use Rattle.plugin_session.specs.declared.errand.Errand.TheVariants.{Leave}
use Rattle.plugin_session.specs.declared.worker.Worked.{Worked}
use Rattle.plugin_session.specs.Turn.{Turned, TellsMore}
use Rattle.plugin_session.specs.Call.{Went}
use Rattle.plugin_session.specs.Visit.{Visit, IsVisit, after_visit}
use Rattle.plugin_session.specs.Seat.{Seated, IsUsable, IsFurther, Begins-same, Begins-trans}
use Rattle.plugin_session.specs.Hired.{Hiring, IsHandedBack}
use Rattle.plugin_session.specs.Worker.{HasEnded, HasWorked, MayWork}
use Rattle.plugin_session.proofs.ForCallers.{same_on}
use Rattle.plugin_crew.specs.declared.standing.Standing.{Standing}
use Rattle.plugin_crew.specs.declared.member.Member.{Member}
use Rattle.plugin_crew.specs.Member.{IsNew}
use Rattle.plugin_crew.specs.Standing.{HasStanding, is_going, standing_after}
use Rattle.plugin_crew.specs.Session.{IsSession}
use Rattle.plugin_crew.specs.Place.{HasTurnHere, IsVisitHere, first_place, place_at}
use Rattle.plugin_crew.specs.Post.{HasServed, IsStay, gathered_of, standing_of}
use Rattle.plugin_crew.proofs.SessionLemmas.{open_as, port_caller, port_ended, session_further, session_new}

-- it is the same pass
same_pass : (pass : Known) → IsSamePass pass pass
same_pass pass = record { room = refl; caller = refl; made = refl }

stands_ended : (over : Bool) (visits : List Visit) → HasEnded over visits → HasStanding (standing_of over) visits
stands_ended true visits ended = ended
stands_ended false [] ended = absurd ended
stands_ended false (visit ∷ visits) ended = ended

-- what is handed back, where errand and result are known
pub handed_as : {P : Type 0} (serves : List Entry → ℕ → Ask → Reply → List Entry → Type 0) (answers : List Entry → ℕ → Query → Answer → Type 0)
    (told : P → Option (List Turned)) (pass : Known) (plugin : P) (errand to : Errand) (handed is : Result (Worked P) (Known × P)) → errand ≡ to → handed ≡ is
    → IsHandedBack serves answers told pass plugin errand handed → IsHandedBack serves answers told pass plugin to is
handed_as serves answers told pass plugin errand to handed is same here back =
    subst (λ e. IsHandedBack serves answers told pass plugin e is) same (subst (IsHandedBack serves answers told pass plugin errand) here back)

-- its session is over
ends_over : (over : Bool) → is_going (standing_of over) ≡ false
ends_over true = refl
ends_over false = refl

module _ {O P : Type 0} (serves : O → List Entry → ℕ → Ask → Reply → List Entry → Type 0)
    (answers : O → List Entry → ℕ → Query → Answer → Type 0) (told : P → Option (List Turned)) where
  -- a worker that came to its end
  pub served_worked : (given : Hiring O P) (worked : Worked P)
      → HasWorked (serves given.first) (answers given.first) given.pass worked.pass (told given.plugin) (told worked.plugin) worked.over
      → HasServed serves answers told given (gathered_of worked)
  served_worked given worked is =
      record {
        same = is.same;
        seen = is.seen;
        visits = is.visits;
        served = is.served;
        tells = is.tells;
        stands = stands_ended worked.over is.visits is.ended;
        ends = ends_over worked.over;
      }

module _ {O P : Type 0} (fits : O → ℕ → Ask → Type 0) (legal : O → List Entry → Type 0)
    (serves : O → List Entry → ℕ → Ask → Reply → List Entry → Type 0) (answers : O → List Entry → ℕ → Query → Answer → Type 0)
    (told : P → Option (List Turned)) where
  -- before the first turn on the calling thread
  pub stay_new : (room : TableId) (given : Hiring O P) (member : Member P) (door : Seated O) → given.errand ≡ Leave → door.first ≡ given.first
      → door.pass ≡ given.pass
      → MayWork fits legal room given.first given.pass → IsNew given.pass.caller given.plugin member
      → IsStay fits legal serves answers told given member door
  stay_new room given member door leaves first is may new =
      record {
        leaves = leaves;
        object = first;
        same = subst (IsSamePass given.pass) (sym is) (same_pass given.pass);
        seen = subst (λ (p : Known). Begins given.pass.seen p.seen) (sym is) (Begins-same given.pass.seen);
        usable = subst (IsUsable fits legal given.first) (sym is) may.usable;
        visits = [];
        session = subst (λ (p : Known). IsSession (serves given.first) (answers given.first) given.pass.caller p.seen member.port (told given.plugin) (told member.plugin) member.standing [])
            (sym is)
            (session_new (serves given.first) (answers given.first) given.pass.caller given.pass.seen member.port (told given.plugin) (told member.plugin) member.standing
            may.fresh new.port (ap told (sym new.now)) new.going);
      }

  -- its place is the first
  pub place_new : (given : Hiring O P) (member : Member P) (door : Seated O) → door.pass ≡ given.pass → IsNew given.pass.caller given.plugin member
      → place_at member door ≡ first_place given.pass
  place_new given member door is new =
      ap (λ (p : Known). record { port = member.port; standing = member.standing; seen = p.seen }) is
      ∙ ap (λ port. record { port = port; standing = member.standing; seen = given.pass.seen }) new.port
      ∙ ap (λ standing. record { port = (first_place given.pass).port; standing = standing; seen = given.pass.seen }) new.going

  -- where the session goes on, the port does, and its caller is that of the door
  pub stay_open : (given : Hiring O P) (member : Member P) (door : Seated O) → IsStay fits legal serves answers told given member door
      → is_going member.standing ≡ true → member.port.ended ≡ false
  stay_open given member door stay going =
      ap (λ p. p.ended) stay.session.moved ∙ port_ended given.pass.caller stay.visits
      ∙ ap not (open_as member.standing stay.visits stay.session.stands ∙ going)

  pub stay_caller : (given : Hiring O P) (member : Member P) (door : Seated O) → IsStay fits legal serves answers told given member door
      → door.pass.caller ≡ member.port.caller
  stay_caller given member door stay =
      stay.same.caller ∙ sym (ap (λ p. p.caller) stay.session.moved ∙ port_caller given.pass.caller stay.visits)

  -- what its door needs
  pub stay_usable : (given : Hiring O P) (member : Member P) (door : Seated O) → IsStay fits legal serves answers told given member door
      → IsUsable fits legal door.first door.pass
  stay_usable given member door stay = subst (λ o. IsUsable fits legal o door.pass) (sym stay.object) stay.usable

  -- one visit more
  pub stay_further : (given : Hiring O P) (member next : Member P) (door after : Seated O) (visit : Visit) → IsVisit member.port visit
      → next.port ≡ after_visit member.port visit → next.port.place ≤ length after.pass.seen → IsFurther door after
      → IsUsable fits legal after.first after.pass
      → Went (serves door.first) (answers door.first) door.pass.caller door.pass.seen after.pass.seen visit.calls
      → TellsMore (told member.plugin) (told next.plugin) visit.turns → next.standing ≡ standing_after visit.after
      → IsStay fits legal serves answers told given member door → IsStay fits legal serves answers told given next after
  stay_further given member next door after visit fits_it moved place further usable went tells standing stay =
      let object = further.object ∙ stay.object in
      let by_first = subst (λ o. Went (serves o) (answers o) door.pass.caller door.pass.seen after.pass.seen visit.calls) stay.object went in
      let by_caller = subst (λ who. Went (serves given.first) (answers given.first) who door.pass.seen after.pass.seen visit.calls) stay.same.caller by_first in
      record {
        leaves = stay.leaves;
        object = object;
        same = same_on given.pass door.pass after.pass stay.same further.same;
        seen = Begins-trans given.pass.seen door.pass.seen after.pass.seen stay.seen further.seen;
        usable = subst (λ o. IsUsable fits legal o after.pass) object usable;
        visits = visit ∷ stay.visits;
        session = subst (λ s. IsSession (serves given.first) (answers given.first) given.pass.caller after.pass.seen next.port (told given.plugin) (told next.plugin) s (visit ∷ stay.visits))
            (sym standing)
            (session_further (serves given.first) (answers given.first) given.pass.caller door.pass.seen after.pass.seen member.port next.port (told given.plugin)
            (told member.plugin) (told next.plugin) member.standing stay.visits visit fits_it moved place by_caller tells stay.session);
      }

  -- which is a turn of its place
  pub stay_turn : (given : Hiring O P) (member next : Member P) (door after : Seated O) (visit : Visit) → is_going member.standing ≡ true
      → IsVisit member.port visit → next.port ≡ after_visit member.port visit → next.standing ≡ standing_after visit.after
      → Went (serves door.first) (answers door.first) door.pass.caller door.pass.seen after.pass.seen visit.calls
      → IsStay fits legal serves answers told given member door
      → HasTurnHere (serves given.first) (answers given.first) (place_at member door) (place_at next after)
  stay_turn given member next door after visit going fits_it moved standing went stay =
      let by_first = subst (λ o. Went (serves o) (answers o) door.pass.caller door.pass.seen after.pass.seen visit.calls) stay.object went in
      let by_caller = subst (λ who. Went (serves given.first) (answers given.first) who door.pass.seen after.pass.seen visit.calls)
      (stay_caller given member door stay) by_first in
      let old = place_at member door in
      let new = place_at next after in
      subst (λ goes. MatchBool goes (IsVisitHere (serves given.first) (answers given.first) old new) (new ≡ old)) (sym going)
      (record { visit = visit; fits = fits_it; moved = moved; stands = standing; went = by_caller })

  -- what it came to, where its session goes on no more
  pub stay_served : (given : Hiring O P) (member : Member P) (door : Seated O) → is_going member.standing ≡ false
      → IsStay fits legal serves answers told given member door
      → HasServed serves answers told given (record { pass = door.pass; plugin = member.plugin; standing = member.standing })
  stay_served given member door over stay =
      record {
        same = stay.same;
        seen = stay.seen;
        visits = stay.visits;
        served = stay.session.served;
        tells = stay.session.tells;
        stands = stay.session.stands;
        ends = over;
      }
