-- A visit at a door is one at the session behind it.
use Rattle.std.proofs.Common.{◌≡◌, ℕ, List, ◌∷◌, subst}
use Rattle.xi_plain.specs.declared.entry.Entry.{Entry}
use Rattle.plugin_session.specs.declared.after.After.{After}
use Rattle.plugin_session.specs.declared.after.After.TheVariants.{Over}
use Rattle.plugin_session.specs.Visit.{IsVisit, IsWhole, PortState, Visit, after_visit, port_of}
use Rattle.session_step.specs.declared.terms.Terms.{Terms}
use Rattle.turn_laws.specs.Visits.{IsNextVisit, IsServedBy}

pub next_of : (terms other : Terms) (caller number : ℕ) (port port_after : PortState) (before first after : List Entry) (visit : Visit) (ended : After) →
    other ≡ terms → number ≡ caller → first ≡ before → IsVisit port visit → port_after ≡ after_visit port visit → visit.after ≡ ended →
    ((visits : List Visit) → port ≡ port_of number visits → IsServedBy other number first visits →
    IsServedBy other number after (visit ∷ visits) × (visit.after ≡ Over → IsWhole (visit ∷ visits))) →
    IsNextVisit terms caller port port_after before after ended
next_of terms other caller number port port_after before first after visit ended same is was fits moved ends served =
    subst (λ t. IsNextVisit t caller port port_after before after ended) same
    (subst (λ n. IsNextVisit other n port port_after before after ended) is
    (subst (λ log. IsNextVisit other number port port_after log after ended) was
    (record { visit = visit; fits = fits; moved = moved; ended_is = ends; served = served })))
