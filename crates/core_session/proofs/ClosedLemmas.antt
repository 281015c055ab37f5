-- What a session wrote before its first entry.
use Rattle.session_step.specs.declared.terms.Terms.{Terms}
use Rattle.std.proofs.Common.{◌≡◌, List, [], ◌∷◌, ◌++◌, refl}
use Rattle.xi_plain.specs.declared.entry.Entry.{Entry}
use Rattle.session_step.specs.Session.{first_session, views_of, written}
use Rattle.core_session.specs.Shows.{AreShown, last_requested, Shows}

-- no byte shows no entry
pub shows_none : (terms : Terms) → Shows terms [] []
shows_none terms = record {
  pieces = refl;
  screens = λ front back is. none_before front back is;
  sends = λ front entry back is. absurd (none_there front entry back is);
}
  where
    none_before : (front back : List Entry) → [] ≡ front ++ back → AreShown (last_requested front) (views_of terms front) (written (first_session terms) front)
    none_before [] back is = tt
    none_before (entry ∷ front) back is = absurd cc

    none_there : (front : List Entry) (entry : Entry) (back : List Entry) → [] ≡ front ++ (entry ∷ back) → ⊥
    none_there [] entry back is = cc
    none_there (first ∷ front) entry back is = cc
