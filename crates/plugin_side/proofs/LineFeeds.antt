-- Whether there is a line feed among bytes.
use Rattle.std.proofs.Common.{◌≡◌, ℕ, ◌==◌, List, [], ◌∷◌, Bool, true, false, not, refl, sym, ap, ◌∙◌}
use Rattle.std.specs.Prelude.{◌↔◌, IsTrue}
use Rattle.std.specs.List.{list_any}
use Rattle.std.proofs.lemmas.Bool.{eq-eqb, ne_eqb, or_parts, or_from, true≢false, false≢true}
use Rattle.json_rpc.specs.Line.{HasNoLf}

none_there : (bytes : List ℕ) → list_any (λ b. b == 10) bytes ≡ false → HasNoLf bytes
none_there [] e = tt
none_there (b ∷ bytes) e =
    let parts = or_parts (b == 10) (list_any (λ x. x == 10) bytes) e in
    (λ is. true≢false (sym (eq-eqb b 10 is) ∙ parts.0), none_there bytes parts.1)

none_found : (bytes : List ℕ) → HasNoLf bytes → list_any (λ b. b == 10) bytes ≡ false
none_found [] h = refl
none_found (b ∷ bytes) h = or_from (b == 10) (list_any (λ x. x == 10) bytes) (ne_eqb b 10 h.0) (none_found bytes h.1)

not_from : (found : Bool) → IsTrue (not found) → found ≡ false
not_from true h = absurd (false≢true h)
not_from false h = refl

-- the answer of a search for one, turned round
pub HasNoLf-not_found : (bytes : List ℕ) (found : Bool) → found ≡ list_any (λ b. b == 10) bytes → IsTrue (not found) ↔ HasNoLf bytes
HasNoLf-not_found bytes found is = (λ h. none_there bytes (sym is ∙ not_from found h), λ h. ap not (is ∙ none_found bytes h))
