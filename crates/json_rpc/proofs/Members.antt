-- What an object has after one of its members is taken out.
use Rattle.std.proofs.Common.{◌≡◌, ◌≢◌, ℕ, List, [], ◌∷◌, Some, Bool, true, false, cond, string_bytes, nat_cmp, is_eq, refl, sym, ap, ◌∙◌}
use Rattle.std.proofs.lemmas.Map.Text.{is_eq-slice_cmp}
use Rattle.std.proofs.lemmas.Slice.Eq.{bytes_eq-Decides}
use Rattle.std.specs.BTreeMap.{is_at}
use Rattle.std.specs.Cmp.Lexicographic.{slice_cmp}
use Rattle.std.specs.Map.{remove_entry}
use Rattle.std.specs.Ordering.{match_ordering}
use Rattle.serde_json.specs.Find.{get_member}
use Rattle.serde_json.specs.View.{view, members_view}
use Rattle.serde_json.proofs.Views.{Entry, member_later}

removed_or_not : (name other : List ℕ) (e : Entry) (es rest : List Entry) (b : Bool) → is_eq (slice_cmp nat_cmp name (string_bytes e.0)) ≡ b → other ≢ name
    → get_member other (members_view rest) ≡ get_member other (members_view es) → get_member other (members_view (cond b es (e ∷ rest))) ≡ get_member other (members_view (e ∷ es))
removed_or_not name other e es rest true is apart same =
    let key : name ≡ string_bytes e.0 = (bytes_eq-Decides name (string_bytes e.0)).0 (sym (is_eq-slice_cmp name (string_bytes e.0)) ∙ is) in
    sym (member_later other e es (λ h. apart (h ∙ sym key)))
removed_or_not name other e es rest false is apart same = ap (λ r. match_ordering (slice_cmp nat_cmp other (string_bytes e.0)) r (Some (view e.1)) r) same

-- the other members stay
pub get_member-remove_entry : (name other : List ℕ) (es : List Entry) → other ≢ name
    → get_member other (members_view (remove_entry (is_at (λ k. slice_cmp nat_cmp name (string_bytes k))) es)) ≡ get_member other (members_view es)
get_member-remove_entry name other [] apart = refl
get_member-remove_entry name other (e ∷ es) apart = removed_or_not name other e es _ _ refl apart (get_member-remove_entry name other es apart)
