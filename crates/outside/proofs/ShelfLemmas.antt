-- What a path has after another was set.
use Rattle.std.proofs.Common.{◌≡◌, ℕ, Bool, true, false, cond, List, [], ◌∷◌, Option, Some, refl, sym, ap, ◌∙◌, arith}
use Rattle.std.specs.declared.cmp.Ordering.{Ordering}
use Rattle.std.specs.declared.cmp.Ordering.TheVariants.{Less, Equal, Greater}
use Rattle.std.specs.Ordering.{is_eq, match_ordering, ordering_reverse}
use Rattle.std.specs.Cmp.{IsTotalOrder}
use Rattle.std.specs.Map.{lookup}
use Rattle.std.specs.BTreeMap.{is_at, insert_entry}
use Rattle.std.specs.Cmp.Lexicographic.{nat_list_cmp_total}
use Rattle.std.specs.Str.{chars, encode_utf8_all, all_scalars, bytes_eq}
use Rattle.std.proofs.lemmas.Bool.{false_from_ne_true}
use Rattle.std.proofs.lemmas.Str.{chars-encodes}
use Rattle.std.proofs.lemmas.Map.Text.{is_eq-slice_cmp}
use Rattle.std.proofs.lemmas.Slice.Eq.{bytes_eq-Decides}
use Rattle.std.proofs.lemmas.Cmp.{on_total}
use Rattle.outside.specs.Shelf.{path_cmp, bytes_of, with_file}
use Rattle.outside.specs.ShelfLaws.{SetPathsHaveTheirBytes, OtherPathsStay}

path_cmp_total : IsTotalOrder path_cmp
path_cmp_total = on_total encode_utf8_all nat_list_cmp_total

-- one of two choices made twice
cond_twice : {X : Type 0} (b c : Bool) (x y z : X) → b ≡ c → cond b x z ≡ cond c x (cond b y z)
cond_twice true true x y z same = refl
cond_twice false false x y z same = refl
cond_twice true false x y z same = grind (arith, same)
cond_twice false true x y z same = grind (arith, same)

-- two choices of which one at most is made
cond_apart : {X : Type 0} (b c : Bool) (x y z : X) → (b ≡ true → c ≡ true → ⊥) → cond b y (cond c x z) ≡ cond c x (cond b y z)
cond_apart true true x y z apart = absurd (apart refl refl)
cond_apart true false x y z apart = refl
cond_apart false true x y z apart = refl
cond_apart false false x y z apart = refl

equal_from_is_eq : (c : Ordering) → is_eq c ≡ true → c ≡ Equal
equal_from_is_eq Less is = grind (arith, is)
equal_from_is_eq Equal is = refl
equal_from_is_eq Greater is = grind (arith, is)

module _ {K : Type 0} {R : K → K → Ordering} (o : IsTotalOrder R) where
  -- a key compares alike to two that are equal
  same_place : (q k e : K) → R k e ≡ Equal → R q e ≡ R q k
  same_place q k e same = o.antisymm q e ∙ ap ordering_reverse (sym (o.congr k e q same)) ∙ sym (o.antisymm q k)

  not_both : (q k e : K) → R k e ≡ Greater → is_eq (R q e) ≡ true → is_eq (R q k) ≡ true → ⊥
  not_both q k e above at_e at_k =
      let same : Equal ≡ Greater = sym (equal_from_is_eq (R q e) at_e) ∙ o.congr q k e (equal_from_is_eq (R q k) at_k) ∙ above in
      grind (arith, same)

module _ {K X : Type 0} {R : K → K → Ordering} (o : IsTotalOrder R) where
  -- what a key has after another was set
  lookup-insert_entry : (q k : K) (v : X) (es : List (K × X)) →
      lookup (is_at (R q)) (insert_entry R es k v) ≡ cond (is_eq (R q k)) (Some v) (lookup (is_at (R q)) es)
  lookup-insert_entry q k v [] = refl
  lookup-insert_entry q k v (e ∷ es) =
      let rest : Option X = lookup (is_at (R q)) es in
      let Has : List (K × X) → Type 0 = λ ys.
      lookup (is_at (R q)) ys ≡ cond (is_eq (R q k)) (Some v) (cond (is_eq (R q e.0)) (Some e.1) rest) in
      elim (R k e.0) as (λ c. R k e.0 ≡ c →
      Has (match_ordering c ((k, v) ∷ e ∷ es) ((e.0, v) ∷ es) (e ∷ insert_entry R es k v))) [
        | Less ↦ λ below. refl
        | Equal ↦ λ same. cond_twice (is_eq (R q e.0)) (is_eq (R q k)) (Some v) (Some e.1) rest
            (ap is_eq (same_place o q k e.0 same))
        | Greater ↦ λ above.
            ap (λ found. cond (is_eq (R q e.0)) (Some e.1) found) (lookup-insert_entry q k v es) ∙
            cond_apart (is_eq (R q e.0)) (is_eq (R q k)) (Some v) (Some e.1) rest (not_both o q k e.0 above)
      ] refl

-- what a path has after another was set
pub bytes_of-with_file : (files : List (List ℕ × List ℕ)) (path other bytes : List ℕ) →
    bytes_of (with_file files path bytes) other ≡ cond (is_eq (path_cmp other path)) (Some bytes) (bytes_of files other)
bytes_of-with_file files path other bytes = lookup-insert_entry path_cmp_total other path bytes files

same_bytes : (path other : List ℕ) → all_scalars path ≡ true → all_scalars other ≡ true → encode_utf8_all other ≡ encode_utf8_all path → other ≡ path
same_bytes path other is_path is_other same =
    sym (chars-encodes other is_other) ∙ ap chars same ∙ chars-encodes path is_path

pub SetPathsHaveTheirBytes-proof : SetPathsHaveTheirBytes
SetPathsHaveTheirBytes-proof files path bytes =
    let at : is_eq (path_cmp path path) ≡ true =
    is_eq-slice_cmp (encode_utf8_all path) (encode_utf8_all path) ∙ (bytes_eq-Decides (encode_utf8_all path) (encode_utf8_all path)).1 refl in
    bytes_of-with_file files path path bytes ∙ ap (λ b. cond b (Some bytes) (bytes_of files path)) at

pub OtherPathsStay-proof : OtherPathsStay
OtherPathsStay-proof files path other bytes is_path is_other differ =
    let apart : is_eq (path_cmp other path) ≡ false =
    is_eq-slice_cmp (encode_utf8_all other) (encode_utf8_all path) ∙
    false_from_ne_true (bytes_eq (encode_utf8_all other) (encode_utf8_all path)) (λ same.
    differ (same_bytes path other is_path is_other ((bytes_eq-Decides (encode_utf8_all other) (encode_utf8_all path)).0 same))) in
    bytes_of-with_file files path other bytes ∙ ap (λ b. cond b (Some bytes) (bytes_of files other)) apart
