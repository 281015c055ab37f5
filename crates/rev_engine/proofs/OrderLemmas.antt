-- What edits of one text come to does not depend on their order.
use Rattle.std.proofs.Common.{◌≡◌, ◌≢◌, ℕ, ◌≤◌, ◌⊎◌, inl, inr, Bool, true, false, ◌&&◌, cond, if◌then◌else◌, ◌==◌, List, [], ◌∷◌, flat_map, count_by, IsPermutation, refl, ap, ap₂, sym, subst, ◌∙◌, arith}
use Rattle.std.specs.List.{AllByRecursion, list_all}
use Rattle.std.proofs.lemmas.Bool.{and_from, and_parts, both_ways, eq-eqb, eqb-true}
use Rattle.std.proofs.lemmas.List.Elements.{All-from_recursion, recursion_from_All}
use Rattle.std.proofs.lemmas.List.Sums.{sum_by-cons, AllPass-from_list_all, list_all-from_AllPass}
use Rattle.std.proofs.lemmas.List.Sorted.{All-permutation, sum_by-IsPermutation, IsPermutation-sym}
use Rattle.plain_text.specs.Woven.{woven}
use Rattle.plain_edits.specs.declared.rank.Rank.{Rank}
use Rattle.plain_edits.specs.Rank.{is_lower}
use Rattle.plain_edits.specs.Edits.{PlainEdit, with_earlier, by_rank, merged, insertion_rank}
use Rattle.plain_text.proofs.callers.ListLemmas.{AllByRecursion-weaker, count_by-yes, count_by-no}
use Rattle.plain_edits.proofs.callers.RankLemmas.{is_lower-back, is_lower-other, is_lower-passes, same_rank}
use Rattle.rev_engine.proofs.MergeLemmas.{AllByRecursion-both, IsLower}
use Rattle.rev_engine.proofs.StepLemmas.{AllByRecursion-with_earlier, AllByRecursion-by_rank}

pub AllByRecursion-permutation : {X : Type 0} (P : X → Type 0) (xs ys : List X) → IsPermutation xs ys → AllByRecursion P xs → AllByRecursion P ys
AllByRecursion-permutation P xs ys moved each =
    recursion_from_All P ys (All-permutation P xs ys moved (All-from_recursion P xs each))

-- ---- lists with no two items of one rank

abbrev equals : Rank → Rank → Bool
equals rank other = rank.priority == other.priority && rank.author == other.author

equals-self : (rank : Rank) → equals rank rank ≡ true
equals-self rank = and_from _ _ (eq-eqb rank.priority rank.priority refl) (eq-eqb rank.author rank.author refl)

equals-true : (rank other : Rank) → equals rank other ≡ true → rank ≡ other
equals-true rank other is =
    let parts = and_parts (rank.priority == other.priority) (rank.author == other.author) is in
    same_rank rank other (eqb-true rank.priority other.priority parts.0) (eqb-true rank.author other.author parts.1)

equals-false : (rank other : Rank) → equals rank other ≡ false → rank ≢ other
equals-false rank other is = λ same. both_ways (equals rank other) is (ap (equals rank) (sym same) ∙ equals-self rank)

ne-equals : (rank other : Rank) → rank ≢ other → equals rank other ≡ false
ne-equals rank other differ = by (equals rank other) refl
  where
    by : (b : Bool) → equals rank other ≡ b → b ≡ false
    by true is = absurd (differ (equals-true rank other is))
    by false is = refl

abbrev pub Differ : {X : Type 0} → (X → Rank) → List X → Type 0
Differ key [] = Unit {0}
Differ key (x ∷ xs) = AllByRecursion (λ y. key y ≢ key x) xs × Differ key xs

module _ {X : Type 0} (key : X → Rank) where
  abbrev count : Rank → List X → ℕ
  count k xs = count_by (λ x. equals (key x) k) xs

  count_none : (k : Rank) (xs : List X) → AllByRecursion (λ y. key y ≢ k) xs → count k xs ≡ 0
  count_none k [] each = refl
  count_none k (x ∷ xs) each = count_by-no (λ y. equals (key y) k) x xs (ne-equals (key x) k each.0) ∙ count_none k xs each.1

  none_counted : (k : Rank) (xs : List X) → count k xs ≡ 0 → AllByRecursion (λ y. key y ≢ k) xs
  none_counted k [] none = tt
  none_counted k (x ∷ xs) none =
      elim (equals (key x) k) as (λ b. equals (key x) k ≡ b → AllByRecursion (λ y. key y ≢ k) (x ∷ xs)) [
        | true ↦ λ is. absurd (omega (arith, count_by-yes (λ y. equals (key y) k) x xs is, none))
        | false ↦ λ is. (
          equals-false (key x) k is,
          none_counted k xs (sym (count_by-no (λ y. equals (key y) k) x xs is) ∙ none),
        )
      ] refl

  count-le : (xs : List X) → Differ key xs → (k : Rank) → count k xs ≤ 1
  count-le [] differ k = omega arith
  count-le (x ∷ xs) differ k =
      elim (equals (key x) k) as (λ b. equals (key x) k ≡ b → count k (x ∷ xs) ≤ 1) [
        | true ↦ λ is.
            let same : key x ≡ k = equals-true (key x) k is in
            let none : count k xs ≡ 0 = count_none k xs (subst (λ n. AllByRecursion (λ y. key y ≢ n) xs) same differ.0) in
            omega (arith, count_by-yes (λ y. equals (key y) k) x xs is, none)
        | false ↦ λ is. omega (arith, count_by-no (λ y. equals (key y) k) x xs is, count-le xs differ.1 k)
      ] refl

  differ_counted : (xs : List X) → ((k : Rank) → count k xs ≤ 1) → Differ key xs
  differ_counted [] few = tt
  differ_counted (x ∷ xs) few = (
    none_counted (key x) xs
        (omega (arith, count_by-yes (λ y. equals (key y) (key x)) x xs (equals-self (key x)), few (key x))),
    differ_counted xs (λ k. omega (arith, few k, sum_by-cons (λ y. cond (equals (key y) k) 1 0) x xs)),
  )

  pub Differ-permutation : (xs ys : List X) → IsPermutation xs ys → Differ key xs → Differ key ys
  Differ-permutation xs ys moved differ =
      differ_counted ys (λ k. omega (arith, count-le xs differ k, sum_by-IsPermutation (λ y. cond (equals (key y) k) 1 0) xs ys moved))

-- ---- lists that climb are one where they have the same items

abbrev pub In : {X : Type 0} → X → List X → Type 0
In z [] = ⊥
In z (x ∷ xs) = (z ≡ x) ⊎ In z xs

abbrev pub Climbs : List PlainEdit → Type 0
Climbs [] = Unit {0}
Climbs (e ∷ edits) = AllByRecursion (λ f. IsLower e f) edits × Climbs edits

all_in : {X : Type 0} (xs : List X) → AllByRecursion (λ z. In z xs) xs
all_in [] = tt
all_in (x ∷ xs) = (inl refl, AllByRecursion-weaker (λ z. In z xs) (λ z. In z (x ∷ xs)) (λ z within. inr within) xs (all_in xs))

in_all : {X : Type 0} (P : X → Type 0) (z : X) (xs : List X) → AllByRecursion P xs → In z xs → P z
in_all P z [] each within = absurd within
in_all P z (x ∷ xs) each (inl is) = subst P (sym is) each.0
in_all P z (x ∷ xs) each (inr later) = in_all P z xs each.1 later

not_self : (e : PlainEdit) → IsLower e e → ⊥
not_self e is = both_ways (is_lower (insertion_rank e) (insertion_rank e)) (is_lower-back (insertion_rank e) (insertion_rank e) is) is

climbs_one : (xs ys : List PlainEdit) → Climbs xs → Climbs ys → AllByRecursion (λ z. In z ys) xs → AllByRecursion (λ z. In z xs) ys → xs ≡ ys
climbs_one [] [] up high there back = refl
climbs_one [] (y ∷ ys) up high there back = absurd back.0
climbs_one (x ∷ xs) [] up high there back = absurd there.0
climbs_one (x ∷ xs) (y ∷ ys) up high there back =
    ap₂ (λ z zs. z ∷ zs) first
    (climbs_one xs ys up.1 high.1
    (AllByRecursion-both (λ z. IsLower x z) (λ z. In z (y ∷ ys)) (λ z. In z ys)
    (λ z above within. tail_in z y ys (λ is. not_self x (subst (IsLower x) (is ∙ sym first) above)) within)
    xs up.0 there.1)
    (AllByRecursion-both (λ z. IsLower y z) (λ z. In z (x ∷ xs)) (λ z. In z xs)
    (λ z above within. tail_in z x xs (λ is. not_self y (subst (IsLower y) (is ∙ first) above)) within)
    ys high.0 back.1))
  where
    tail_in : (z w : PlainEdit) (ws : List PlainEdit) → (z ≡ w → ⊥) → In z (w ∷ ws) → In z ws
    tail_in z w ws other (inl is) = absurd (other is)
    tail_in z w ws other (inr later) = later

    by_cases : In x (y ∷ ys) → In y (x ∷ xs) → x ≡ y
    by_cases (inl is) other = is
    by_cases (inr later) (inl is) = sym is
    by_cases (inr later) (inr later') =
        let below : IsLower y x = in_all (λ z. IsLower y z) x ys high.0 later in
        let above : IsLower x y = in_all (λ z. IsLower x z) y xs up.0 later' in
        absurd (not_self x (is_lower-passes (insertion_rank x) (insertion_rank y) (insertion_rank x) above below))

    first : x ≡ y
    first = by_cases there.0 back.0

-- ---- the edits in rising order of rank

Climbs-with_earlier : (e : PlainEdit) (edits : List PlainEdit) → Climbs edits → AllByRecursion (λ f. insertion_rank f ≢ insertion_rank e) edits →
    Climbs (with_earlier e edits)
Climbs-with_earlier e [] up differ = (tt, tt)
Climbs-with_earlier e (f ∷ edits) up differ =
    elim (is_lower (insertion_rank f) (insertion_rank e)) as (λ b. is_lower (insertion_rank f) (insertion_rank e) ≡ b →
    Climbs (if b then f ∷ with_earlier e edits else e ∷ f ∷ edits)) [
      | true ↦ λ lower. (AllByRecursion-with_earlier (λ g. IsLower f g) e edits lower up.0, Climbs-with_earlier e edits up.1 differ.1)
      | false ↦ λ least.
          let less : IsLower e f = is_lower-other (insertion_rank f) (insertion_rank e) differ.0 least in (
            (
              less,
              AllByRecursion-weaker (λ g. IsLower f g) (λ g. IsLower e g)
                  (λ g above. is_lower-passes (insertion_rank e) (insertion_rank f) (insertion_rank g) less above) edits up.0,
            ),
            up,
          )
    ] refl

Climbs-by_rank : (edits : List PlainEdit) → Differ insertion_rank edits → Climbs (by_rank edits)
Climbs-by_rank [] differ = tt
Climbs-by_rank (e ∷ edits) differ =
    Climbs-with_earlier e (by_rank edits) (Climbs-by_rank edits differ.1)
    (AllByRecursion-by_rank (λ f. insertion_rank f ≢ insertion_rank e) edits differ.0)

from_with_earlier : (P : PlainEdit → Type 0) (e : PlainEdit) (edits : List PlainEdit) → AllByRecursion P (with_earlier e edits) →
    P e × AllByRecursion P edits
from_with_earlier P e [] each = (each.0, tt)
from_with_earlier P e (f ∷ edits) each =
    elim (is_lower (insertion_rank f) (insertion_rank e)) as (λ b. AllByRecursion P (if b then f ∷ with_earlier e edits else e ∷ f ∷ edits) →
    P e × AllByRecursion P (f ∷ edits)) [
      | true ↦ λ all. let rest = from_with_earlier P e edits all.1 in (rest.0, (all.0, rest.1))
      | false ↦ λ all. (all.0, all.1)
    ] each

from_by_rank : (P : PlainEdit → Type 0) (edits : List PlainEdit) → AllByRecursion P (by_rank edits) → AllByRecursion P edits
from_by_rank P [] each = tt
from_by_rank P (e ∷ edits) each =
    let parts = from_with_earlier P e (by_rank edits) each in (parts.0, from_by_rank P edits parts.1)

in_other : (xs ys : List PlainEdit) → IsPermutation ys xs → AllByRecursion (λ z. In z (by_rank ys)) (by_rank xs)
in_other xs ys moved =
    AllByRecursion-by_rank (λ z. In z (by_rank ys)) xs
    (AllByRecursion-permutation (λ z. In z (by_rank ys)) ys xs moved
    (from_by_rank (λ z. In z (by_rank ys)) ys (all_in (by_rank ys))))

pub by_rank-permutation : (xs ys : List PlainEdit) → IsPermutation xs ys → Differ insertion_rank xs → by_rank xs ≡ by_rank ys
by_rank-permutation xs ys moved differ =
    climbs_one (by_rank xs) (by_rank ys) (Climbs-by_rank xs differ)
    (Climbs-by_rank ys (Differ-permutation insertion_rank xs ys moved differ))
    (in_other xs ys (IsPermutation-sym xs ys moved)) (in_other ys xs moved)

-- ---- what all edits keep, and what they come to

one_way : {X : Type 0} (p : X → Bool) (xs ys : List X) → IsPermutation xs ys → list_all p xs ≡ true → list_all p ys ≡ true
one_way p xs ys moved all =
    list_all-from_AllPass p ys (All-permutation (λ x. p x ≡ true) xs ys moved (AllPass-from_list_all p xs all))

same_test : (a b : Bool) → (a ≡ true → b ≡ true) → (b ≡ true → a ≡ true) → a ≡ b
same_test true b there back = sym (there refl)
same_test false true there back = back refl
same_test false false there back = refl

pub list_all-permutation : {X : Type 0} (p : X → Bool) (xs ys : List X) → IsPermutation xs ys → list_all p xs ≡ list_all p ys
list_all-permutation p xs ys moved =
    same_test (list_all p xs) (list_all p ys) (one_way p xs ys moved) (one_way p ys xs (IsPermutation-sym xs ys moved))

pub merged-permutation : (text : List ℕ) (xs ys : List PlainEdit) → IsPermutation xs ys → Differ insertion_rank xs →
    merged text xs ≡ merged text ys
merged-permutation text xs ys moved differ =
    ap (λ edits. woven (λ gap. flat_map (λ e. e.added gap) edits) (λ index c. if list_all (λ e. e.kept index) xs then c ∷ [] else []) 0 text)
    (by_rank-permutation xs ys moved differ) ∙
    ap (λ (test : ℕ → Bool). woven (λ gap. flat_map (λ e. e.added gap) (by_rank ys)) (λ index c. if test index then c ∷ [] else []) 0 text)
    (λ i index. list_all-permutation (λ e. e.kept index) xs ys moved i)
