-- Runs are no more than the flags that they stand for.
use Rattle.std.proofs.Common.{◌≡◌, ℕ, ◌+◌, ◌-◌, ◌<◌, ◌≤◌, ◌⊎◌, inl, inr, Bool, true, false, ◌||◌, ◌&&◌, List, [], ◌∷◌, length, get_or, refl, ap, sym, ◌∙◌, subst, arith, eqb}
use Rattle.std.specs.Prelude.{suc, zero}
use Rattle.std.specs.Bool.{beq}
use Rattle.std.specs.Cmp.{both_ways, booleans_Decides}
use Rattle.std.specs.Cmp.Lexicographic.{pointwise, pointwise_decides}
use Rattle.std.proofs.lemmas.Bool.{cases_lt, cases_order, or_from, or_left, true≢false, false≢true, and_parts, and_from, eqb-true, eq-eqb, lt-ltb, ne_eqb}
use Rattle.std.proofs.lemmas.List.FromFn.{get_or-map-range_with_len}
use Rattle.subset_runs.specs.Runs.{is_in, is_in_some, flags_in, AreSeparate, next_start, IsStored}
use Rattle.subset_runs.proofs.RunLemmas.{is_in-true, is_in-before, is_in-after, is_in_some-before, is_in_some-after, length_stored, length-flags_in}

abbrev HaveSame : List (ℕ × ℕ) → List (ℕ × ℕ) → Type 0
HaveSame xs ys = (p : ℕ) → is_in_some xs p ≡ is_in_some ys p

-- a position that is in the first run, and in none of the others
in_first : (p : ℕ) (r : ℕ × ℕ) (xs : List (ℕ × ℕ)) → r.0 ≤ p → p < r.1 → is_in_some (r ∷ xs) p ≡ true
in_first p r xs from to = or_left (is_in p r) (is_in_some xs p) (is_in-true p r from to)

between : (p : ℕ) (r : ℕ × ℕ) (xs : List (ℕ × ℕ)) → AreSeparate (r.1 + 1) xs → p ≡ r.1 → is_in_some (r ∷ xs) p ≡ false
between p r xs a at = or_from (is_in p r) (is_in_some xs p) (is_in-after p r (omega arith)) (is_in_some-before (r.1 + 1) p xs a (omega arith))

apart : {x y : Bool} → x ≡ y → x ≡ true → y ≡ false → ⊥
apart same one other = true≢false (sym one ∙ (same ∙ other))

same_start : (low : ℕ) (r s : ℕ × ℕ) (xs ys : List (ℕ × ℕ)) → AreSeparate low (r ∷ xs) → AreSeparate low (s ∷ ys) → HaveSame (r ∷ xs) (s ∷ ys) → r.0 < s.0 → ⊥
same_start low r s xs ys a b same less =
    apart (same r.0) (in_first r.0 r xs (omega arith) a.1) (is_in_some-before s.0 r.0 (s ∷ ys) (omega arith, b.1, b.2) less)

same_end : (low : ℕ) (r s : ℕ × ℕ) (xs ys : List (ℕ × ℕ)) → AreSeparate low (r ∷ xs) → AreSeparate low (s ∷ ys) → HaveSame (r ∷ xs) (s ∷ ys) → s.0 ≤ r.1 → r.1 < s.1 → ⊥
same_end low r s xs ys a b same from less =
    apart (sym (same r.1)) (in_first r.1 s ys from less) (between r.1 r xs a.2 refl)

same_rest : (r : ℕ × ℕ) (xs ys : List (ℕ × ℕ)) → AreSeparate (r.1 + 1) xs → AreSeparate (r.1 + 1) ys → HaveSame (r ∷ xs) (r ∷ ys) → HaveSame xs ys
same_rest r xs ys a b same = λ p. elim (cases_lt p (r.1 + 1)) [
  | inl before ↦ is_in_some-before (r.1 + 1) p xs a before ∙ sym (is_in_some-before (r.1 + 1) p ys b before)
  | inr past ↦
      let out = is_in-after p r (omega arith) in
      ap (λ b. b || is_in_some xs p) (sym out) ∙ (same p ∙ ap (λ b. b || is_in_some ys p) out)
]

same_pair : (r s : ℕ × ℕ) → r.0 ≡ s.0 → r.1 ≡ s.1 → r ≡ s
same_pair (a, b) (c, d) e f = cc

one_way : (m n : ℕ) → (m < n → ⊥) → (n < m → ⊥) → m ≡ n
one_way m n up down =
    elim (cases_order m n) [
      | inl same ↦ same
      | inr (inl less) ↦ absurd (up less)
      | inr (inr more) ↦ absurd (down more)
    ]

runs_same : (low : ℕ) (xs ys : List (ℕ × ℕ)) → AreSeparate low xs → AreSeparate low ys → HaveSame xs ys → xs ≡ ys
runs_same low [] [] a b same = refl
runs_same low [] (s ∷ ys) a b same = absurd (apart (sym (same s.0)) (in_first s.0 s ys (omega arith) b.1) refl)
runs_same low (r ∷ xs) [] a b same = absurd (apart (same r.0) (in_first r.0 r xs (omega arith) a.1) refl)
runs_same low (r ∷ xs) (s ∷ ys) a b same =
    let back : HaveSame (s ∷ ys) (r ∷ xs) = λ p. sym (same p) in
    let start : r.0 ≡ s.0 = one_way _ _ (same_start low r s xs ys a b same) (same_start low s r ys xs b a back) in
    let end : r.1 ≡ s.1 = one_way _ _ (same_end low r s xs ys a b same (omega (arith, a.1))) (same_end low s r ys xs b a back (omega (arith, b.1))) in
    let first : s ≡ r = same_pair s r (sym start) (sym end) in
    let b_rest : AreSeparate (r.1 + 1) ys = subst (λ (k : ℕ). AreSeparate (k + 1) ys) (sym end) b.2 in
    let same_r : HaveSame (r ∷ xs) (r ∷ ys) = subst (λ (x : ℕ × ℕ). HaveSame (r ∷ xs) (x ∷ ys)) first same in
    let rest : xs ≡ ys = runs_same (r.1 + 1) xs ys a.2 b_rest (same_rest r xs ys a.2 b_rest same_r) in
    cc

pub runs_from_flags : (xs ys : List (ℕ × ℕ)) (len m n : ℕ) → IsStored xs len m → IsStored ys len n → flags_in xs 0 len ≡ flags_in ys 0 len → xs ≡ ys
runs_from_flags xs ys len m n one other e =
    runs_same 0 xs ys one.apart other.apart (λ p. elim (cases_lt p len) [
      | inl less ↦
          sym (get_or-map-range_with_len (is_in_some xs) 0 len p p false less (omega arith))
          ∙ (ap (λ (fs : List Bool). get_or fs p false) e ∙ get_or-map-range_with_len (is_in_some ys) 0 len p p false less (omega arith))
      | inr past ↦
          is_in_some-after 0 p xs one.apart (omega (arith, one.within))
          ∙ sym (is_in_some-after 0 p ys other.apart (omega (arith, other.within)))
    ])

abbrev same_pairs : ℕ × ℕ → ℕ × ℕ → Bool
same_pairs r s = eqb r.0 s.0 && eqb r.1 s.1

pairs_decided : (r s : ℕ × ℕ) → (same_pairs r s ≡ true → r ≡ s) × (r ≡ s → same_pairs r s ≡ true)
pairs_decided r s = (
  λ e.
      let both = and_parts (eqb r.0 s.0) (eqb r.1 s.1) e in
      same_pair r s (eqb-true r.0 s.0 both.0) (eqb-true r.1 s.1 both.1),
  λ e.
      and_from (eqb r.0 s.0) (eqb r.1 s.1) (eq-eqb r.0 s.0 (ap (λ (x : ℕ × ℕ). x.0) e)) (eq-eqb r.1 s.1 (ap (λ (x : ℕ × ℕ). x.1) e)),
)

-- what `==` of two subsets says
pub flags_decided : (xs ys : List Bool) → (pointwise beq xs ys ≡ true → xs ≡ ys) × (xs ≡ ys → pointwise beq xs ys ≡ true)
flags_decided xs ys = pointwise_decides booleans_Decides xs ys

-- runs of texts of one length are equal exactly where the flags are
pub same_answer : (xs ys : List (ℕ × ℕ)) (len other m n : ℕ) (flags others : List Bool) → IsStored xs len m → IsStored ys other n → flags_in xs 0 len ≡ flags → flags_in ys 0 other ≡ others → len ≡ other → pointwise same_pairs xs ys ≡ pointwise beq flags others
same_answer xs ys len other m n flags others one two e f same =
    let two_here : IsStored ys len n = subst (λ (k : ℕ). IsStored ys k n) (sym same) two in
    let f_here : flags_in ys 0 len ≡ others = subst (λ (k : ℕ). flags_in ys 0 k ≡ others) (sym same) f in
    let runs_decided = pointwise_decides pairs_decided xs ys in
    both_ways _ _
    (λ is. (flags_decided flags others).1 (sym e ∙ (ap (λ rs. flags_in rs 0 len) (runs_decided.0 is) ∙ f_here)))
    (λ is. runs_decided.1 (runs_from_flags xs ys len m n one two_here (e ∙ ((flags_decided flags others).0 is ∙ sym f_here))))

-- and texts of different lengths have no flags in common
pub other_answer : (xs ys : List (ℕ × ℕ)) (len other : ℕ) (flags others : List Bool) → flags_in xs 0 len ≡ flags → flags_in ys 0 other ≡ others → (len ≡ other → ⊥) → eqb len other ≡ pointwise beq flags others
other_answer xs ys len other flags others e f differ =
    both_ways _ _
    (λ is. absurd (differ (eqb-true len other is)))
    (λ is. absurd (differ (sym (length_stored xs len flags e) ∙ (ap length ((flags_decided flags others).0 is) ∙ length_stored ys other others f))))
