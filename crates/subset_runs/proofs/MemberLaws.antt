-- The members of a list of flags, and the positions of a text without some of them.
use Rattle.std.proofs.Common.{◌≡◌, ℕ, ◌+◌, ◌<◌, ◌≤◌, Bool, true, false, List, [], ◌∷◌, length, get_or, take, Some, add-one, refl, ap, sym, ◌∙◌, arith}
use Rattle.std.specs.Prelude.{suc, zero}
use Rattle.std.specs.List.{slice_get}
use Rattle.std.specs.List.Sorted.{IsStrictlyIncreasing}
use Rattle.std.proofs.lemmas.Bool.{true≢false}
use Rattle.subset_runs.specs.Subset.{count, members, members_from, complement, expand}
use Rattle.subset_runs.specs.Renumbering.{Renumbers}
use Rattle.subset_runs.proofs.FlagLemmas.{count_le_length}
use Rattle.subset_runs.proofs.RenumberingLemmas.{no_flag, one_flag}

-- ---- members

pub length-members_from : (at : ℕ) (flags : List Bool) → length (members_from at flags) ≡ count flags
length-members_from at [] = refl
length-members_from at (true ∷ flags) = omega (arith, length-members_from (at + 1) flags)
length-members_from at (false ∷ flags) = omega (arith, length-members_from (at + 1) flags)

-- each member is a position of the text
pub member_within : (at k : ℕ) (flags : List Bool) → k < length (members_from at flags) → (at ≤ get_or (members_from at flags) k 0) × (get_or (members_from at flags) k 0 < at + length flags)
member_within at k [] h = absurd (omega arith)
member_within at zero (true ∷ flags) h = (omega arith, omega arith)
member_within at (suc k) (true ∷ flags) h =
    let rest = member_within (at + 1) k flags (omega arith) in (omega arith, omega arith)
member_within at k (false ∷ flags) h =
    let rest = member_within (at + 1) k flags h in (omega arith, omega arith)

members_from_rise : (at k : ℕ) (flags : List Bool) → k + 1 < length (members_from at flags) → get_or (members_from at flags) k 0 < get_or (members_from at flags) (suc k) 0
members_from_rise at k [] h = absurd (omega arith)
members_from_rise at zero (true ∷ flags) h = omega (arith, member_within (at + 1) 0 flags (omega arith))
members_from_rise at (suc k) (true ∷ flags) h = members_from_rise (at + 1) k flags (omega arith)
members_from_rise at k (false ∷ flags) h = members_from_rise (at + 1) k flags h

pub members_rise : (flags : List Bool) → IsStrictlyIncreasing (members flags)
members_rise flags = λ k h. rw add-one (members_from_rise 0 k flags h)

same_head : {x y : ℕ} {xs ys : List ℕ} → x ∷ xs ≡ y ∷ ys → xs ≡ ys
same_head e = cc

not_first : (at : ℕ) (flags : List Bool) (rest : List ℕ) → members_from (at + 1) flags ≡ at ∷ rest → ⊥
not_first at flags rest e =
    let within = member_within (at + 1) 0 flags (omega (arith, ap length e)) in
    omega (arith, within.0, ap (λ (xs : List ℕ). get_or xs 0 0) e)

-- the length and the members are all that there is to a list of flags
pub flags_from_members : (at : ℕ) (xs ys : List Bool) → length xs ≡ length ys → members_from at xs ≡ members_from at ys → xs ≡ ys
flags_from_members at [] [] same e = refl
flags_from_members at [] (y ∷ ys) same e = absurd (omega arith)
flags_from_members at (x ∷ xs) [] same e = absurd (omega arith)
flags_from_members at (true ∷ xs) (true ∷ ys) same e = ap (λ rest. true ∷ rest) (flags_from_members (at + 1) xs ys (omega arith) (same_head e))
flags_from_members at (true ∷ xs) (false ∷ ys) same e = absurd (not_first at ys _ (sym e))
flags_from_members at (false ∷ xs) (true ∷ ys) same e = absurd (not_first at xs _ e)
flags_from_members at (false ∷ xs) (false ∷ ys) same e = ap (λ rest. false ∷ rest) (flags_from_members (at + 1) xs ys (omega arith) e)

-- ---- positions renumbered

-- a later position outside `by` has more of them before it
before_rises : (by : List Bool) (p q : ℕ) → p < q → slice_get by p ≡ Some false → count (complement (take p by)) < count (complement (take q by))
before_rises [] p q h out = absurd (no_flag _ refl out)
before_rises (b ∷ by) p zero h out = absurd (omega arith)
before_rises (true ∷ by) zero (suc q) h out = absurd (true≢false (one_flag out))
before_rises (false ∷ by) zero (suc q) h out = omega arith
before_rises (b ∷ by) (suc p) (suc q) h out = omega (arith, before_rises by p q (omega arith) out)

pub Renumbers-rise : (by : List Bool) (i j p q : ℕ) → Renumbers by i p → Renumbers by j q → p < q → i < j
Renumbers-rise by i j p q one other h = omega (arith, before_rises by p q h one.outside, one.before, other.before)

-- each position of the shorter text comes from one of the longer text
pub Renumbers-found : (by : List Bool) (i : ℕ) → i + count by < length by → (p : ℕ) × Renumbers by i p
Renumbers-found [] i h = absurd (omega arith)
Renumbers-found (true ∷ by) i h =
    let rest = Renumbers-found by i (omega arith) in
    (suc rest.0, record { outside = rest.1.outside; before = omega (arith, rest.1.before) })
Renumbers-found (false ∷ by) zero h = (0, record { outside = refl; before = refl })
Renumbers-found (false ∷ by) (suc i) h =
    let rest = Renumbers-found by i (omega arith) in
    (suc rest.0, record { outside = rest.1.outside; before = omega (arith, rest.1.before) })

before_within : (by : List Bool) (p : ℕ) → slice_get by p ≡ Some false → count (complement (take p by)) + count by < length by
before_within [] p out = absurd (no_flag _ refl out)
before_within (true ∷ by) zero out = absurd (true≢false (one_flag out))
before_within (false ∷ by) zero out = omega (arith, count_le_length by)
before_within (true ∷ by) (suc p) out = omega (arith, before_within by p out)
before_within (false ∷ by) (suc p) out = omega (arith, before_within by p out)

-- and each position outside `by` goes to one of the shorter text
pub Renumbers-within : (by : List Bool) (i p : ℕ) → Renumbers by i p → i + count by < length by
Renumbers-within by i p at = omega (arith, before_within by p at.outside, at.before)

-- positions that many places after the two given ones
record HasMoved (by : List Bool) (from to i p : ℕ) : Type 0 where
  past : ℕ
  gone : ℕ
  is_past : i ≡ from + past
  is_gone : p ≡ to + gone
  renumbered : Renumbers by past gone

-- one more position before those of the longer text, in `by`
moved_in : (by : List Bool) (from to i p : ℕ) → HasMoved by from (to + 1) i p → HasMoved (true ∷ by) from to i p
moved_in by from to i p h = record {
  past = h.past;
  gone = suc h.gone;
  is_past = h.is_past;
  is_gone = omega (arith, h.is_gone);
  renumbered = record { outside = h.renumbered.outside; before = omega (arith, h.renumbered.before) };
}

-- one more position before those of both
moved_both : (by : List Bool) (from to i p : ℕ) → HasMoved by (from + 1) (to + 1) i p → HasMoved (false ∷ by) from to i p
moved_both by from to i p h = record {
  past = suc h.past;
  gone = suc h.gone;
  is_past = omega (arith, h.is_past);
  is_gone = omega (arith, h.is_gone);
  renumbered = record { outside = h.renumbered.outside; before = omega (arith, h.renumbered.before) };
}

members_moved : (from to k : ℕ) (flags by : List Bool) → length flags + count by ≡ length by → k < count flags → HasMoved by from to (get_or (members_from from flags) k 0) (get_or (members_from to (expand flags by)) k 0)
members_moved from to k [] by same h = absurd (omega arith)
members_moved from to k (flag ∷ flags) [] same h = absurd (omega arith)
members_moved from to k (flag ∷ flags) (true ∷ by) same h = moved_in by from to _ _ (members_moved from (to + 1) k (flag ∷ flags) by (omega arith) h)
members_moved from to zero (true ∷ flags) (false ∷ by) same h = record {
  past = 0;
  gone = 0;
  is_past = omega arith;
  is_gone = omega arith;
  renumbered = record { outside = refl; before = refl };
}
members_moved from to (suc k) (true ∷ flags) (false ∷ by) same h = moved_both by from to _ _ (members_moved (from + 1) (to + 1) k flags by (omega arith) (omega arith))
members_moved from to k (false ∷ flags) (false ∷ by) same h = moved_both by from to _ _ (members_moved (from + 1) (to + 1) k flags by (omega arith) (omega arith))

-- `expand` takes the k-th member to the k-th member
pub members-expand : (k : ℕ) (flags by : List Bool) → length flags + count by ≡ length by → k < count flags → Renumbers by (get_or (members flags) k 0) (get_or (members (expand flags by)) k 0)
members-expand k flags by same h =
    let moved = members_moved 0 0 k flags by same h in
    let past : get_or (members flags) k 0 ≡ moved.past = omega (arith, moved.is_past) in
    let gone : get_or (members (expand flags by)) k 0 ≡ moved.gone = omega (arith, moved.is_gone) in
    rw (past, gone) moved.renumbered
