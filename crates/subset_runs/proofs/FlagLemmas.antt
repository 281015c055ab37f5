-- Lists of flags: counts and positions.
use Rattle.std.proofs.Common.{◌≡◌, ℕ, ◌+◌, ◌-◌, ◌<◌, ◌≤◌, Bool, true, false, not, List, [], ◌∷◌, ◌++◌, length, take, drop, replicate, map, get_or, ◌↔◌, refl, ap, sym, ◌∙◌, arith}
use Rattle.std.specs.Prelude.{suc, zero, IsTrue, Contains}
use Rattle.std.proofs.lemmas.Bool.{false≢true}
use Rattle.std.proofs.lemmas.Grind.{common_steps}
use Rattle.subset_runs.specs.Subset.{count, complement, contains, members, members_from}

pub count-append : (xs ys : List Bool) → count (xs ++ ys) ≡ count xs + count ys
count-append [] ys = omega arith
count-append (x ∷ xs) ys = omega (arith, count-append xs ys)

pub count-replicate_true : (n : ℕ) → count (replicate n true) ≡ n
count-replicate_true zero = refl
count-replicate_true (suc n) = omega (arith, count-replicate_true n)

pub count-replicate_false : (n : ℕ) → count (replicate n false) ≡ 0
count-replicate_false zero = refl
count-replicate_false (suc n) = omega (arith, count-replicate_false n)

pub count_le_length : (xs : List Bool) → count xs ≤ length xs
count_le_length [] = omega arith
count_le_length (true ∷ xs) = omega (arith, count_le_length xs)
count_le_length (false ∷ xs) = omega (arith, count_le_length xs)

pub count-complement : (xs : List Bool) → count (complement xs) + count xs ≡ length xs
count-complement [] = refl
count-complement (true ∷ xs) = omega (arith, count-complement xs)
count-complement (false ∷ xs) = omega (arith, count-complement xs)

-- ---- members

pub has_member : (at i p : ℕ) (flags : List Bool) → contains flags i ≡ true → p ≡ at + i → Contains (members_from at flags) p
has_member at i p [] e h = absurd (false≢true e)
has_member at zero p (true ∷ flags) e h = (0, omega arith, omega arith)
has_member at (suc i) p (true ∷ flags) e h =
    let rest = has_member (at + 1) i p flags e (omega arith) in
    (suc rest.0, omega (arith, rest.1), rest.2)
has_member at zero p (false ∷ flags) e h = absurd (false≢true e)
has_member at (suc i) p (false ∷ flags) e h = has_member (at + 1) i p flags e (omega arith)

member_at : (at k p : ℕ) (flags : List Bool) → k < length (members_from at flags) → get_or (members_from at flags) k p ≡ p → (i : ℕ) × (p ≡ at + i) × (contains flags i ≡ true)
member_at at k p [] h e = absurd (omega arith)
member_at at zero p (true ∷ flags) h e = (0, omega arith, refl)
member_at at (suc k) p (true ∷ flags) h e =
    let rest = member_at (at + 1) k p flags (omega arith) e in
    (suc rest.0, omega (arith, rest.1), rest.2)
member_at at k p (false ∷ flags) h e =
    let rest = member_at (at + 1) k p flags h e in
    (suc rest.0, omega (arith, rest.1), rest.2)

the_flag : (flags : List Bool) (i : ℕ) → ((j : ℕ) × (i ≡ 0 + j) × (contains flags j ≡ true)) → contains flags i ≡ true
the_flag flags i found = let same : i ≡ found.0 = omega (arith, found.1) in rw same found.2

-- the members are the positions whose flag is true
pub member_iff : (flags : List Bool) (i : ℕ) → IsTrue (contains flags i) ↔ Contains (members flags) i
member_iff flags i =
    (λ is. has_member 0 i i flags is (omega arith), λ has. the_flag flags i (member_at 0 has.0 i flags has.1 has.2))
