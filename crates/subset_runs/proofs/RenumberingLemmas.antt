-- The transforms by position: where the i-th position outside `by` goes.
use Rattle.std.proofs.Common.{◌≡◌, ℕ, ◌+◌, ◌<◌, ◌≤◌, Bool, true, false, not, List, [], ◌∷◌, length, take, Option, Result, Some, None, refl, ap, sym, ◌∙◌, arith}
use Rattle.std.specs.Prelude.{suc, zero}
use Rattle.std.specs.List.{slice_get}
use Rattle.std.specs.Prelude.{IfOk}
use Rattle.std.proofs.lemmas.Bool.{true≢false, false≢true}
use Rattle.std.proofs.lemmas.Result.{IfOk-weaker}
use Rattle.subset_runs.specs.Subset.{count, complement, expand_as, items_outside, shrink}
use Rattle.subset_runs.specs.Renumbering.{Renumbers, Expands, Shrinks}
use Rattle.subset_runs.proofs.FlagLemmas.{count_le_length}

pub no_flag : {b : Bool} (o : Option Bool) → o ≡ None → o ≡ Some b → ⊥
no_flag o none some = cc

pub one_flag : {x y : Bool} → Some x ≡ Some y → x ≡ y
one_flag e = cc

pub length-expand_as : (inside : Bool) (flags by : List Bool) → length (expand_as inside flags by) ≡ length by
length-expand_as inside flags [] = refl
length-expand_as inside flags (true ∷ by) = omega (arith, length-expand_as inside flags by)
length-expand_as inside [] (false ∷ by) = omega (arith, length-expand_as inside [] by)
length-expand_as inside (flag ∷ flags) (false ∷ by) = omega (arith, length-expand_as inside flags by)

expand_as_moved : (inside : Bool) (flags by : List Bool) (i p : ℕ) → length flags + count by ≡ length by → slice_get by p ≡ Some false → count (complement (take p by)) ≡ i → slice_get (expand_as inside flags by) p ≡ slice_get flags i
expand_as_moved inside flags [] i p same out before = absurd (no_flag _ refl out)
expand_as_moved inside flags (true ∷ by) i zero same out before = absurd (true≢false (one_flag out))
expand_as_moved inside flags (true ∷ by) i (suc p) same out before = expand_as_moved inside flags by i p (omega arith) out (omega arith)
expand_as_moved inside [] (false ∷ by) i p same out before = absurd (omega (arith, count_le_length by))
expand_as_moved inside (flag ∷ flags) (false ∷ by) zero zero same out before = refl
expand_as_moved inside (flag ∷ flags) (false ∷ by) (suc i) zero same out before = absurd (omega arith)
expand_as_moved inside (flag ∷ flags) (false ∷ by) zero (suc p) same out before = absurd (omega arith)
expand_as_moved inside (flag ∷ flags) (false ∷ by) (suc i) (suc p) same out before = expand_as_moved inside flags by i p (omega arith) out (omega arith)

expand_as_added : (inside : Bool) (flags by : List Bool) (p : ℕ) → slice_get by p ≡ Some true → slice_get (expand_as inside flags by) p ≡ Some inside
expand_as_added inside flags [] p in_by = absurd (no_flag _ refl in_by)
expand_as_added inside flags (true ∷ by) zero in_by = refl
expand_as_added inside flags (true ∷ by) (suc p) in_by = expand_as_added inside flags by p in_by
expand_as_added inside flags (false ∷ by) zero in_by = absurd (false≢true (one_flag in_by))
expand_as_added inside [] (false ∷ by) (suc p) in_by = expand_as_added inside [] by p in_by
expand_as_added inside (flag ∷ flags) (false ∷ by) (suc p) in_by = expand_as_added inside flags by p in_by

pub Expands-expand_as : (inside : Bool) (flags by : List Bool) → length flags + count by ≡ length by → Expands inside flags by (expand_as inside flags by)
Expands-expand_as inside flags by same = record {
  len = length-expand_as inside flags by;
  moved = λ i p at. expand_as_moved inside flags by i p same at.outside at.before;
  added = λ p in_by. expand_as_added inside flags by p in_by;
}

-- the clause of `expand` and `expand_in`
pub IfOk-Expands : {Y : Type 0} (inside : Bool) (flags by : List Bool) (r : Result (List Bool) Y) → length flags + count by ≡ length by → IfOk r (λ s. s ≡ expand_as inside flags by) → IfOk r (Expands inside flags by)
IfOk-Expands inside flags by r same is =
    IfOk-weaker r (λ s. s ≡ expand_as inside flags by) (Expands inside flags by)
    (λ s e. rw e (Expands-expand_as inside flags by same)) is

-- what is left of a text has as many items as there are positions outside `by`
pub length-items_outside : {X : Type 0} (by : List Bool) (xs : List X) → length xs ≡ length by → length (items_outside by xs) + count by ≡ length by
length-items_outside [] xs same = refl
length-items_outside (b ∷ by) [] same = absurd (omega arith)
length-items_outside (true ∷ by) (x ∷ xs) same = omega (arith, length-items_outside by xs (omega arith))
length-items_outside (false ∷ by) (x ∷ xs) same = omega (arith, length-items_outside by xs (omega arith))

-- and its i-th item is the one at the i-th position outside `by`
pub items_outside_moved : {X : Type 0} (by : List Bool) (xs : List X) (i p : ℕ) → length xs ≡ length by → slice_get by p ≡ Some false → count (complement (take p by)) ≡ i → slice_get (items_outside by xs) i ≡ slice_get xs p
items_outside_moved [] xs i p same out before = absurd (no_flag _ refl out)
items_outside_moved (b ∷ by) [] i p same out before = absurd (omega arith)
items_outside_moved (true ∷ by) (x ∷ xs) i zero same out before = absurd (true≢false (one_flag out))
items_outside_moved (true ∷ by) (x ∷ xs) i (suc p) same out before = items_outside_moved by xs i p (omega arith) out (omega arith)
items_outside_moved (false ∷ by) (x ∷ xs) zero zero same out before = refl
items_outside_moved (false ∷ by) (x ∷ xs) (suc i) zero same out before = absurd (omega arith)
items_outside_moved (false ∷ by) (x ∷ xs) zero (suc p) same out before = absurd (omega arith)
items_outside_moved (false ∷ by) (x ∷ xs) (suc i) (suc p) same out before = items_outside_moved by xs i p (omega arith) out (omega arith)

pub Shrinks-shrink : (flags by : List Bool) → length flags ≡ length by → Shrinks flags by (shrink flags by)
Shrinks-shrink flags by same = record {
  len = length-items_outside by flags same;
  moved = λ i p at. items_outside_moved by flags i p same at.outside at.before;
}
