-- The laws of subsets, over their definitions. The crates above cite these.
use Rattle.std.proofs.Common.{◌≡◌, ℕ, ◌+◌, ◌<◌, ◌≤◌, Bool, true, false, not, ◌&&◌, ◌||◌, List, [], ◌∷◌, ◌++◌, length, map, refl, ap, ap₂, sym, ◌∙◌, arith}
use Rattle.std.specs.Prelude.{suc, zero}
use Rattle.subset_runs.specs.Subset.{count, members, members_from, at_each, union, minus, symmetric_difference, complement, items_outside, expand_as, expand, expand_in, shrink}
use Rattle.subset_runs.proofs.FlagLemmas.{count_le_length}

-- ---- union, minus, complement

pub length-at_each : (f : Bool → Bool → Bool) (xs ys : List Bool) → length xs ≡ length ys → length (at_each f xs ys) ≡ length xs
length-at_each f [] ys same = refl
length-at_each f (x ∷ xs) [] same = absurd (omega arith)
length-at_each f (x ∷ xs) (y ∷ ys) same = omega (arith, length-at_each f xs ys (omega arith))

pub count-union : (xs ys : List Bool) → length xs ≡ length ys → count (union xs ys) ≡ count xs + count (minus ys xs)
count-union [] [] same = refl
count-union [] (y ∷ ys) same = absurd (omega arith)
count-union (x ∷ xs) [] same = absurd (omega arith)
count-union (true ∷ xs) (true ∷ ys) same = omega (arith, count-union xs ys (omega arith))
count-union (true ∷ xs) (false ∷ ys) same = omega (arith, count-union xs ys (omega arith))
count-union (false ∷ xs) (true ∷ ys) same = omega (arith, count-union xs ys (omega arith))
count-union (false ∷ xs) (false ∷ ys) same = omega (arith, count-union xs ys (omega arith))

pub union_comm : (xs ys : List Bool) → union xs ys ≡ union ys xs
union_comm [] [] = refl
union_comm [] (y ∷ ys) = refl
union_comm (x ∷ xs) [] = refl
union_comm (true ∷ xs) (true ∷ ys) = ap (λ rest. true ∷ rest) (union_comm xs ys)
union_comm (true ∷ xs) (false ∷ ys) = ap (λ rest. true ∷ rest) (union_comm xs ys)
union_comm (false ∷ xs) (true ∷ ys) = ap (λ rest. true ∷ rest) (union_comm xs ys)
union_comm (false ∷ xs) (false ∷ ys) = ap (λ rest. false ∷ rest) (union_comm xs ys)

pub union_assoc : (xs ys zs : List Bool) → union (union xs ys) zs ≡ union xs (union ys zs)
union_assoc [] ys zs = refl
union_assoc (x ∷ xs) [] zs = refl
union_assoc (x ∷ xs) (y ∷ ys) [] = refl
union_assoc (true ∷ xs) (y ∷ ys) (z ∷ zs) = ap (λ rest. true ∷ rest) (union_assoc xs ys zs)
union_assoc (false ∷ xs) (y ∷ ys) (z ∷ zs) = ap (λ rest. (y || z) ∷ rest) (union_assoc xs ys zs)

same_flag : (x y : Bool) → (x && not (x && not y || y && not x) || (x && not y || y && not x) && not x) ≡ y
same_flag true true = refl
same_flag true false = refl
same_flag false true = refl
same_flag false false = refl

-- what is in exactly one of two takes each of them to the other
pub symmetric_difference-back : (xs ys : List Bool) → length xs ≡ length ys → symmetric_difference xs (symmetric_difference xs ys) ≡ ys
symmetric_difference-back [] [] same = refl
symmetric_difference-back [] (y ∷ ys) same = absurd (omega arith)
symmetric_difference-back (x ∷ xs) [] same = absurd (omega arith)
symmetric_difference-back (x ∷ xs) (y ∷ ys) same = ap₂ (λ flag rest. flag ∷ rest) (same_flag x y) (symmetric_difference-back xs ys (omega arith))

pub symmetric_difference_comm : (xs ys : List Bool) → symmetric_difference xs ys ≡ symmetric_difference ys xs
symmetric_difference_comm [] [] = refl
symmetric_difference_comm [] (y ∷ ys) = refl
symmetric_difference_comm (x ∷ xs) [] = refl
symmetric_difference_comm (true ∷ xs) (true ∷ ys) = ap (λ rest. false ∷ rest) (symmetric_difference_comm xs ys)
symmetric_difference_comm (true ∷ xs) (false ∷ ys) = ap (λ rest. true ∷ rest) (symmetric_difference_comm xs ys)
symmetric_difference_comm (false ∷ xs) (true ∷ ys) = ap (λ rest. true ∷ rest) (symmetric_difference_comm xs ys)
symmetric_difference_comm (false ∷ xs) (false ∷ ys) = ap (λ rest. false ∷ rest) (symmetric_difference_comm xs ys)

pub symmetric_difference_by_minus : (xs ys : List Bool) → symmetric_difference xs ys ≡ union (minus xs ys) (minus ys xs)
symmetric_difference_by_minus [] [] = refl
symmetric_difference_by_minus [] (y ∷ ys) = refl
symmetric_difference_by_minus (x ∷ xs) [] = refl
symmetric_difference_by_minus (x ∷ xs) (y ∷ ys) = ap (λ rest. (x && not y || y && not x) ∷ rest) (symmetric_difference_by_minus xs ys)

pub symmetric_difference-self : (xs : List Bool) → count (symmetric_difference xs xs) ≡ 0
symmetric_difference-self [] = refl
symmetric_difference-self (true ∷ xs) = omega (arith, symmetric_difference-self xs)
symmetric_difference-self (false ∷ xs) = omega (arith, symmetric_difference-self xs)

pub complement-complement : (xs : List Bool) → complement (complement xs) ≡ xs
complement-complement [] = refl
complement-complement (true ∷ xs) = ap (λ rest. true ∷ rest) (complement-complement xs)
complement-complement (false ∷ xs) = ap (λ rest. false ∷ rest) (complement-complement xs)

-- what is left out is the complement of what is put in
pub minus_by_complement : (xs ys : List Bool) → minus xs ys ≡ complement (union (complement xs) ys)
minus_by_complement [] ys = refl
minus_by_complement (x ∷ xs) [] = refl
minus_by_complement (true ∷ xs) (y ∷ ys) = ap (λ rest. not y ∷ rest) (minus_by_complement xs ys)
minus_by_complement (false ∷ xs) (y ∷ ys) = ap (λ rest. false ∷ rest) (minus_by_complement xs ys)

-- ---- expand and shrink

-- `shrink` takes away what `expand` or `expand_in` put in
pub items_outside-expand_as : (inside : Bool) (flags by : List Bool) → length flags + count by ≡ length by → items_outside by (expand_as inside flags by) ≡ flags
items_outside-expand_as inside [] [] same = refl
items_outside-expand_as inside (flag ∷ flags) [] same = absurd (omega arith)
items_outside-expand_as inside flags (true ∷ by) same = items_outside-expand_as inside flags by (omega arith)
items_outside-expand_as inside [] (false ∷ by) same = absurd (omega (arith, count_le_length by))
items_outside-expand_as inside (flag ∷ flags) (false ∷ by) same = ap (λ rest. flag ∷ rest) (items_outside-expand_as inside flags by (omega arith))

pub count-expand : (flags by : List Bool) → length flags + count by ≡ length by → count (expand flags by) ≡ count flags
count-expand [] [] same = refl
count-expand (flag ∷ flags) [] same = absurd (omega arith)
count-expand flags (true ∷ by) same = omega (arith, count-expand flags by (omega arith))
count-expand [] (false ∷ by) same = absurd (omega (arith, count_le_length by))
count-expand (flag ∷ flags) (false ∷ by) same = omega (arith, count-expand flags by (omega arith))

pub count-expand_in : (flags by : List Bool) → length flags + count by ≡ length by → count (expand_in flags by) ≡ count flags + count by
count-expand_in [] [] same = refl
count-expand_in (flag ∷ flags) [] same = absurd (omega arith)
count-expand_in flags (true ∷ by) same = omega (arith, count-expand_in flags by (omega arith))
count-expand_in [] (false ∷ by) same = absurd (omega (arith, count_le_length by))
count-expand_in (flag ∷ flags) (false ∷ by) same = omega (arith, count-expand_in flags by (omega arith))

-- the positions put in are members beside those that were
pub expand_in_by_union : (flags by : List Bool) → length flags + count by ≡ length by → expand_in flags by ≡ union (expand flags by) by
expand_in_by_union [] [] same = refl
expand_in_by_union (flag ∷ flags) [] same = absurd (omega arith)
expand_in_by_union flags (true ∷ by) same = ap (λ rest. true ∷ rest) (expand_in_by_union flags by (omega arith))
expand_in_by_union [] (false ∷ by) same = absurd (omega (arith, count_le_length by))
expand_in_by_union (true ∷ flags) (false ∷ by) same = ap (λ rest. true ∷ rest) (expand_in_by_union flags by (omega arith))
expand_in_by_union (false ∷ flags) (false ∷ by) same = ap (λ rest. false ∷ rest) (expand_in_by_union flags by (omega arith))

-- and none of them was a member before
pub minus-expand : (flags by : List Bool) → length flags + count by ≡ length by → minus by (expand flags by) ≡ by
minus-expand [] [] same = refl
minus-expand (flag ∷ flags) [] same = absurd (omega arith)
minus-expand flags (true ∷ by) same = ap (λ rest. true ∷ rest) (minus-expand flags by (omega arith))
minus-expand [] (false ∷ by) same = absurd (omega (arith, count_le_length by))
minus-expand (flag ∷ flags) (false ∷ by) same = ap (λ rest. false ∷ rest) (minus-expand flags by (omega arith))

-- what `shrink` takes away, `expand` puts in as no members
pub expand-shrink : (flags by : List Bool) → length flags ≡ length by → expand (shrink flags by) by ≡ minus flags by
expand-shrink [] [] same = refl
expand-shrink [] (b ∷ by) same = absurd (omega arith)
expand-shrink (flag ∷ flags) [] same = absurd (omega arith)
expand-shrink (true ∷ flags) (true ∷ by) same = ap (λ rest. false ∷ rest) (expand-shrink flags by (omega arith))
expand-shrink (false ∷ flags) (true ∷ by) same = ap (λ rest. false ∷ rest) (expand-shrink flags by (omega arith))
expand-shrink (true ∷ flags) (false ∷ by) same = ap (λ rest. true ∷ rest) (expand-shrink flags by (omega arith))
expand-shrink (false ∷ flags) (false ∷ by) same = ap (λ rest. false ∷ rest) (expand-shrink flags by (omega arith))

-- and `expand_in` as members
pub expand_in-shrink : (flags by : List Bool) → length flags ≡ length by → expand_in (shrink flags by) by ≡ union flags by
expand_in-shrink [] [] same = refl
expand_in-shrink [] (b ∷ by) same = absurd (omega arith)
expand_in-shrink (flag ∷ flags) [] same = absurd (omega arith)
expand_in-shrink (true ∷ flags) (true ∷ by) same = ap (λ rest. true ∷ rest) (expand_in-shrink flags by (omega arith))
expand_in-shrink (false ∷ flags) (true ∷ by) same = ap (λ rest. true ∷ rest) (expand_in-shrink flags by (omega arith))
expand_in-shrink (true ∷ flags) (false ∷ by) same = ap (λ rest. true ∷ rest) (expand_in-shrink flags by (omega arith))
expand_in-shrink (false ∷ flags) (false ∷ by) same = ap (λ rest. false ∷ rest) (expand_in-shrink flags by (omega arith))

pub count-shrink : (flags by : List Bool) → length flags ≡ length by → count (shrink flags by) ≡ count (minus flags by)
count-shrink [] [] same = refl
count-shrink [] (b ∷ by) same = absurd (omega arith)
count-shrink (flag ∷ flags) [] same = absurd (omega arith)
count-shrink (true ∷ flags) (true ∷ by) same = omega (arith, count-shrink flags by (omega arith))
count-shrink (false ∷ flags) (true ∷ by) same = omega (arith, count-shrink flags by (omega arith))
count-shrink (true ∷ flags) (false ∷ by) same = omega (arith, count-shrink flags by (omega arith))
count-shrink (false ∷ flags) (false ∷ by) same = omega (arith, count-shrink flags by (omega arith))

-- positions that come in two steps, `by` and then `more`, come in one
pub expand_as-expand_as : (inside : Bool) (flags by more : List Bool) → length by + count more ≡ length more → expand_as inside (expand_as inside flags by) more ≡ expand_as inside flags (expand_in by more)
expand_as-expand_as inside flags [] [] same = refl
expand_as-expand_as inside flags (b ∷ by) [] same = absurd (omega arith)
expand_as-expand_as inside flags by (true ∷ more) same = ap (λ rest. inside ∷ rest) (expand_as-expand_as inside flags by more (omega arith))
expand_as-expand_as inside flags [] (false ∷ more) same = absurd (omega (arith, count_le_length more))
expand_as-expand_as inside flags (true ∷ by) (false ∷ more) same = ap (λ rest. inside ∷ rest) (expand_as-expand_as inside flags by more (omega arith))
expand_as-expand_as inside [] (false ∷ by) (false ∷ more) same = ap (λ rest. false ∷ rest) (expand_as-expand_as inside [] by more (omega arith))
expand_as-expand_as inside (flag ∷ flags) (false ∷ by) (false ∷ more) same = ap (λ rest. flag ∷ rest) (expand_as-expand_as inside flags by more (omega arith))

-- and items that go in two steps, those at `more` and then those at `by` of the rest, go in one
pub items_outside-items_outside : {X : Type 0} (by more : List Bool) (xs : List X) → length by + count more ≡ length more → length xs ≡ length more → items_outside by (items_outside more xs) ≡ items_outside (expand_in by more) xs
items_outside-items_outside [] [] xs same all = refl
items_outside-items_outside (b ∷ by) [] xs same all = absurd (omega arith)
items_outside-items_outside by (m ∷ more) [] same all = absurd (omega arith)
items_outside-items_outside by (true ∷ more) (x ∷ xs) same all = items_outside-items_outside by more xs (omega arith) (omega arith)
items_outside-items_outside [] (false ∷ more) (x ∷ xs) same all = absurd (omega (arith, count_le_length more))
items_outside-items_outside (true ∷ by) (false ∷ more) (x ∷ xs) same all = items_outside-items_outside by more xs (omega arith) (omega arith)
items_outside-items_outside (false ∷ by) (false ∷ more) (x ∷ xs) same all = ap (λ rest. x ∷ rest) (items_outside-items_outside by more xs (omega arith) (omega arith))

-- ---- the transforms one by one

at_each-nil : (f : Bool → Bool → Bool) (xs : List Bool) → at_each f xs [] ≡ []
at_each-nil f [] = refl
at_each-nil f (x ∷ xs) = refl

pub items_outside-at_each : (f : Bool → Bool → Bool) (by xs ys : List Bool) → items_outside by (at_each f xs ys) ≡ at_each f (items_outside by xs) (items_outside by ys)
items_outside-at_each f [] xs ys = refl
items_outside-at_each f (b ∷ by) [] ys = refl
items_outside-at_each f (true ∷ by) (x ∷ xs) [] = sym (at_each-nil f (items_outside by xs))
items_outside-at_each f (false ∷ by) (x ∷ xs) [] = refl
items_outside-at_each f (true ∷ by) (x ∷ xs) (y ∷ ys) = items_outside-at_each f by xs ys
items_outside-at_each f (false ∷ by) (x ∷ xs) (y ∷ ys) = ap (λ rest. f x y ∷ rest) (items_outside-at_each f by xs ys)

pub items_outside-map : {X Y : Type 0} (f : X → Y) (by : List Bool) (xs : List X) → items_outside by (map f xs) ≡ map f (items_outside by xs)
items_outside-map f [] xs = refl
items_outside-map f (b ∷ by) [] = refl
items_outside-map f (true ∷ by) (x ∷ xs) = items_outside-map f by xs
items_outside-map f (false ∷ by) (x ∷ xs) = ap (λ rest. f x ∷ rest) (items_outside-map f by xs)

pub expand_as-union : (inside : Bool) (xs ys by : List Bool) → length xs ≡ length ys → expand_as inside (union xs ys) by ≡ union (expand_as inside xs by) (expand_as inside ys by)
expand_as-union inside xs ys [] same = refl
expand_as-union true xs ys (true ∷ by) same = ap (λ rest. true ∷ rest) (expand_as-union true xs ys by same)
expand_as-union false xs ys (true ∷ by) same = ap (λ rest. false ∷ rest) (expand_as-union false xs ys by same)
expand_as-union inside [] [] (false ∷ by) same = ap (λ rest. false ∷ rest) (expand_as-union inside [] [] by same)
expand_as-union inside [] (y ∷ ys) (false ∷ by) same = absurd (omega arith)
expand_as-union inside (x ∷ xs) [] (false ∷ by) same = absurd (omega arith)
expand_as-union inside (x ∷ xs) (y ∷ ys) (false ∷ by) same = ap (λ rest. (x || y) ∷ rest) (expand_as-union inside xs ys by (omega arith))

pub expand-minus : (xs ys by : List Bool) → length xs ≡ length ys → expand (minus xs ys) by ≡ minus (expand xs by) (expand ys by)
expand-minus xs ys [] same = refl
expand-minus xs ys (true ∷ by) same = ap (λ rest. false ∷ rest) (expand-minus xs ys by same)
expand-minus [] [] (false ∷ by) same = ap (λ rest. false ∷ rest) (expand-minus [] [] by same)
expand-minus [] (y ∷ ys) (false ∷ by) same = absurd (omega arith)
expand-minus (x ∷ xs) [] (false ∷ by) same = absurd (omega arith)
expand-minus (x ∷ xs) (y ∷ ys) (false ∷ by) same = ap (λ rest. (x && not y) ∷ rest) (expand-minus xs ys by (omega arith))

pub complement-expand : (flags by : List Bool) → length flags + count by ≡ length by → complement (expand flags by) ≡ expand_in (complement flags) by
complement-expand [] [] same = refl
complement-expand (flag ∷ flags) [] same = absurd (omega arith)
complement-expand flags (true ∷ by) same = ap (λ rest. true ∷ rest) (complement-expand flags by (omega arith))
complement-expand [] (false ∷ by) same = absurd (omega (arith, count_le_length by))
complement-expand (flag ∷ flags) (false ∷ by) same = ap (λ rest. not flag ∷ rest) (complement-expand flags by (omega arith))
