-- A binary search in a table.
use Rattle.std.proofs.Common.{◌≡◌, ℕ, true, false, refl, ◌<◌, ◌≤◌, List, [], length, Some, ◌∙◌, ap, ⊎_elim}
use Rattle.std.specs.Prelude.{slice_get}
use Rattle.std.specs.Ordering.{nat_cmp, ordering_reverse, is_lt, is_le}
use Rattle.std.specs.declared.cmp.Ordering.{Ordering}
use Rattle.std.specs.Cmp.Lexicographic.{slice_cmp}
use Rattle.std.specs.FinMap.{slice_cmp-IsAntisymmetric, nat_cmp-IsAntisymmetric}
use Rattle.std.specs.declared.cmp.Ordering.TheVariants.{Less, Equal, Greater}
use Rattle.std.proofs.lemmas.Cmp.{nat_list_cmp_total, tied_itself}
use Rattle.std.proofs.lemmas.Map.Keys.{sorted_from_all_adjacent, Less-from_sorted}
use Rattle.std.proofs.lemmas.Option.{get_or_from_slice_get, slice_get_within}
use Rattle.std.proofs.lemmas.Bool.{cases_order}
use Rattle.case_table.specs.Table.{piece_at, NamesRise}

-- each place at which the name stands is from low up to high, and high is within the n names
pub record IsNarrowed (names : List (List ℕ)) (name : List ℕ) (n low high : ℕ) : Type 0 where
  pub above : (row : ℕ) → slice_get names row ≡ Some name → low ≤ row
  pub below : (row : ℕ) → slice_get names row ≡ Some name → row < high
  pub within : high ≤ n
  pub ordered : low ≤ high

-- a name is below each later one
pub rising-apart : (names : List (List ℕ)) (i j : ℕ) → NamesRise names → i < j → j < length names → slice_cmp nat_cmp (piece_at names i) (piece_at names j) ≡ Less
rising-apart names i j rising less within =
    Less-from_sorted (slice_cmp nat_cmp) names i j [] (sorted_from_all_adjacent nat_list_cmp_total names [] rising) less within

-- the same of names and not of places
pub names-apart : (names : List (List ℕ)) (a b : List ℕ) (i j : ℕ) → NamesRise names → slice_get names i ≡ Some a → slice_get names j ≡ Some b → i < j → slice_cmp nat_cmp a b ≡ Less
names-apart names a b i j rising at_i at_j less =
    let p = get_or_from_slice_get names i a [] at_i in
    let q = get_or_from_slice_get names j b [] at_j in
    let apart = rising-apart names i j rising less (slice_get_within names j b at_j) in
    cc

-- what is above another has it below
pub turned : (a b : List ℕ) → slice_cmp nat_cmp a b ≡ Less → slice_cmp nat_cmp b a ≡ Greater
turned a b less = nat_list_cmp_total.antisymm b a ∙ ap ordering_reverse less

-- names that compare equal are the same
pub equal_names : (a b : List ℕ) → slice_cmp nat_cmp a b ≡ Equal → a ≡ b
equal_names a b e = slice_cmp-IsAntisymmetric nat_cmp-IsAntisymmetric a b e

-- a name stands in one row
pub one_row : (names : List (List ℕ)) (name : List ℕ) (i j : ℕ) → NamesRise names → slice_get names i ≡ Some name → slice_get names j ≡ Some name → i ≡ j
one_row names name i j rising at_i at_j =
    let tied = tied_itself nat_list_cmp_total name in
    ⊎_elim (λ same. same) (⊎_elim
    (λ less. let apart = names-apart names name name i j rising at_i at_j less in cc)
    (λ more. let apart = names-apart names name name j i rising at_j at_i more in cc)) (cases_order i j)

-- a name below the one that is sought stands before it
pub before_sought : (names : List (List ℕ)) (name it : List ℕ) (middle row : ℕ) → NamesRise names → slice_get names middle ≡ Some it → slice_cmp nat_cmp it name ≡ Less → slice_get names row ≡ Some name → middle < row
before_sought names name it middle row rising at less found =
    let tied = tied_itself nat_list_cmp_total it in
    ⊎_elim (λ same. let e : slice_get names middle ≡ slice_get names row = ap (slice_get names) same in cc) (⊎_elim (λ before. before)
    (λ after. let apart = turned name it (names-apart names name it row middle rising found at after) in cc)) (cases_order middle row)

-- a name above the one that is sought stands after it
pub after_sought : (names : List (List ℕ)) (name it : List ℕ) (middle row : ℕ) → NamesRise names → slice_get names middle ≡ Some it → slice_cmp nat_cmp it name ≡ Greater → slice_get names row ≡ Some name → row < middle
after_sought names name it middle row rising at greater found =
    let tied = tied_itself nat_list_cmp_total it in
    ⊎_elim (λ same. let e : slice_get names middle ≡ slice_get names row = ap (slice_get names) same in cc) (⊎_elim
    (λ before. let apart = names-apart names it name middle row rising at found before in cc) (λ after. after)) (cases_order middle row)

reverse-le : (o : Ordering) → is_le o ≡ true → is_lt (ordering_reverse o) ≡ false
reverse-le Less e = refl
reverse-le Equal e = refl
reverse-le Greater e = cc

reverse-gt : (o : Ordering) → is_le o ≡ false → ordering_reverse o ≡ Less
reverse-gt Less e = cc
reverse-gt Equal e = cc
reverse-gt Greater e = refl

-- a name at most another has it not below
pub not_below : (a b : List ℕ) → is_le (slice_cmp nat_cmp a b) ≡ true → is_lt (slice_cmp nat_cmp b a) ≡ false
not_below a b e = rw (nat_list_cmp_total.antisymm b a) (reverse-le (slice_cmp nat_cmp a b) e)

-- else it has it below
pub then_below : (a b : List ℕ) → is_le (slice_cmp nat_cmp a b) ≡ false → slice_cmp nat_cmp b a ≡ Less
then_below a b e = nat_list_cmp_total.antisymm b a ∙ reverse-gt (slice_cmp nat_cmp a b) e
