-- Two lists that are one at their beginnings and at their ends.
use Rattle.std.specs.Prelude.{◌≡◌, ℕ, ◌+◌, ◌<◌, List, [], ◌∷◌, ◌++◌, length, reverse, ⊤}
use Rattle.plain_screen.specs.Touched.{common_len}

-- the numbers rise from one on
abbrev pub RiseAbove : ℕ → List ℕ → Type 0
RiseAbove low [] = ⊤
RiseAbove low (n ∷ ns) = (low < n + 1) × RiseAbove (n + 1) ns

-- what stands between the beginning that two lists have in common and the end that they have in common: something went, and something came
pub record HaveParts (xs ys : List ℕ) : Type 0 where
  pub front : List ℕ
  pub gone : List ℕ
  pub come : List ℕ
  pub back : List ℕ
  pub before : xs ≡ front ++ (gone ++ back)
  pub after : ys ≡ front ++ (come ++ back)
  pub left : length front ≡ common_len xs ys
  pub right : length back ≡ common_len (reverse xs) (reverse ys)
