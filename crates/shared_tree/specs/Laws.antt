-- What the sums of a tree have to obey.
use Rattle.std.specs.Prelude.{◌≡◌, ℕ, ◌+◌, ◌^◌, ◌<◌, Bool, IsTrue, List, [], ◌++◌, length}

-- sums are added in any grouping from a zero, a part of what fits fits, and what fits is of fewer than 2^64 items
pub record Adds {I : Type 0} (zero : I) (plus : I → I → I) (fits : I → Bool) (count : I → ℕ) : Type 0 where
  pub left_zero : (a : I) → plus zero a ≡ a
  pub right_zero : (a : I) → plus a zero ≡ a
  pub grouped : (a b c : I) → plus (plus a b) c ≡ plus a (plus b c)
  pub zero_fits : IsTrue (fits zero)
  pub left_fits : (a b : I) → IsTrue (fits (plus a b)) → IsTrue (fits a)
  pub right_fits : (a b : I) → IsTrue (fits (plus a b)) → IsTrue (fits b)
  pub none : count zero ≡ 0
  pub counts : (a b : I) → count (plus a b) ≡ count a + count b
  pub small : (a : I) → IsTrue (fits a) → count a < 2 ^ 64

-- the sum of no items is the zero, that of two lists the sum of both, and it counts the items
pub record Sums {Item I : Type 0} (summed : List Item → I) (zero : I) (plus : I → I → I) (count : I → ℕ) : Type 0 where
  pub empty : summed [] ≡ zero
  pub joined : (xs ys : List Item) → summed (xs ++ ys) ≡ plus (summed xs) (summed ys)
  pub counts : (xs : List Item) → count (summed xs) ≡ length xs
