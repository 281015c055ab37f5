-- The order of ranks: of two distinct ranks one is lower, it passes on, and of two only one is lower.
use Rattle.std.proofs.Common.{◌≡◌, ◌≢◌, ℕ, Bool, true, false, ◌&&◌, ◌||◌, nat_lt, ◌==◌, refl, arith}
use Rattle.std.proofs.lemmas.Bool.Decides.{nat_tests}
use Rattle.plain_edits.specs.declared.rank.Rank.{Rank}
use Rattle.plain_edits.specs.Rank.{is_lower}

pub same_rank : (rank other : Rank) → rank.priority ≡ other.priority → rank.author ≡ other.author → rank ≡ other
same_rank rank other priority author = λ i. record { priority = priority i; author = author i }

same_numbers : (p q a b : ℕ) → (nat_lt p q || p == q && nat_lt a b) ≡ false → (nat_lt q p || q == p && nat_lt b a) ≡ false → p ≡ q
same_numbers p q a b one other = grind (arith, nat_tests)

same_authors : (p q a b : ℕ) → (nat_lt p q || p == q && nat_lt a b) ≡ false → (nat_lt q p || q == p && nat_lt b a) ≡ false → a ≡ b
same_authors p q a b one other = grind (arith, nat_tests)

pub is_lower-other : (rank other : Rank) → rank ≢ other → is_lower rank other ≡ false → is_lower other rank ≡ true
is_lower-other rank other differ not_one = by (is_lower other rank) refl
  where
    by : (b : Bool) → is_lower other rank ≡ b → b ≡ true
    by true is = refl
    by false is = absurd (differ (same_rank rank other
        (same_numbers rank.priority other.priority rank.author other.author not_one is)
        (same_authors rank.priority other.priority rank.author other.author not_one is)))

pub is_lower-passes : (rank other last : Rank) → is_lower rank other ≡ true → is_lower other last ≡ true → is_lower rank last ≡ true
is_lower-passes rank other last one more = grind (arith, nat_tests)

pub is_lower-back : (rank other : Rank) → is_lower rank other ≡ true → is_lower other rank ≡ false
is_lower-back rank other is = grind (arith, nat_tests)
