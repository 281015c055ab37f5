-- Whether a number is among the keys of a set.
use Rattle.std.proofs.Common.{◌≡◌, ℕ, ◌||◌, ◌==◌, List, [], ◌∷◌, nat_cmp, refl, ap₂, arith}
use Rattle.std.specs.List.{list_any}
use Rattle.std.specs.BTreeMap.{is_at}
use Rattle.std.proofs.lemmas.Bool.Decides.{nat_tests}
use Rattle.plain_text.specs.Numbers.{has}

at_number : (n m : ℕ) → is_at (nat_cmp n) m ≡ (m == n)
at_number n m = grind (arith, nat_tests)

pub has_contains : (numbers : List ℕ) (n : ℕ) → list_any (is_at (nat_cmp n)) numbers ≡ has numbers n
has_contains [] n = refl
has_contains (m ∷ numbers) n = ap₂ (λ a b. a || b) (at_number n m) (has_contains numbers n)
