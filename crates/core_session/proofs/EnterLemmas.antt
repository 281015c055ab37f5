-- What is there, and what is not.
use Rattle.std.proofs.Common.{◌≡◌, refl, Bool, true, false, Option, Some, None, ap}
use Rattle.std.proofs.Math.Bool.{Bool-set}
use Rattle.std.proofs.Math.Logic.{∥∥₁_elim}

-- what is there is not absent
pub not_none : {A B : Type 0} {x : A} → Some x ≡ None → B
not_none is = absurd cc

is_none : {A : Type 0} → Option A → Bool
is_none None = true
is_none (Some x) = false

none_is : {A : Type 0} (x : Option A) → is_none x ≡ true → x ≡ None
unfolding is_none
none_is None is = refl
none_is (Some y) is = absurd cc

pub none_by : {A : Type 0} (x : Option A) → ∥ x ≡ None ∥₁ → x ≡ None
unfolding is_none
none_by x known = none_is x (∥∥₁_elim known (Bool-set _ _) (λ is. ap is_none is))

pub never_prop : IsProp ⊥
never_prop a b = absurd a
