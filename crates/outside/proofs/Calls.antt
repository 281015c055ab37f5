-- What several calls of a source or a sink did, one after the other.
use Rattle.std.proofs.Common.{◌≡◌, ℕ, ◌≤◌, List, [], ◌++◌, Option, Some, None, refl, sym, ◌∙◌, ap, arith}
use Rattle.std.proofs.lemmas.List.{append_assoc, append-nil, append_cancel_left, append_cancel_right}
use Rattle.std.specs.Prelude.{IfSome}
use Rattle.outside.specs.Source.{Gives}
use Rattle.outside.specs.Sink.{Gains}
use Rattle.outside.specs.Faults.{Rose}

-- no call gives nothing
pub Gives-none : (told : Option (List ℕ)) → Gives told told []
Gives-none None = tt
Gives-none (Some bytes) = refl

-- what two calls give, the second after the first
pub Gives-append : (a b c : Option (List ℕ)) (xs ys : List ℕ) → Gives a b xs → Gives b c ys → Gives a c (xs ++ ys)
Gives-append None None None xs ys p q = tt
Gives-append None None (Some z) xs ys p q = absurd q
Gives-append None (Some y) c xs ys p q = absurd p
Gives-append (Some x) None c xs ys p q = absurd p
Gives-append (Some x) (Some y) None xs ys p q = absurd q
Gives-append (Some x) (Some y) (Some z) xs ys p q = rw (p, q, append_assoc)

-- no call gains nothing
pub Gains-none : (told : Option (List ℕ)) → Gains told told []
Gains-none None = tt
Gains-none (Some bytes) = sym (append-nil bytes)

-- what two calls gain, the second after the first
pub Gains-append : (a b c : Option (List ℕ)) (xs ys : List ℕ) → Gains a b xs → Gains b c ys → Gains a c (xs ++ ys)
Gains-append None None None xs ys p q = tt
Gains-append None None (Some z) xs ys p q = absurd q
Gains-append None (Some y) c xs ys p q = absurd p
Gains-append (Some x) b None xs ys p q = tt
Gains-append (Some x) None (Some z) xs ys p q = absurd q
Gains-append (Some x) (Some y) (Some z) xs ys p q = rw (q, p, append_assoc)

-- a source that tells pins what it gave
pub Gives-pins : (x y xs ys : List ℕ) → Gives (Some x) (Some y) xs → Gives (Some x) (Some y) ys → xs ≡ ys
Gives-pins x y xs ys p q = append_cancel_right xs ys y (sym p ∙ q)

-- a sink that tells pins what it gained
pub Gains-pins : (x y xs ys : List ℕ) → Gains (Some x) (Some y) xs → Gains (Some x) (Some y) ys → xs ≡ ys
Gains-pins x y xs ys p q = append_cancel_left x xs ys (sym p ∙ q)

-- where nothing is left, all that was left before was given
pub Gives-all : (a b : Option (List ℕ)) (xs : List ℕ) → Gives a b xs → IfSome b (λ left. left ≡ []) → IfSome a (λ left. left ≡ xs)
Gives-all None b xs p q = tt
Gives-all (Some x) None xs p q = absurd p
Gives-all (Some x) (Some y) xs p q = p ∙ ap (λ left. xs ++ left) q ∙ append-nil xs

-- a count that rose has risen after later calls too
pub Rose-later : (a b c : ℕ) → Rose a b → b ≤ c → Rose a c
Rose-later a b c p q = grind arith

-- and it has risen since earlier calls
pub Rose-earlier : (a b c : ℕ) → a ≤ b → Rose b c → Rose a c
Rose-earlier a b c p q = grind arith
