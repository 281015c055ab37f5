-- Lemmas on lists that are made from a function of the index.
use Rattle.std.proofs.Common.{◌≡◌, ℕ, zero, suc, ◌+◌, ◌<◌, ◌∷◌, ◌++◌, map, replicate, refl, ap, ap₂, ◌∙◌, arith}
use Rattle.std.specs.List.{range_with_len}

-- a run of indexes in two parts
pub range-parts : (a n m : ℕ) → range_with_len a (n + m) ≡ range_with_len a n ++ range_with_len (a + n) m
range-parts a zero m = let one : zero + m ≡ m = omega arith in let two : a ≡ a + zero = omega arith in ap₂ range_with_len two one
range-parts a (suc n) m =
    let one : suc n + m ≡ suc (n + m) = omega arith in
    let two : a + 1 + n ≡ a + suc n = omega arith in
    ap (range_with_len a) one ∙ ap (λ ks. a ∷ ks) (range-parts (a + 1) n m ∙ ap (λ b. range_with_len (a + 1) n ++ range_with_len b m) two)

-- two functions that go alike from two indexes on
pub map-range : {X : Type 0} (f g : ℕ → X) (a b n : ℕ) → ((k : ℕ) → k < n → f (a + k) ≡ g (b + k)) → map f (range_with_len a n) ≡ map g (range_with_len b n)
map-range f g a b zero same = refl
map-range f g a b (suc n) same =
    let left : a ≡ a + 0 = omega arith in
    let right : b + 0 ≡ b = omega arith in
    ap₂ (λ x xs. x ∷ xs) (ap f left ∙ same 0 (omega arith) ∙ ap g right)
    (map-range f g (a + 1) (b + 1) n (λ k lt.
    let from : a + 1 + k ≡ a + (k + 1) = omega arith in
    let to : b + (k + 1) ≡ b + 1 + k = omega arith in
    ap f from ∙ same (k + 1) (omega arith) ∙ ap g to))

pub map-replicate : {X : Type 0} (f : ℕ → X) (a n : ℕ) (x : X) → ((k : ℕ) → k < n → f (a + k) ≡ x) → map f (range_with_len a n) ≡ replicate n x
map-replicate f a zero x same = refl
map-replicate f a (suc n) x same =
    let left : a ≡ a + 0 = omega arith in
    ap₂ (λ y ys. y ∷ ys) (ap f left ∙ same 0 (omega arith))
    (map-replicate f (a + 1) n x (λ k lt. let from : a + 1 + k ≡ a + (k + 1) = omega arith in ap f from ∙ same (k + 1) (omega arith)))
