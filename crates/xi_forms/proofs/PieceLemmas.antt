-- The front of a piece, and more of it.
use Rattle.std.proofs.Common.{◌≡◌, ℕ, zero, suc, ◌+◌, ◌-◌, List, [], ◌∷◌, ◌++◌, length, take, drop, ap, sym, ◌∙◌, arith}
use Rattle.std.proofs.lemmas.List.{length-drop, take_all}
use Rattle.std.proofs.Math.Seq.{take-nil}

take-plus : (m n : ℕ) (xs : List ℕ) → take (m + n) xs ≡ take m xs ++ take n (drop m xs)
take-plus zero n xs = let same : zero + n ≡ n = omega arith in ap (λ k. take k xs) same
take-plus (suc m) n [] = take-nil (suc m + n) ∙ sym (take-nil n)
take-plus (suc m) n (x ∷ xs) =
    let less : suc m + n ≡ suc (m + n) = omega arith in
    ap (λ k. take k (x ∷ xs)) less ∙ ap (λ rest. x ∷ rest) (take-plus m n xs)

take_rest : (m : ℕ) (xs : List ℕ) → take (length xs - m) (drop m xs) ≡ drop m xs
take_rest m xs = take_all (length xs - m) (drop m xs) (omega (arith, length-drop m xs))

pub take-plus_rest : (m n : ℕ) (xs : List ℕ) → take m xs ++ take n (take (length xs - m) (drop m xs)) ≡ take (m + n) xs
take-plus_rest m n xs = ap (λ rest. take m xs ++ take n rest) (take_rest m xs) ∙ sym (take-plus m n xs)
