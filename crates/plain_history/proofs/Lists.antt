-- Lemmas on lists that are made piece by piece.
use Rattle.std.proofs.Common.{◌≡◌, ℕ, zero, suc, ◌+◌, List, [], ◌∷◌, ◌++◌, ap, sym, ◌∙◌, append_assoc, append-nil, arith}
use Rattle.std.specs.List.{flat_map, range_with_len}
use Rattle.plain_text.specs.Woven.{woven}
use Rattle.std.proofs.lemmas.List.Concat.{flat_map-append}

-- one more number at the end of a range
pub range_with_len-push : (a n : ℕ) → range_with_len a (n + 1) ≡ range_with_len a n ++ (a + n) ∷ []
range_with_len-push a zero = ap (λ m. m ∷ []) (omega arith)
range_with_len-push a (suc n) =
    let longer : suc n + 1 ≡ suc (n + 1) = omega arith in
    let more : a + 1 + n ≡ a + suc n = omega arith in
    ap (range_with_len a) longer ∙
    ap (λ ms. a ∷ ms) (range_with_len-push (a + 1) n ∙ ap (λ m. range_with_len (a + 1) n ++ m ∷ []) more)

-- one more piece of a range
pub flat_map-range_push : {Y : Type 0} (f : ℕ → List Y) (n : ℕ) →
    flat_map f (range_with_len 0 (n + 1)) ≡ flat_map f (range_with_len 0 n) ++ f n
flat_map-range_push f n =
    let last : 0 + n ≡ n = omega arith in
    ap (flat_map f) (range_with_len-push 0 n) ∙ flat_map-append f (range_with_len 0 n) ((0 + n) ∷ []) ∙
    ap (λ piece. flat_map f (range_with_len 0 n) ++ piece) (append-nil (f (0 + n)) ∙ ap f last)

-- one more piece at the end of what is made
pub piece_more : {Y : Type 0} (made start before piece all : List Y) → all ≡ before ++ piece → made ≡ start ++ before →
    made ++ piece ≡ start ++ all
piece_more made start before piece all split is =
    ap (λ xs. xs ++ piece) is ∙ append_assoc start before piece ∙ ap (λ xs. start ++ xs) (sym split)

-- one item moves from what is to come to what is made
pub item_more : {Y : Type 0} (made whole rest : List Y) (y : Y) → made ++ (y ∷ rest) ≡ whole → (made ++ y ∷ []) ++ rest ≡ whole
item_more made whole rest y is = append_assoc made (y ∷ []) rest ∙ is

-- one item moves from what is to come of a woven list to what is made: what stands before it, and what becomes of it
pub woven_more : {X Y : Type 0} (between : ℕ → List Y) (at : ℕ → X → List Y) (index : ℕ) (x : X) (xs rest : List X) (made more last whole : List Y) →
    xs ≡ x ∷ rest → made ++ woven between at index xs ≡ whole → more ≡ made ++ between index → last ≡ more ++ at index x →
    last ++ woven between at (index + 1) rest ≡ whole
woven_more between at index x xs rest made more last whole split is_whole is_more is_last =
    let tail = woven between at (index + 1) rest in
    ap (λ ys. ys ++ tail) (is_last ∙ ap (λ ys. ys ++ at index x) is_more) ∙
    append_assoc (made ++ between index) (at index x) tail ∙ append_assoc made (between index) (at index x ++ tail) ∙
    ap (λ ys. made ++ woven between at index ys) (sym split) ∙ is_whole

-- the end of a woven list
pub woven_end : {X Y : Type 0} (between : ℕ → List Y) (at : ℕ → X → List Y) (index : ℕ) (xs : List X) (made last whole : List Y) →
    xs ≡ [] → made ++ woven between at index xs ≡ whole → last ≡ made ++ between index → last ≡ whole
woven_end between at index xs made last whole none is_whole is_last =
    is_last ∙ ap (λ ys. made ++ woven between at index ys) (sym none) ∙ is_whole
