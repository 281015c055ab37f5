-- Lines of a layout, piece by piece, and what a layout tells.
use Rattle.std.proofs.Common.{◌≡◌, ℕ, zero, suc, ◌+◌, ◌-◌, ◌<◌, ◌≤◌, List, [], ◌∷◌, ◌++◌, length, map, take, drop, Some, None, refl, ap, sym, ◌∙◌, arith, append_assoc, length-drop, length-take}
use Rattle.std.specs.Prelude.{◌==◌, option_map, slice_get, slice_range, unwrap_or}
use Rattle.std.proofs.lemmas.Option.{slice_get-map}
use Rattle.std.proofs.lemmas.Str.{len_utf8_bounds}
use Rattle.plain_text.specs.Text.{byte_len}
use Rattle.plain_screen.specs.declared.piece.Piece.{Piece}
use Rattle.plain_screen.specs.View.{ArePieces}
use Rattle.line_render.proofs.ForCallers.{piece-inside, rendered-pieces}
use Rattle.doc_layout.specs.Inner.{IsPieceIn}

pub length-byte_len : (text : List ℕ) → length text ≤ byte_len text
length-byte_len [] = omega arith
length-byte_len (c ∷ text) = omega (arith, length-byte_len text, len_utf8_bounds c)

-- an item more of those from an index on
taken-on : {X : Type 0} (y : X) (k : ℕ) (xs : List X) → Some y ≡ slice_get xs k → take k xs ++ y ∷ [] ≡ take (suc k) xs
taken-on y k [] is = absurd cc
taken-on y zero (x ∷ xs) is = ap (λ o. unwrap_or o y ∷ []) is
taken-on y (suc k) (x ∷ xs) is = ap (λ ys. x ∷ ys) (taken-on y k xs is)

-- an item of those from an index on, and of the first so many
pub slice-drop : {X : Type 0} (n k : ℕ) (xs : List X) → slice_get (drop n xs) k ≡ slice_get xs (n + k)
slice-drop zero k xs = let same : k ≡ 0 + k = omega arith in ap (slice_get xs) same
slice-drop (suc n) k [] = refl
slice-drop (suc n) k (x ∷ xs) = slice-drop n k xs ∙ ap (slice_get (x ∷ xs)) (let on : suc (n + k) ≡ suc n + k = omega arith in on)

pub slice-take : {X : Type 0} (n k : ℕ) (xs : List X) → k < n → slice_get (take n xs) k ≡ slice_get xs k
slice-take zero k xs less = absurd (omega (arith, less))
slice-take (suc n) k [] less = refl
slice-take (suc n) zero (x ∷ xs) less = refl
slice-take (suc n) (suc k) (x ∷ xs) less = slice-take n k xs (omega (arith, less))

-- no items, where they end at the index where they start
pub slice_range-none : {X : Type 0} (xs : List X) (at : ℕ) → slice_range xs at at ≡ []
slice_range-none xs at = ap (λ n. take n (drop at xs)) (let none : at - at ≡ 0 = omega arith in none)

pub length-slice_range : {X : Type 0} (xs : List X) (from to : ℕ) → from ≤ to → to ≤ length xs → length (slice_range xs from to) ≡ to - from
length-slice_range xs from to ordered inside = omega (arith, length-take (to - from) (drop from xs), length-drop from xs, ordered, inside)

-- one piece more of those that were mapped
pub mapped-more : {X Y : Type 0} (f : X → Y) (y : Y) (from at : ℕ) (xs : List X) (ys : List Y) → from ≤ at → ys ≡ slice_range (map f xs) from at →
    Some y ≡ option_map f (slice_get xs at) → ys ++ y ∷ [] ≡ slice_range (map f xs) from (at + 1)
mapped-more f y from at xs ys low so_far is =
    let on : from + (at - from) ≡ at = omega (arith, low) in
    let next : suc (at - from) ≡ at + 1 - from = omega (arith, low) in
    ap (λ zs. zs ++ y ∷ []) so_far ∙
    taken-on y (at - from) (drop from (map f xs))
    (is ∙ sym (slice_get-map f xs at) ∙ ap (slice_get (map f xs)) (sym on) ∙ sym (slice-drop from (at - from) (map f xs))) ∙
    ap (λ n. take n (drop from (map f xs))) next

-- and of those that stand behind others
pub mapped-put : {X Y : Type 0} (f : X → Y) (y : Y) (from at : ℕ) (xs : List X) (was made next : List Y) → from ≤ at →
    made ≡ was ++ slice_range (map f xs) from at → next ≡ made ++ y ∷ [] → Some y ≡ option_map f (slice_get xs at) →
    next ≡ was ++ slice_range (map f xs) from (at + 1)
mapped-put f y from at xs was made next low so_far put is =
    put ∙ ap (λ ys. ys ++ y ∷ []) so_far ∙ append_assoc was (slice_range (map f xs) from at) (y ∷ []) ∙
    ap (λ ys. was ++ ys) (mapped-more f y from at xs (slice_range (map f xs) from at) low refl is)

-- the line of a piece that is looked up is the one of the layout
pub mapped-got : {X Y : Type 0} (f : X → Y) (y : Y) (index : ℕ) (xs : List X) → Some y ≡ option_map f (slice_get xs index) →
    slice_get (map f xs) index ≡ Some y
mapped-got f y index xs is = slice_get-map f xs index ∙ sym is

-- among those from an index on, and among the first so many of these
pub mapped-from : {X Y : Type 0} (f : X → Y) (y : Y) (at k : ℕ) (xs : List X) → Some y ≡ option_map f (slice_get xs (at + k)) →
    slice_get (drop at (map f xs)) k ≡ Some y
mapped-from f y at k xs is = slice-drop at k (map f xs) ∙ mapped-got f y (at + k) xs is

pub mapped-among : {X Y : Type 0} (f : X → Y) (y : Y) (at n k : ℕ) (xs : List X) → k < n → Some y ≡ option_map f (slice_get xs (at + k)) →
    slice_get (take n (drop at (map f xs))) k ≡ Some y
mapped-among f y at n k xs less is = slice-take n k (drop at (map f xs)) less ∙ mapped-from f y at k xs is

-- there is a piece with each index
pub slice-there : {X : Type 0} (xs : List X) (index : ℕ) → index < length xs → slice_get xs index ≡ None → ⊥
slice-there [] index inside none = omega arith
slice-there (x ∷ xs) zero inside none = cc
slice-there (x ∷ xs) (suc index) inside none = slice-there xs index (omega arith) none

-- a piece of a text, and whether it is the last
pub IsPieceIn-pieces : (text : List ℕ) (pieces : List Piece) (index : ℕ) (piece : Piece) → ArePieces text pieces → slice_get pieces index ≡ Some piece →
    IsPieceIn text piece (index + 1 == length pieces)
IsPieceIn-pieces text pieces index piece are is =
    let inside = piece-inside text pieces index piece are is in record {
      ordered = inside.0;
      inside = inside.1;
      alike = λ regions spans. rendered-pieces text pieces index piece regions spans are is;
    }
