-- An edit inside one node of a row, and the pieces of an edited leaf.
use Rattle.std.proofs.Common.{◌≡◌, ℕ, zero, suc, ◌+◌, ◌-◌, ◌*◌, ◌^◌, ◌<◌, ◌≤◌, List, ◌∷◌, ◌++◌, length, max, take, drop, get_or, append_assoc, refl, sym, ap, ◌∙◌, arith, length-append, length-drop, Option, Some, None, IfSome}
use Rattle.std.proofs.Math.Nat.{mul-le-mul_right, pow-suc}
use Rattle.std.proofs.lemmas.Grind.{common_steps}
use Rattle.std.proofs.lemmas.List.{length-map}
use Rattle.std.specs.Arc.{arc_value}
use Rattle.std.specs.declared.sync.Arc.{Arc}
use Rattle.shared_tree.specs.declared.leaf.Leaf.{Ghosts}
use Rattle.shared_tree.specs.declared.leaf.Summary.{Ghosts as Sum}
use Rattle.shared_tree.specs.Laws.{Adds, Sums}
use Rattle.shared_tree.specs.Shape.{Shape}
use Rattle.shared_tree.specs.Row.{items_in, items_of, leaves_of, shapes, IsBunch, IsFit, IsLevel, IsRow, IsRowOf}
use Rattle.shared_tree.specs.Replaced.{replaced}
use Rattle.shared_tree.proofs.RowLemmas.{back_levels, front_levels, items_in-append, row_full, row_many, IsRow-append, IsRow-cons}
use Rattle.shared_tree.proofs.SumLemmas.{IsFit-between, IsFit-left, IsFit-right}
use Rattle.shared_tree.proofs.CutLemmas.{drop-inside, items-cut, take-inside}

-- a list that is parted anew on the left and then on the right of its middle
pub parted-anew : {X : Type 0} (a b c front own both back : List X) → front ++ own ≡ a ++ b → both ++ back ≡ own ++ c → front ++ (both ++ back) ≡ a ++ (b ++ c)
parted-anew a b c front own both back left right =
    ap (λ xs. front ++ xs) right ∙ sym (append_assoc front own c) ∙ ap (λ xs. xs ++ c) left ∙ append_assoc a b c

-- a front of a list is a front of itself
pub taken : {X : Type 0} (n : ℕ) (xs : List X) → take n xs ≡ take n (take n xs)
taken n xs = grind (arith, common_steps)

regrouped-items : {X : Type 0} (a f o b c : List X) → a ++ ((f ++ (o ++ b)) ++ c) ≡ (a ++ f) ++ (o ++ (b ++ c))
regrouped-items a f o b c = simp append_assoc

pub IfSome_weaker : {X : Type 0} (option : Option X) (P Q : X → Type 0) → ((x : X) → P x → Q x) → IfSome option P → IfSome option Q
IfSome_weaker None P Q weaker is = is
IfSome_weaker (Some x) P Q weaker is = weaker x is

power_some : (h : ℕ) → 0 < 4 ^ h
power_some zero = omega arith
power_some (suc h) = let below : 0 < 4 ^ h = power_some h in omega (arith, pow-suc 4 h)

-- an edit of the middle is an edit of all
pub replaced-inside : {X : Type 0} (a b c others : List X) (from to : ℕ) → length a ≤ from → from ≤ to → to ≤ length a + length b → a ++ (replaced b (from - length a) (to - length a) others ++ c) ≡ replaced (a ++ (b ++ c)) from to others
replaced-inside a b c others from to low ordered high =
    rw (take-inside a b c from low (omega arith), drop-inside a b c to (omega arith) high) (regrouped-items a (take (from - length a) b) others (drop (to - length a) b) c)

module _ {L Item I Z : Type 0} (leaf : Ghosts L Item I) (nodes : List (Arc (Shape L) Z)) (i : ℕ) (node : Arc (Shape L) Z) (inside : i < length nodes) (is : node ≡ get_or nodes i node) where
  -- an edit inside a node of a row
  pub patch-cut : (others : List Item) (from to start : ℕ) → start ≡ length (items_in leaf (shapes (take i nodes))) → start ≤ from → from ≤ to → to - start ≤ length (items_of leaf (arc_value node)) → items_in leaf (shapes (take i nodes)) ++ (replaced (items_of leaf (arc_value node)) (from - start) (to - start) others ++ items_in leaf (shapes (drop (i + 1) nodes))) ≡ replaced (items_in leaf (shapes nodes)) from to others
  patch-cut others from to start at low ordered high =
      let edit = replaced-inside (items_in leaf (shapes (take i nodes))) (items_of leaf (arc_value node)) (items_in leaf (shapes (drop (i + 1) nodes))) others from to (omega arith) ordered (omega arith) in
      rw (at, items-cut leaf nodes i node inside is) edit

  module _ (sum : Sum I) (adds : Adds sum.zero sum.plus sum.fits sum.count) (sums : Sums leaf.summed sum.zero sum.plus sum.count) where
    pub patch-fits : (others : List Item) (from to start : ℕ) → start ≡ length (items_in leaf (shapes (take i nodes))) → start ≤ from → from ≤ to → to - start ≤ length (items_of leaf (arc_value node)) → IsFit leaf sum (replaced (items_in leaf (shapes nodes)) from to others) → IsFit leaf sum (replaced (items_of leaf (arc_value node)) (from - start) (to - start) others)
    patch-fits others from to start at low ordered high fit =
        IsFit-between leaf sum adds sums (items_in leaf (shapes (take i nodes))) (replaced (items_of leaf (arc_value node)) (from - start) (to - start) others) (items_in leaf (shapes (drop (i + 1) nodes))) (rw (patch-cut others from to start at low ordered high) fit)

module _ {L Item I : Type 0} (leaf : Ghosts L Item I) (sum : Sum I) (adds : Adds sum.zero sum.plus sum.fits sum.count) (sums : Sums leaf.summed sum.zero sum.plus sum.count) where
  -- what stands left of a part fits with it
  pub fits_with_front : (a b c : List Item) → IsFit leaf sum (a ++ (b ++ c)) → IsFit leaf sum (a ++ b)
  fits_with_front a b c fit =
      let parted : a ++ (b ++ c) ≡ (a ++ b) ++ c = sym (append_assoc a b c) in
      IsFit-left leaf sum adds sums (a ++ b) c (rw parted at fit)

  -- and what stands right of it, where its front is parted anew
  pub fits_with_back : (a b c front own : List Item) → front ++ own ≡ a ++ b → IsFit leaf sum (a ++ (b ++ c)) → IsFit leaf sum (own ++ c)
  fits_with_back a b c front own left fit =
      let parted : a ++ (b ++ c) ≡ front ++ (own ++ c) = sym (append_assoc a b c) ∙ ap (λ xs. xs ++ c) (sym left) ∙ append_assoc front own c in
      IsFit-right leaf sum adds sums front (own ++ c) (rw parted at fit)

module _ {L Item I : Type 0} (leaf : Ghosts L Item I) where
  -- what a row of two seams comes to
  pub seamed_twice : {Z : Type 0} (h : ℕ) (front row back rest made : List (Arc (Shape L) Z)) (fronts rows backs : List Item) (low high : ℕ) → items_in leaf (shapes front) ≡ fronts → items_in leaf (shapes row) ≡ rows → items_in leaf (shapes back) ≡ backs → IsRowOf leaf h (items_in leaf (shapes row) ++ items_in leaf (shapes back)) (max (length row) (length back)) (length row + length back) (shapes rest) → IsRowOf leaf h (items_in leaf (shapes front) ++ items_in leaf (shapes rest)) (max (length front) (length rest)) (length front + length rest) (shapes made) → low ≤ length row → length front + (length row + length back) ≤ high → IsRowOf leaf h (fronts ++ (rows ++ backs)) low high (shapes made)
  seamed_twice h front row back rest made fronts rows backs low high a b c first second enough few =
      let same : length (shapes rest) ≡ length rest = length-map rest arc_value in
      let first_low : max (length row) (length back) ≤ length (shapes rest) = first.low in
      let first_high : length (shapes rest) ≤ length row + length back = first.high in
      let second_low : max (length front) (length rest) ≤ length (shapes made) = second.low in
      let second_high : length (shapes made) ≤ length front + length rest = second.high in
      record {
        levels = second.levels;
        same = second.same ∙ rw (first.same, a, b, c) refl;
        low = omega arith;
        high = omega arith;
      }

  -- the children of a node have an item or more
  pub bunch_items : (h : ℕ) (row : List (Shape L)) → IsBunch leaf h row → 1 ≤ length (items_in leaf row)
  bunch_items h row bunch =
      let many : length row * 4 ^ h ≤ length (leaves_of row) = row_many leaf h row bunch.levels in
      let full : length (leaves_of row) ≤ length (items_in leaf row) = row_full leaf h row bunch.levels in
      let some : 1 ≤ length row = bunch.some in
      let power : 0 < 4 ^ h = power_some h in
      let wide : 1 * 4 ^ h ≤ length row * 4 ^ h = mul-le-mul_right (4 ^ h) some in
      omega arith

  -- the same row under other names of its height and items, and with a wider bound
  pub same_row : (h level : ℕ) (items others : List Item) (low high more : ℕ) (row : List (Shape L)) → h ≡ level → items ≡ others → high ≤ more → IsRowOf leaf h items low high row → IsRowOf leaf level others low more row
  same_row h level items others low high more row same_height same_items less of = record {
    levels = rw (← same_height) of.levels;
    same = of.same ∙ same_items;
    low = of.low;
    high = omega (arith, of.high);
  }

  -- a node put between two rows
  pub between_row : {Z : Type 0} (h : ℕ) (front back made : List (Arc (Shape L) Z)) (node : Arc (Shape L) Z) (items : List Item) → IsRow leaf h (shapes front) → IsLevel leaf h (arc_value node) → IsRow leaf h (shapes back) → length front + length back ≤ 15 → items_in leaf (shapes front) ++ (items_of leaf (arc_value node) ++ items_in leaf (shapes back)) ≡ items → shapes made ≡ shapes front ++ (arc_value node ∷ shapes back) → IsRowOf leaf h items 1 16 (shapes made)
  between_row h front back made node items fronts own backs few same is =
      let counted : length (shapes made) ≡ length (shapes front) + length (arc_value node ∷ shapes back) = ap length is ∙ length-append (shapes front) (arc_value node ∷ shapes back) in
      record {
        levels = rw is (IsRow-append leaf h _ _ fronts (IsRow-cons leaf h _ _ own backs));
        same = rw is (items_in-append leaf (shapes front) (arc_value node ∷ shapes back) ∙ same);
        low = omega (arith, counted);
        high = omega (arith, counted, length-map front arc_value, length-map back arc_value);
      }

  -- the parts of a row beside one of its nodes are short
  pub beside_short : {Z : Type 0} (i m n : ℕ) (nodes : List (Arc (Shape L) Z)) → i < length nodes → length nodes ≤ 8 → length (take m (take i nodes)) + length (drop n (drop (i + 1) nodes)) ≤ 15
  beside_short i m n nodes inside few = grind (arith, common_steps)

  -- the same of parts of a row beside one of its nodes
  pub put_node : {Z : Type 0} (h i m n : ℕ) (nodes front back made : List (Arc (Shape L) Z)) (node : Arc (Shape L) Z) (items : List Item) → i < length nodes → length nodes ≤ 8 → IsRow leaf h (shapes nodes) → IsLevel leaf h (arc_value node) → front ≡ take m (take i nodes) → back ≡ drop n (drop (i + 1) nodes) → items_in leaf (shapes front) ++ (items_of leaf (arc_value node) ++ items_in leaf (shapes back)) ≡ items → shapes made ≡ shapes front ++ (arc_value node ∷ shapes back) → IsRowOf leaf h items 1 16 (shapes made)
  put_node h i m n nodes front back made node items inside few levels own front_is back_is same is =
      let fronts : IsRow leaf h (shapes front) = rw front_is (front_levels leaf h m (take i nodes) (front_levels leaf h i nodes levels)) in
      let backs : IsRow leaf h (shapes back) = rw back_is (back_levels leaf h n (drop (i + 1) nodes) (back_levels leaf h (i + 1) nodes levels)) in
      let short : length front + length back ≤ 15 = rw (front_is, back_is) (beside_short i m n nodes inside few) in
      between_row h front back made node items fronts own backs short same is

  -- a row put between two others
  pub put_row : {Z : Type 0} (h i : ℕ) (nodes row front back made : List (Arc (Shape L) Z)) → i < length nodes → length nodes ≤ 8 → length row ≤ 3 → IsRow leaf h (shapes nodes) → IsRow leaf h (shapes row) → front ≡ take i nodes → back ≡ drop (i + 1) nodes → shapes made ≡ shapes front ++ (shapes row ++ shapes back) → IsRowOf leaf h (items_in leaf (shapes (take i nodes)) ++ (items_in leaf (shapes row) ++ items_in leaf (shapes (drop (i + 1) nodes)))) (length row) 16 (shapes made)
  put_row h i nodes row front back made inside few short levels own front_is back_is is =
      let parts : shapes made ≡ shapes (take i nodes) ++ (shapes row ++ shapes (drop (i + 1) nodes)) = rw (front_is, back_is) at is in
      let counted : length made ≡ length front + (length row + length back) = sym (length-map made arc_value) ∙ ap length is ∙ length-append (shapes front) (shapes row ++ shapes back) ∙ rw (length-append (shapes row) (shapes back), length-map front arc_value, length-map row arc_value, length-map back arc_value) refl in
      let front_len : length front ≤ i = rw front_is (grind (arith, common_steps)) in
      let back_len : length back ≡ length nodes - (i + 1) = rw back_is (length-drop (i + 1) nodes) in
      record {
        levels = rw parts (IsRow-append leaf h _ _ (front_levels leaf h i nodes levels) (IsRow-append leaf h _ _ own (back_levels leaf h (i + 1) nodes levels)));
        same = rw parts (items_in-append leaf (shapes (take i nodes)) (shapes row ++ shapes (drop (i + 1) nodes)) ∙ ap (λ xs. items_in leaf (shapes (take i nodes)) ++ xs) (items_in-append leaf (shapes row) (shapes (drop (i + 1) nodes))));
        low = omega (arith, length-map made arc_value);
        high = omega (arith, length-map made arc_value);
      }
