-- Rows: how they are cut and joined, and what a node above a row is.
use Rattle.std.proofs.Common.{◌≡◌, ℕ, zero, suc, ◌+◌, ◌-◌, ◌*◌, ◌^◌, ◌<◌, ◌≤◌, List, [], ◌∷◌, ◌++◌, length, max, take, drop, get_or, refl, sym, ap, subst, ◌∙◌, append_assoc, add-one, arith, length-append, take-append-drop}
use Rattle.std.specs.Prelude.{◌==◌, true, false}
use Rattle.std.specs.List.{flat_map}
use Rattle.std.specs.Arc.{arc_value}
use Rattle.std.specs.declared.sync.Arc.{Arc}
use Rattle.std.proofs.Math.Nat.{mul-le-mul_right}
use Rattle.std.proofs.lemmas.Bool.Decides.{nat_tests}
use Rattle.std.proofs.lemmas.Grind.{common_steps, flat_map-append, pow_more}
use Rattle.std.proofs.lemmas.List.{append-nil, length-map, map-append, take_more}
use Rattle.std.proofs.lemmas.List.Elements.{All-append, All-cons, All-head, All-tail, All-nil}
use Rattle.shared_tree.specs.declared.leaf.Leaf.{Ghosts}
use Rattle.shared_tree.specs.Shape.{Shape}
use Rattle.shared_tree.specs.Row.{height_over, items_in, items_of, leaves_of, shapes, AreFull, IsBunch, IsLevel, IsRow, IsRowOf}
use Rattle.shared_tree.specs.Node.{AreKids}

pub is_some : (n : ℕ) → false ≡ (n == 0) → 0 < n
is_some n is = grind (arith, nat_tests)

pub is_none : (n : ℕ) → true ≡ (n == 0) → n ≡ 0
is_none n is = grind (arith, nat_tests)

-- a row cut at one of its nodes
pub shapes-cut : {L Z : Type 0} (row : List (Arc (Shape L) Z)) (i : ℕ) (node : Arc (Shape L) Z) → i < length row → node ≡ get_or row i node → shapes row ≡ shapes (take i row) ++ (arc_value node ∷ shapes (drop (i + 1) row))
shapes-cut [] i node inside is = absurd (omega arith)
shapes-cut (first ∷ row) zero node inside is = ap (λ n. arc_value n ∷ shapes row) (sym is)
shapes-cut (first ∷ row) (suc i) node inside is =
    rw (add-one (suc i)) (ap (λ rest. arc_value first ∷ rest) (rw (add-one i) at (shapes-cut row i node (omega arith) is)))

-- a row cut before its last node
pub shapes-last : {L Z : Type 0} (row : List (Arc (Shape L) Z)) (node : Arc (Shape L) Z) → 0 < length row → node ≡ get_or row (length row - 1) node → shapes row ≡ shapes (take (length row - 1) row) ++ (arc_value node ∷ [])
shapes-last row node some is =
    let ended : drop (length row - 1 + 1) row ≡ [] = grind (arith, common_steps) in
    shapes-cut row (length row - 1) node (omega arith) is ∙ ap (λ rest. shapes (take (length row - 1) row) ++ (arc_value node ∷ shapes rest)) ended

-- a row cut after its first node
pub shapes-first : {L Z : Type 0} (row : List (Arc (Shape L) Z)) (node : Arc (Shape L) Z) → 0 < length row → node ≡ get_or row 0 node → shapes row ≡ arc_value node ∷ shapes (drop 1 row)
shapes-first row node some is = shapes-cut row 0 node some is

-- one node more of a row
pub shapes-more : {L Z : Type 0} (row : List (Arc (Shape L) Z)) (i : ℕ) (node : Arc (Shape L) Z) → i < length row → node ≡ get_or row i node → shapes (take (i + 1) row) ≡ shapes (take i row) ++ (arc_value node ∷ [])
shapes-more row i node inside is =
    ap shapes (take_more row i node inside) ∙ map-append arc_value (take i row) _ ∙ ap (λ n. shapes (take i row) ++ (arc_value n ∷ [])) (sym is)

-- a row cut between two of its nodes
pub shapes-split : {L Z : Type 0} (row : List (Arc (Shape L) Z)) (n : ℕ) → shapes row ≡ shapes (take n row) ++ shapes (drop n row)
shapes-split row n = ap shapes (sym (take-append-drop n row)) ∙ map-append arc_value (take n row) (drop n row)

module _ {L Item I : Type 0} (leaf : Ghosts L Item I) where
  pub items_in-append : (xs ys : List (Shape L)) → items_in leaf (xs ++ ys) ≡ items_in leaf xs ++ items_in leaf ys
  items_in-append xs ys = flat_map-append (items_of leaf) xs ys

  -- the items below a row, by nodes and by leaves
  pub items_in-by_leaves : (row : List (Shape L)) → flat_map leaf.items (leaves_of row) ≡ items_in leaf row
  items_in-by_leaves [] = refl
  items_in-by_leaves (node ∷ row) =
      flat_map-append leaf.items node.leaves (leaves_of row) ∙ ap (λ rest. items_of leaf node ++ rest) (items_in-by_leaves row)

  -- what a node or a tree above a row shows
  pub items_in-shown : (row : List (Shape L)) (height : ℕ) (node : Shape L) → record { leaves = leaves_of row; height = height } ≡ node → items_in leaf row ≡ items_of leaf node
  items_in-shown row height node shown = sym (items_in-by_leaves row) ∙ ap (items_of leaf) shown

  -- the leaves that it shows
  pub leaves-shown : (row : List (Shape L)) (height : ℕ) (node : Shape L) → record { leaves = leaves_of row; height = height } ≡ node → leaves_of row ≡ node.leaves
  leaves-shown row height node shown = ap (λ (n : Shape L). n.leaves) shown

  pub IsRow-append : (h : ℕ) (xs ys : List (Shape L)) → IsRow leaf h xs → IsRow leaf h ys → IsRow leaf h (xs ++ ys)
  IsRow-append h xs ys a b = record { each = All-append (IsLevel leaf h) xs ys a.each b.each }

  pub IsRow-cons : (h : ℕ) (x : Shape L) (xs : List (Shape L)) → IsLevel leaf h x → IsRow leaf h xs → IsRow leaf h (x ∷ xs)
  IsRow-cons h x xs a b = record { each = All-cons (IsLevel leaf h) x xs a b.each }

  pub IsRow-head : (h : ℕ) (x : Shape L) (xs : List (Shape L)) → IsRow leaf h (x ∷ xs) → IsLevel leaf h x
  IsRow-head h x xs a = All-head (IsLevel leaf h) x xs a.each

  pub IsRow-tail : (h : ℕ) (x : Shape L) (xs : List (Shape L)) → IsRow leaf h (x ∷ xs) → IsRow leaf h xs
  IsRow-tail h x xs a = record { each = All-tail (IsLevel leaf h) x xs a.each }

  pub IsRow-none : (h : ℕ) → IsRow leaf h []
  IsRow-none h = record { each = All-nil (IsLevel leaf h) }

  pub IsRow-single : (h : ℕ) (x : Shape L) → IsLevel leaf h x → IsRow leaf h (x ∷ [])
  IsRow-single h x a = IsRow-cons h x [] a (IsRow-none h)

  pub IsRow-left : (h : ℕ) (xs ys : List (Shape L)) → IsRow leaf h (xs ++ ys) → IsRow leaf h xs
  IsRow-left h [] ys a = IsRow-none h
  IsRow-left h (x ∷ xs) ys a = IsRow-cons h x xs (IsRow-head h x (xs ++ ys) a) (IsRow-left h xs ys (IsRow-tail h x (xs ++ ys) a))

  pub IsRow-right : (h : ℕ) (xs ys : List (Shape L)) → IsRow leaf h (xs ++ ys) → IsRow leaf h ys
  IsRow-right h [] ys a = a
  IsRow-right h (x ∷ xs) ys a = IsRow-right h xs ys (IsRow-tail h x (xs ++ ys) a)

  -- nodes of one height have as many leaves as their number and height ask
  pub row_many : (h : ℕ) (row : List (Shape L)) → IsRow leaf h row → length row * 4 ^ h ≤ length (leaves_of row)
  row_many h [] levels = omega arith
  row_many h (node ∷ row) levels =
      let first : IsLevel leaf h node = IsRow-head h node row levels in
      let enough : 4 ^ h ≤ length node.leaves = first.many in
      let rest : length row * 4 ^ h ≤ length (leaves_of row) = row_many h row (IsRow-tail h node row levels) in
      omega (arith, length-append node.leaves (leaves_of row))

  -- leaves of which none is empty have an item each
  pub leaves_full : (leaves : List L) → AreFull leaf leaves → length leaves ≤ length (flat_map leaf.items leaves)
  leaves_full [] full = omega arith
  leaves_full (own ∷ leaves) full =
      let first : 1 ≤ length (leaf.items own) = All-head (λ x. 1 ≤ length (leaf.items x)) own leaves full in
      let rest : length leaves ≤ length (flat_map leaf.items leaves) = leaves_full leaves (All-tail (λ x. 1 ≤ length (leaf.items x)) own leaves full) in
      omega (arith, length-append (leaf.items own) (flat_map leaf.items leaves))

  -- no leaf of a row is empty
  pub are_full : (h : ℕ) (row : List (Shape L)) → IsRow leaf h row → AreFull leaf (leaves_of row)
  are_full h [] levels = All-nil (λ x. 1 ≤ length (leaf.items x))
  are_full h (node ∷ row) levels =
      let first : IsLevel leaf h node = IsRow-head h node row levels in
      All-append (λ x. 1 ≤ length (leaf.items x)) node.leaves (leaves_of row) first.full (are_full h row (IsRow-tail h node row levels))

  pub full-shown : (h k : ℕ) (row : List (Shape L)) (node : Shape L) → IsRow leaf h row → record { leaves = leaves_of row; height = k } ≡ node → AreFull leaf node.leaves
  full-shown h k row node levels shown = subst (λ (n : Shape L). AreFull leaf n.leaves) shown (are_full h row levels)

  -- so a row has an item or more a leaf
  pub row_full : (h : ℕ) (row : List (Shape L)) → IsRow leaf h row → length (leaves_of row) ≤ length (items_in leaf row)
  row_full h row levels =
      let full : length (leaves_of row) ≤ length (flat_map leaf.items (leaves_of row)) = leaves_full (leaves_of row) (are_full h row levels) in
      rw (items_in-by_leaves row) at full

  -- a root above two nodes or more has as many leaves as its height asks
  pub tall : (h : ℕ) (row : List (Shape L)) → IsRow leaf h row → 2 ≤ length row → 2 * 4 ^ (height_over row h - 1) ≤ length (leaves_of row)
  tall h [] levels several = absurd (omega arith)
  tall h (one ∷ []) levels several = absurd (omega arith)
  tall h (one ∷ two ∷ row) levels several =
      let many : length (one ∷ two ∷ row) * 4 ^ h ≤ length (leaves_of (one ∷ two ∷ row)) = row_many h (one ∷ two ∷ row) levels in
      let wide : 2 * 4 ^ h ≤ length (one ∷ two ∷ row) * 4 ^ h = mul-le-mul_right (4 ^ h) several in
      let same : h + 1 - 1 ≡ h = omega arith in
      rw same (omega arith)

  -- a leaf with an item is a node of height 0
  pub level_of_leaf : (own : L) → 1 ≤ length (leaf.items own) → IsLevel leaf 0 (record { leaves = own ∷ []; height = 0 })
  level_of_leaf own some = record { level = refl; many = omega arith; full = All-cons (λ x. 1 ≤ length (leaf.items x)) own [] some (All-nil (λ x. 1 ≤ length (leaf.items x))) }

  -- the node above 4 to 8 children
  pub level_of_kids : (h : ℕ) (kids : List (Shape L)) → AreKids leaf h kids → IsLevel leaf h (record { leaves = leaves_of kids; height = h })
  level_of_kids h kids are =
      let many : length kids * 4 ^ (h - 1) ≤ length (leaves_of kids) = row_many (h - 1) kids are.levels in
      let low : 4 ≤ length kids = are.low in
      let above : 1 ≤ h = are.above in
      let same : h - 1 + 1 ≡ h = omega arith in
      let power : 4 ^ h ≡ 4 ^ (h - 1) * 4 = rw same at (pow_more 4 (h - 1)) in
      let wide : 4 * 4 ^ (h - 1) ≤ length kids * 4 ^ (h - 1) = mul-le-mul_right (4 ^ (h - 1)) low in
      record { level = refl; many = omega arith; full = are_full (h - 1) kids are.levels }

  -- a row under one node
  pub under_one : (h : ℕ) (row : List (Shape L)) → AreKids leaf h row → IsRowOf leaf h (items_in leaf row) 1 2 (record { leaves = leaves_of row; height = h } ∷ [])
  under_one h row are = record {
    levels = IsRow-single h _ (level_of_kids h row are);
    same = append-nil _ ∙ items_in-by_leaves row;
    low = omega arith;
    high = omega arith;
  }

  -- a row under two nodes
  pub under_two : (h : ℕ) (row left right : List (Shape L)) → row ≡ left ++ right → AreKids leaf h left → AreKids leaf h right → IsRowOf leaf h (items_in leaf row) 1 2 (record { leaves = leaves_of left; height = h } ∷ record { leaves = leaves_of right; height = h } ∷ [])
  under_two h row left right cut first second = record {
    levels = IsRow-cons h _ _ (level_of_kids h left first) (IsRow-single h _ (level_of_kids h right second));
    same = simp (append-nil, items_in-by_leaves, cut, items_in-append);
    low = omega arith;
    high = omega arith;
  }

  pub made_under_one : (h : ℕ) (row made : List (Shape L)) (node : Shape L) → AreKids leaf h row → node ≡ record { leaves = leaves_of row; height = h } → made ≡ node ∷ [] → IsRowOf leaf h (items_in leaf row) 1 2 made
  made_under_one h row made node are is made_is = rw (made_is, is) (under_one h row are)

  pub made_under_two : (h : ℕ) (row left right made : List (Shape L)) (first second : Shape L) → row ≡ left ++ right → AreKids leaf h left → AreKids leaf h right → first ≡ record { leaves = leaves_of left; height = h } → second ≡ record { leaves = leaves_of right; height = h } → made ≡ first ∷ second ∷ [] → IsRowOf leaf h (items_in leaf row) 1 2 made
  made_under_two h row left right made first second cut are are_too is is_too made_is = rw (made_is, is, is_too) (under_two h row left right cut are are_too)

  last_items : (front : List (Shape L)) (last : Shape L) (others : List Item) → items_in leaf front ++ (items_of leaf last ++ others) ≡ items_in leaf (front ++ (last ∷ [])) ++ others
  last_items front last others = simp (items_in-append, append_assoc, append-nil)

  glued_items : (front back : List (Shape L)) (last first both : Shape L) → items_of leaf both ≡ items_of leaf last ++ items_of leaf first → items_in leaf (front ++ (both ∷ back)) ≡ items_in leaf (front ++ (last ∷ [])) ++ items_in leaf (first ∷ back)
  glued_items front back last first both same = simp (items_in-append, append_assoc, append-nil, same)

  module _ {Z : Type 0} where
    pub kids_of : (h : ℕ) (row : List (Arc (Shape L) Z)) → 1 ≤ h → IsRow leaf (h - 1) (shapes row) → 4 ≤ length row → length row ≤ 8 → AreKids leaf h (shapes row)
    kids_of h row above levels low high = record {
      above = above;
      levels = levels;
      low = rw (length-map row arc_value) low;
      high = rw (length-map row arc_value) high;
    }

    pub front_levels : (h n : ℕ) (row : List (Arc (Shape L) Z)) → IsRow leaf h (shapes row) → IsRow leaf h (shapes (take n row))
    front_levels h n row levels = IsRow-left h (shapes (take n row)) (shapes (drop n row)) (rw (shapes-split row n) at levels)

    pub back_levels : (h n : ℕ) (row : List (Arc (Shape L) Z)) → IsRow leaf h (shapes row) → IsRow leaf h (shapes (drop n row))
    back_levels h n row levels = IsRow-right h (shapes (take n row)) (shapes (drop n row)) (rw (shapes-split row n) at levels)

    pub kids_of_front : (h n : ℕ) (row part made : List (Arc (Shape L) Z)) → 1 ≤ h → IsRow leaf (h - 1) (shapes row) → part ≡ take n row → shapes made ≡ shapes part → 4 ≤ length part → length part ≤ 8 → AreKids leaf h (shapes made)
    kids_of_front h n row part made above levels is same low high =
        rw same (kids_of h part above (rw is (front_levels (h - 1) n row levels)) low high)

    pub kids_of_back : (h n : ℕ) (row part made : List (Arc (Shape L) Z)) → 1 ≤ h → IsRow leaf (h - 1) (shapes row) → part ≡ drop n row → shapes made ≡ shapes part → 4 ≤ length part → length part ≤ 8 → AreKids leaf h (shapes made)
    kids_of_back h n row part made above levels is same low high =
        rw same (kids_of h part above (rw is (back_levels (h - 1) n row levels)) low high)

    pub level_at : (h : ℕ) (row : List (Arc (Shape L) Z)) (i : ℕ) (node : Arc (Shape L) Z) → i < length row → node ≡ get_or row i node → IsRow leaf h (shapes row) → IsLevel leaf h (arc_value node)
    level_at h row i node inside is levels =
        let cut = rw (shapes-cut row i node inside is) at levels in
        IsRow-head h (arc_value node) (shapes (drop (i + 1) row)) (IsRow-right h (shapes (take i row)) _ cut)

    -- a node of the row on top is no higher than the tree
    pub height_over-above : (h : ℕ) (row : List (Arc (Shape L) Z)) (i : ℕ) (node top : Shape L) → i < length row → IsLevel leaf h node → record { leaves = leaves_of (shapes row); height = height_over (shapes row) h } ≡ top → node.height ≤ top.height
    height_over-above h [] i node top inside level shown = absurd (omega arith)
    height_over-above h (one ∷ []) i node top inside level shown = omega (arith, level.level, ap (λ (n : Shape L). n.height) shown)
    height_over-above h (one ∷ two ∷ row) i node top inside level shown = omega (arith, level.level, ap (λ (n : Shape L). n.height) shown)

    pub bunch_some : (h : ℕ) (row : List (Arc (Shape L) Z)) → IsBunch leaf h (shapes row) → 0 < length row
    bunch_some h row bunch = omega (arith, bunch.some, length-map row arc_value)

    pub bunch_few : (h : ℕ) (row : List (Arc (Shape L) Z)) → IsBunch leaf h (shapes row) → length row ≤ 8
    bunch_few h row bunch = omega (arith, bunch.few, length-map row arc_value)

    -- two rows side by side
    pub joined_row : (h : ℕ) (left right made : List (Arc (Shape L) Z)) → shapes made ≡ shapes left ++ shapes right → IsRow leaf h (shapes left) → IsRow leaf h (shapes right) → IsRowOf leaf h (items_in leaf (shapes left) ++ items_in leaf (shapes right)) (max (length left) (length right)) (length left + length right) (shapes made)
    joined_row h left right made is first second =
        let count : length (shapes made) ≡ length left + length right = rw is (length-append (shapes left) (shapes right) ∙ rw (length-map left arc_value, length-map right arc_value) refl) in
        record {
          levels = rw is (IsRow-append h _ _ first second);
          same = rw is (items_in-append (shapes left) (shapes right));
          low = omega arith;
          high = omega arith;
        }

    -- two rows of leaves of which the last and the first became one
    pub glued_row : (left right made : List (Arc (Shape L) Z)) (last first both : Arc (Shape L) Z) → 0 < length left → 0 < length right → last ≡ get_or left (length left - 1) last → first ≡ get_or right 0 first → shapes made ≡ shapes (take (length left - 1) left) ++ (arc_value both ∷ shapes (drop 1 right)) → IsRow leaf 0 (shapes left) → IsRow leaf 0 (shapes right) → IsLevel leaf 0 (arc_value both) → items_of leaf (arc_value both) ≡ items_of leaf (arc_value last) ++ items_of leaf (arc_value first) → IsRowOf leaf 0 (items_in leaf (shapes left) ++ items_in leaf (shapes right)) (max (length left) (length right)) (length left + length right) (shapes made)
    glued_row left right made last first both some others at_last at_first is levels_left levels_right level same =
        let front : List (Shape L) = shapes (take (length left - 1) left) in
        let back : List (Shape L) = shapes (drop 1 right) in
        let a : shapes left ≡ front ++ (arc_value last ∷ []) = shapes-last left last some at_last in
        let b : shapes right ≡ arc_value first ∷ back = shapes-first right first others at_first in
        let counted_left : length left ≡ length front + 1 = sym (length-map left arc_value) ∙ ap length a ∙ length-append front (arc_value last ∷ []) in
        let counted_right : length right ≡ length back + 1 = sym (length-map right arc_value) ∙ ap length b ∙ sym (add-one _) in
        let counted : length (shapes made) ≡ length front + (length back + 1) = ap length is ∙ length-append front (arc_value both ∷ back) ∙ ap (λ n. length front + n) (sym (add-one _)) in
        let levels_front : IsRow leaf 0 front = IsRow-left 0 front (arc_value last ∷ []) (rw a at levels_left) in
        let levels_back : IsRow leaf 0 back = IsRow-tail 0 (arc_value first) back (rw b at levels_right) in
        record {
          levels = rw is (IsRow-append 0 front _ levels_front (IsRow-cons 0 (arc_value both) back level levels_back));
          same = rw (is, a, b) (glued_items front back (arc_value last) (arc_value first) (arc_value both) same);
          low = omega arith;
          high = omega arith;
        }

    -- the children of one of a row's nodes, as a row of their own
    pub bunch_of_kids : (h level : ℕ) (kids : List (Arc (Shape L) Z)) → AreKids leaf level (shapes kids) → level ≡ h → IsBunch leaf (h - 1) (shapes kids)
    bunch_of_kids h level kids are same =
        let low : 4 ≤ length (shapes kids) = are.low in
        record { levels = rw same at are.levels; some = omega arith; few = are.high }

    -- nodes of which the last one grew
    pub after_row : (h : ℕ) (nodes grown made : List (Arc (Shape L) Z)) (last : Arc (Shape L) Z) (others : List Item) (least : ℕ) → 0 < length nodes → length nodes ≤ 8 → last ≡ get_or nodes (length nodes - 1) last → IsRow leaf h (shapes nodes) → IsRowOf leaf h (items_of leaf (arc_value last) ++ others) least 2 (shapes grown) → shapes made ≡ shapes (take (length nodes - 1) nodes) ++ shapes grown → IsRowOf leaf h (items_in leaf (shapes nodes) ++ others) (length nodes - 1 + least) 16 (shapes made)
    after_row h nodes grown made last others least some few at_last levels row is =
        let front : List (Shape L) = shapes (take (length nodes - 1) nodes) in
        let a : shapes nodes ≡ front ++ (arc_value last ∷ []) = shapes-last nodes last some at_last in
        let counted_nodes : length nodes ≡ length front + 1 = sym (length-map nodes arc_value) ∙ ap length a ∙ length-append front (arc_value last ∷ []) in
        let counted : length (shapes made) ≡ length front + length (shapes grown) = ap length is ∙ length-append front (shapes grown) in
        let low : least ≤ length (shapes grown) = row.low in
        let high : length (shapes grown) ≤ 2 = row.high in
        let levels_front : IsRow leaf h front = IsRow-left h front (arc_value last ∷ []) (rw a at levels) in
        record {
          levels = rw is (IsRow-append h front _ levels_front row.levels);
          same = rw (is, a) (items_in-append front (shapes grown) ∙ rw row.same (last_items front (arc_value last) others));
          low = omega arith;
          high = omega arith;
        }

    -- nodes of which the first one grew
    pub before_row : (h : ℕ) (nodes grown made : List (Arc (Shape L) Z)) (first : Arc (Shape L) Z) (others : List Item) → 0 < length nodes → length nodes ≤ 8 → first ≡ get_or nodes 0 first → IsRow leaf h (shapes nodes) → IsRowOf leaf h (others ++ items_of leaf (arc_value first)) 1 2 (shapes grown) → shapes made ≡ shapes grown ++ shapes (drop 1 nodes) → IsRowOf leaf h (others ++ items_in leaf (shapes nodes)) (length nodes) 16 (shapes made)
    before_row h nodes grown made first others some few at_first levels row is =
        let back : List (Shape L) = shapes (drop 1 nodes) in
        let b : shapes nodes ≡ arc_value first ∷ back = shapes-first nodes first some at_first in
        let counted_nodes : length nodes ≡ length back + 1 = sym (length-map nodes arc_value) ∙ ap length b ∙ sym (add-one _) in
        let counted : length (shapes made) ≡ length (shapes grown) + length back = ap length is ∙ length-append (shapes grown) back in
        let low : 1 ≤ length (shapes grown) = row.low in
        let high : length (shapes grown) ≤ 2 = row.high in
        let levels_back : IsRow leaf h back = IsRow-tail h (arc_value first) back (rw b at levels) in
        record {
          levels = rw is (IsRow-append h (shapes grown) back row.levels levels_back);
          same = rw (is, b) (items_in-append (shapes grown) back ∙ rw row.same (append_assoc others (items_of leaf (arc_value first)) (items_in leaf back)));
          low = omega arith;
          high = omega arith;
        }

    pub joined_length : (left right made : List (Arc (Shape L) Z)) → shapes made ≡ shapes left ++ shapes right → length made ≡ length left + length right
    joined_length left right made is =
        sym (length-map made arc_value) ∙ ap length is ∙ length-append (shapes left) (shapes right) ∙ rw (length-map left arc_value, length-map right arc_value) refl

    -- two nodes under other names of their items
    pub two_nodes : (h : ℕ) (items others : List Item) (row : List (Arc (Shape L) Z)) → items ≡ others → length row ≡ 2 → IsRowOf leaf h items 1 2 (shapes row) → IsRowOf leaf h others 2 2 (shapes row)
    two_nodes h items others row same two of = record {
      levels = of.levels;
      same = of.same ∙ same;
      low = omega (arith, length-map row arc_value);
      high = of.high;
    }

    -- the nodes before the last, what the last holds, and what stands after it
    pub items-last : (nodes : List (Arc (Shape L) Z)) (last : Arc (Shape L) Z) (others : List Item) → 0 < length nodes → last ≡ get_or nodes (length nodes - 1) last → items_in leaf (shapes (take (length nodes - 1) nodes)) ++ (items_of leaf (arc_value last) ++ others) ≡ items_in leaf (shapes nodes) ++ others
    items-last nodes last others some at_last =
        rw (shapes-last nodes last some at_last) (last_items (shapes (take (length nodes - 1) nodes)) (arc_value last) others)

    -- two rows of at most eight nodes, seamed
    pub seamed_most : (h a b least : ℕ) (items : List Item) (row : List (Arc (Shape L) Z)) → a ≤ 8 → b ≤ 8 → least ≤ max a b → IsRowOf leaf h items (max a b) (a + b) (shapes row) → IsRowOf leaf h items least 16 (shapes row)
    seamed_most h a b least items row few others less of = record { levels = of.levels; same = of.same; low = omega (arith, of.low); high = omega (arith, of.high) }

    -- a row of some nodes and few
    pub bunch_of : (h : ℕ) (row : List (Arc (Shape L) Z)) → IsRow leaf h (shapes row) → 0 < length row → length (shapes row) ≤ 8 → IsBunch leaf h (shapes row)
    bunch_of h row levels some few = record { levels = levels; some = omega (arith, length-map row arc_value); few = few }

    pub copied_few : (row made : List (Arc (Shape L) Z)) → shapes made ≡ shapes row → length (shapes row) ≤ 8 → length made ≤ 16
    copied_few row made is few = omega (arith, length-map made arc_value, ap length is)

    pub items_none : (row : List (Arc (Shape L) Z)) → length row ≡ 0 → items_in leaf (shapes row) ≡ []
    items_none [] none = refl
    items_none (node ∷ row) none = absurd (omega arith)

    -- the items of a node with no other beside it
    pub alone_items : (node : Shape L) (others : List (Arc (Shape L) Z)) → length others ≡ 0 → items_in leaf (node ∷ shapes others) ≡ items_of leaf node
    alone_items node [] none = append-nil (items_of leaf node)
    alone_items node (other ∷ others) none = absurd (omega arith)

    pub cons_length : (others made : List (Arc (Shape L) Z)) (node : Shape L) → shapes made ≡ node ∷ shapes others → length made ≡ length others + 1
    cons_length others made node is = omega (arith, length-map made arc_value, length-map others arc_value, ap length is, add-one (length (shapes others)))

    -- nodes, and one or two more after them
    pub with_more : (h : ℕ) (front grown made : List (Arc (Shape L) Z)) (items : List Item) → IsRow leaf h (shapes front) → length front ≤ 7 → IsRowOf leaf h items 1 2 (shapes grown) → shapes made ≡ shapes front ++ shapes grown → IsRowOf leaf h (items_in leaf (shapes front) ++ items) (length front + 1) 16 (shapes made)
    with_more h front grown made items levels few row is =
        let counted : length (shapes made) ≡ length (shapes front) + length (shapes grown) = ap length is ∙ length-append (shapes front) (shapes grown) in
        let low : 1 ≤ length (shapes grown) = row.low in
        let high : length (shapes grown) ≤ 2 = row.high in
        record {
          levels = rw is (IsRow-append h (shapes front) (shapes grown) levels row.levels);
          same = rw is (items_in-append (shapes front) (shapes grown) ∙ ap (λ xs. items_in leaf (shapes front) ++ xs) row.same);
          low = omega (arith, length-map front arc_value);
          high = omega (arith, length-map front arc_value);
        }
