-- Sums that fit, and the parts of what fits.
use Rattle.std.proofs.Common.{◌≡◌, ℕ, zero, suc, ◌*◌, ◌+◌, ◌-◌, ◌^◌, ◌<◌, ◌≤◌, IsTrue, List, [], ◌∷◌, ◌++◌, length, take, drop, get_or, append_assoc, take-append-drop, sym, ap, arith}
use Rattle.std.proofs.Math.Nat.{mul-le-mul_right, pow-suc}
use Rattle.std.proofs.lemmas.List.{append-nil}
use Rattle.std.specs.Arc.{arc_value}
use Rattle.std.proofs.Common.{Vec, Global}
use Rattle.std.specs.declared.sync.Arc.{Arc}
use Rattle.shared_tree.specs.declared.leaf.Leaf.{Ghosts}
use Rattle.shared_tree.specs.declared.leaf.Summary.{Ghosts as Sum}
use Rattle.shared_tree.specs.declared.node.Body.TheVariants.{Inner}
use Rattle.shared_tree.specs.Laws.{Adds, Sums}
use Rattle.shared_tree.specs.declared.node.Node.{Node}
use Rattle.shared_tree.specs.Shape.{Shape}
use Rattle.shared_tree.specs.Row.{items_in, items_of, leaves_of, shapes, IsFit, IsRow}
use Rattle.shared_tree.specs.Node.{AreKids, IsWellFormed}
use Rattle.shared_tree.proofs.RowLemmas.{items_in-append, items_in-by_leaves, shapes-first, shapes-last, shapes-more, shapes-split, row_full, row_many}

pow_some : (h : ℕ) → 0 < 4 ^ h
pow_some zero = omega arith
pow_some (suc h) = let below : 0 < 4 ^ h = pow_some h in omega (arith, pow-suc 4 h)

power_rises : (h k : ℕ) → 4 ^ h < 4 ^ k → h < k
power_rises zero zero less = absurd (omega arith)
power_rises zero (suc k) less = omega arith
power_rises (suc h) zero less = absurd (omega (arith, pow-suc 4 h, pow_some h))
power_rises (suc h) (suc k) less =
    let below : h < k = power_rises h k (omega (arith, pow-suc 4 h, pow-suc 4 k)) in
    omega arith

module _ {L Item I : Type 0} (leaf : Ghosts L Item I) (sum : Sum I) (adds : Adds sum.zero sum.plus sum.fits sum.count) (sums : Sums leaf.summed sum.zero sum.plus sum.count) where
  pub IsFit-left : (xs ys : List Item) → IsFit leaf sum (xs ++ ys) → IsFit leaf sum xs
  IsFit-left xs ys fit = adds.left_fits _ _ (rw (sums.joined xs ys) at fit)

  pub IsFit-right : (xs ys : List Item) → IsFit leaf sum (xs ++ ys) → IsFit leaf sum ys
  IsFit-right xs ys fit = adds.right_fits _ _ (rw (sums.joined xs ys) at fit)

  pub IsFit-between : (xs ys zs : List Item) → IsFit leaf sum (xs ++ (ys ++ zs)) → IsFit leaf sum ys
  IsFit-between xs ys zs fit = IsFit-left ys zs (IsFit-right xs (ys ++ zs) fit)

  -- a part of what fits fits
  pub part_fits : (items : List Item) (from count : ℕ) → IsFit leaf sum items → IsFit leaf sum (take count (drop from items))
  part_fits items from count fit =
      let rest : IsFit leaf sum (drop from items) = IsFit-right (take from items) (drop from items) (rw take-append-drop fit) in
      IsFit-left (take count (drop from items)) (drop count (drop from items)) (rw take-append-drop rest)

  -- what fits is of fewer than 2^64 items
  pub IsFit-small : (xs : List Item) → IsFit leaf sum xs → length xs < 2 ^ 64
  IsFit-small xs fit = rw (sums.counts xs) at (adds.small _ fit)

  -- what a node above children has to obey
  pub sound_above : (h : ℕ) (summary : I) (kids : Vec (Arc (Node L Item I) Global) Global) → AreKids leaf h (shapes kids.items) → IsFit leaf sum (items_in leaf (shapes kids.items)) → summary ≡ leaf.summed (items_in leaf (shapes kids.items)) → IsWellFormed leaf sum h summary (Inner kids)
  sound_above h summary kids are fit is = record {
    summed = rw (items_in-by_leaves leaf (shapes kids.items)) is;
    fits = rw (items_in-by_leaves leaf (shapes kids.items)) fit;
    built = are;
  }

  seam_parts : (front last first back : List Item) → IsFit leaf sum ((front ++ (last ++ [])) ++ (first ++ back)) → IsFit leaf sum (last ++ first)
  seam_parts front last first back fit =
      let same : (front ++ (last ++ [])) ++ (first ++ back) ≡ front ++ ((last ++ first) ++ back) = simp (append_assoc, append-nil) in
      IsFit-between front (last ++ first) back (rw same at fit)

  -- what two leaves hold that meet at a seam
  pub seam_fits : {Z : Type 0} (left right : List (Arc (Shape L) Z)) (last first : Arc (Shape L) Z) → 0 < length left → 0 < length right → last ≡ get_or left (length left - 1) last → first ≡ get_or right 0 first → IsFit leaf sum (items_in leaf (shapes left) ++ items_in leaf (shapes right)) → IsFit leaf sum (items_of leaf (arc_value last) ++ items_of leaf (arc_value first))
  seam_fits left right last first some others at_last at_first fit =
      let front : List (Shape L) = shapes (take (length left - 1) left) in
      let a = rw (shapes-last left last some at_last) at fit in
      let b = rw (shapes-first right first others at_first, items_in-append leaf front (arc_value last ∷ [])) at a in
      seam_parts (items_in leaf front) (items_of leaf (arc_value last)) (items_of leaf (arc_value first)) (items_in leaf (shapes (drop 1 right))) b

  -- the sum up to the end of one node more
  pub sum_more : {Z : Type 0} (row : List (Arc (Shape L) Z)) (i : ℕ) (node : Arc (Shape L) Z) (before all : I) → i < length row → node ≡ get_or row i node → all ≡ sum.plus before (leaf.summed (items_in leaf (shapes (take i row)))) → sum.plus all (leaf.summed (items_of leaf (arc_value node))) ≡ sum.plus before (leaf.summed (items_in leaf (shapes (take (i + 1) row))))
  sum_more row i node before all inside is all_is =
      let more : items_in leaf (shapes (take (i + 1) row)) ≡ items_in leaf (shapes (take i row)) ++ items_of leaf (arc_value node) = rw (shapes-more row i node inside is, items_in-append leaf (shapes (take i row)) (arc_value node ∷ [])) (ap (λ xs. items_in leaf (shapes (take i row)) ++ xs) (append-nil (items_of leaf (arc_value node)))) in
      rw (all_is, more, sums.joined (items_in leaf (shapes (take i row))) (items_of leaf (arc_value node))) (adds.grouped _ _ _)

  -- the sum up to a node fits where that of all fits
  pub sum_fits : {Z : Type 0} (row : List (Arc (Shape L) Z)) (n : ℕ) (before : I) → IsTrue (sum.fits (sum.plus before (leaf.summed (items_in leaf (shapes row))))) → IsTrue (sum.fits (sum.plus before (leaf.summed (items_in leaf (shapes (take n row))))))
  sum_fits row n before fit =
      let parts = rw (shapes-split row n, items_in-append leaf (shapes (take n row)) (shapes (drop n row)), sums.joined (items_in leaf (shapes (take n row))) (items_in leaf (shapes (drop n row))), ← adds.grouped before (leaf.summed (items_in leaf (shapes (take n row)))) (leaf.summed (items_in leaf (shapes (drop n row))))) at fit in
      adds.left_fits _ _ parts

  parted_at_last : (front last others : List Item) → (front ++ (last ++ [])) ++ others ≡ front ++ (last ++ others)
  parted_at_last front last others = simp (append_assoc, append-nil)

  -- what the last node and what stands after it hold
  pub last_fits : {Z : Type 0} (nodes : List (Arc (Shape L) Z)) (last : Arc (Shape L) Z) (others : List Item) → 0 < length nodes → last ≡ get_or nodes (length nodes - 1) last → IsFit leaf sum (items_in leaf (shapes nodes) ++ others) → IsFit leaf sum (items_of leaf (arc_value last) ++ others)
  last_fits nodes last others some at_last fit =
      let front : List (Shape L) = shapes (take (length nodes - 1) nodes) in
      let a = rw (shapes-last nodes last some at_last, items_in-append leaf front (arc_value last ∷ [])) at fit in
      IsFit-right (items_in leaf front) _ (rw (parted_at_last (items_in leaf front) (items_of leaf (arc_value last)) others) at a)

  -- what stands before the first node, and what it holds
  pub first_fits : {Z : Type 0} (nodes : List (Arc (Shape L) Z)) (first : Arc (Shape L) Z) (others : List Item) → 0 < length nodes → first ≡ get_or nodes 0 first → IsFit leaf sum (others ++ items_in leaf (shapes nodes)) → IsFit leaf sum (others ++ items_of leaf (arc_value first))
  first_fits nodes first others some at_first fit =
      let b = rw (shapes-first nodes first some at_first) at fit in
      let parted : others ++ (items_of leaf (arc_value first) ++ items_in leaf (shapes (drop 1 nodes))) ≡ (others ++ items_of leaf (arc_value first)) ++ items_in leaf (shapes (drop 1 nodes)) = sym (append_assoc others _ _) in
      IsFit-left _ _ (rw parted at b)

  -- no node is higher than 31
  pub row_is_low : (h : ℕ) (row : List (Shape L)) → IsRow leaf h row → 1 ≤ length row → IsFit leaf sum (items_in leaf row) → h < 32
  row_is_low h row levels some fit =
      let many : length row * 4 ^ h ≤ length (leaves_of row) = row_many leaf h row levels in
      let full : length (leaves_of row) ≤ length (items_in leaf row) = row_full leaf h row levels in
      let small : length (items_in leaf row) < 4 ^ 32 = IsFit-small (items_in leaf row) fit in
      let wide : 1 * 4 ^ h ≤ length row * 4 ^ h = mul-le-mul_right (4 ^ h) some in
      power_rises h 32 (omega arith)

  -- the nodes before an index, and those from it on, fit where all of a row fit
  pub row_front_fits : {Z : Type 0} (row : List (Arc (Shape L) Z)) (n : ℕ) → IsFit leaf sum (items_in leaf (shapes row)) → IsFit leaf sum (items_in leaf (shapes (take n row)))
  row_front_fits row n fit =
      IsFit-left _ (items_in leaf (shapes (drop n row))) (rw (shapes-split row n, items_in-append leaf (shapes (take n row)) (shapes (drop n row))) at fit)

  pub row_back_fits : {Z : Type 0} (row : List (Arc (Shape L) Z)) (n : ℕ) → IsFit leaf sum (items_in leaf (shapes row)) → IsFit leaf sum (items_in leaf (shapes (drop n row)))
  row_back_fits row n fit =
      IsFit-right (items_in leaf (shapes (take n row))) _ (rw (shapes-split row n, items_in-append leaf (shapes (take n row)) (shapes (drop n row))) at fit)
