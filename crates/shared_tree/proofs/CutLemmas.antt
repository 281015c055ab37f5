-- Items cut where a node begins, and inside a node.
use Rattle.std.proofs.Common.{◌≡◌, ℕ, ◌+◌, ◌-◌, ◌<◌, ◌≤◌, List, [], ◌∷◌, ◌++◌, length, take, drop, get_or, sym, ap, ◌∙◌, arith, length-append, take-append-drop}
use Rattle.std.proofs.Math.Seq.{take-append-add, drop-append-add}
use Rattle.std.proofs.lemmas.List.{append-nil, take-append-le, drop-append-le}
use Rattle.std.specs.Arc.{arc_value}
use Rattle.std.specs.declared.sync.Arc.{Arc}
use Rattle.shared_tree.specs.declared.leaf.Leaf.{Ghosts}
use Rattle.shared_tree.specs.declared.leaf.Summary.{Ghosts as Sum}
use Rattle.shared_tree.specs.Laws.{Adds, Sums}
use Rattle.shared_tree.specs.Shape.{Shape}
use Rattle.shared_tree.specs.Row.{items_in, items_of, shapes, IsBunch, IsFit, IsTop}
use Rattle.shared_tree.proofs.RowLemmas.{items_in-append, shapes-cut, shapes-more, shapes-split, IsRow-left, IsRow-right}
use Rattle.shared_tree.proofs.SumLemmas.{IsFit-between, IsFit-left, IsFit-right}

pub take-inside : {X : Type 0} (a b c : List X) (to : ℕ) → length a ≤ to → to ≤ length a + length b → take to (a ++ (b ++ c)) ≡ a ++ take (to - length a) b
take-inside a b c to low high =
    let whole : length a + (to - length a) ≡ to = omega arith in
    let added = rw whole at (take-append-add a (b ++ c) (to - length a)) in
    added ∙ ap (λ xs. a ++ xs) (take-append-le (to - length a) b c (omega arith))

pub drop-inside : {X : Type 0} (a b c : List X) (from : ℕ) → length a ≤ from → from ≤ length a + length b → drop from (a ++ (b ++ c)) ≡ drop (from - length a) b ++ c
drop-inside a b c from low high =
    let whole : length a + (from - length a) ≡ from = omega arith in
    let added = rw whole at (drop-append-add a (b ++ c) (from - length a)) in
    added ∙ drop-append-le (from - length a) b c (omega arith)

module _ {L Item I Z : Type 0} (leaf : Ghosts L Item I) (nodes : List (Arc (Shape L) Z)) (i : ℕ) (node : Arc (Shape L) Z) (inside : i < length nodes) (is : node ≡ get_or nodes i node) where
  pub items-cut : items_in leaf (shapes nodes) ≡ items_in leaf (shapes (take i nodes)) ++ (items_of leaf (arc_value node) ++ items_in leaf (shapes (drop (i + 1) nodes)))
  items-cut = rw (shapes-cut nodes i node inside is) (items_in-append leaf (shapes (take i nodes)) _)

  pub items-more : items_in leaf (shapes (take (i + 1) nodes)) ≡ items_in leaf (shapes (take i nodes)) ++ items_of leaf (arc_value node)
  items-more = rw (shapes-more nodes i node inside is) (items_in-append leaf (shapes (take i nodes)) (arc_value node ∷ []) ∙ ap (λ xs. items_in leaf (shapes (take i nodes)) ++ xs) (append-nil (items_of leaf (arc_value node))))

  -- a place before the end of a node is within it
  pub reached-inside : (to start : ℕ) → start ≡ length (items_in leaf (shapes (take i nodes))) → to ≤ length (items_in leaf (shapes (take (i + 1) nodes))) → to - start ≤ length (items_of leaf (arc_value node))
  reached-inside to start at reached =
      let all : length (items_in leaf (shapes (take (i + 1) nodes))) ≡ length (items_in leaf (shapes (take i nodes))) + length (items_of leaf (arc_value node)) = ap length items-more ∙ length-append (items_in leaf (shapes (take i nodes))) (items_of leaf (arc_value node)) in
      omega arith

  pub front-cut : (to start : ℕ) → start ≡ length (items_in leaf (shapes (take i nodes))) → start < to → to ≤ length (items_in leaf (shapes (take (i + 1) nodes))) → items_in leaf (shapes (take i nodes)) ++ take (to - start) (items_of leaf (arc_value node)) ≡ take to (items_in leaf (shapes nodes))
  front-cut to start at passed reached =
      let within : to - start ≤ length (items_of leaf (arc_value node)) = reached-inside to start at reached in
      let cut = take-inside (items_in leaf (shapes (take i nodes))) (items_of leaf (arc_value node)) (items_in leaf (shapes (drop (i + 1) nodes))) to (omega arith) (omega arith) in
      rw (at, items-cut) (sym cut)

  pub back-cut : (from start : ℕ) → start ≡ length (items_in leaf (shapes (take i nodes))) → start < from + 1 → from + 1 ≤ length (items_in leaf (shapes (take (i + 1) nodes))) → drop (from - start) (items_of leaf (arc_value node)) ++ items_in leaf (shapes (drop (i + 1) nodes)) ≡ drop from (items_in leaf (shapes nodes))
  back-cut from start at passed reached =
      let within : from + 1 - start ≤ length (items_of leaf (arc_value node)) = reached-inside (from + 1) start at reached in
      let cut = drop-inside (items_in leaf (shapes (take i nodes))) (items_of leaf (arc_value node)) (items_in leaf (shapes (drop (i + 1) nodes))) from (omega arith) (omega arith) in
      rw (at, items-cut) (sym cut)

  module _ (sum : Sum I) (adds : Adds sum.zero sum.plus sum.fits sum.count) (sums : Sums leaf.summed sum.zero sum.plus sum.count) where
    -- what a node of a row holds fits where the row's items fit
    pub node-fits : IsFit leaf sum (items_in leaf (shapes nodes)) → IsFit leaf sum (items_of leaf (arc_value node))
    node-fits fit = IsFit-between leaf sum adds sums _ _ _ (rw items-cut at fit)

    pub front-fits : IsFit leaf sum (items_in leaf (shapes nodes)) → (to start : ℕ) → start ≡ length (items_in leaf (shapes (take i nodes))) → start < to → to ≤ length (items_in leaf (shapes (take (i + 1) nodes))) → IsFit leaf sum (items_in leaf (shapes (take i nodes)) ++ take (to - start) (items_of leaf (arc_value node)))
    front-fits fit to start at passed reached =
        rw (front-cut to start at passed reached) (IsFit-left leaf sum adds sums _ (drop to (items_in leaf (shapes nodes))) (rw take-append-drop fit))

    pub back-fits : IsFit leaf sum (items_in leaf (shapes nodes)) → (from start : ℕ) → start ≡ length (items_in leaf (shapes (take i nodes))) → start < from + 1 → from + 1 ≤ length (items_in leaf (shapes (take (i + 1) nodes))) → IsFit leaf sum (drop (from - start) (items_of leaf (arc_value node)) ++ items_in leaf (shapes (drop (i + 1) nodes)))
    back-fits fit from start at passed reached =
        rw (back-cut from start at passed reached) (IsFit-right leaf sum adds sums (take from (items_in leaf (shapes nodes))) _ (rw take-append-drop fit))

module _ {L Item I Z : Type 0} (leaf : Ghosts L Item I) (sum : Sum I) (adds : Adds sum.zero sum.plus sum.fits sum.count) (sums : Sums leaf.summed sum.zero sum.plus sum.count) where
  -- a part of a row, on top of a tree
  pub top-front : (h n : ℕ) (nodes : List (Arc (Shape L) Z)) → IsBunch leaf h (shapes nodes) → IsFit leaf sum (items_in leaf (shapes nodes)) → IsTop leaf sum h (shapes (take n nodes))
  top-front h n nodes bunch fit =
      let counted : length (shapes nodes) ≡ length (shapes (take n nodes)) + length (shapes (drop n nodes)) = ap length (shapes-split nodes n) ∙ length-append (shapes (take n nodes)) (shapes (drop n nodes)) in
      let few : length (shapes nodes) ≤ 8 = bunch.few in
      record {
        levels = IsRow-left leaf h _ (shapes (drop n nodes)) (rw (shapes-split nodes n) at bunch.levels);
        few = omega arith;
        fits = IsFit-left leaf sum adds sums _ (items_in leaf (shapes (drop n nodes))) (rw (shapes-split nodes n, items_in-append leaf (shapes (take n nodes)) (shapes (drop n nodes))) at fit);
      }

  pub top-back : (h n : ℕ) (nodes : List (Arc (Shape L) Z)) → IsBunch leaf h (shapes nodes) → IsFit leaf sum (items_in leaf (shapes nodes)) → IsTop leaf sum h (shapes (drop n nodes))
  top-back h n nodes bunch fit =
      let counted : length (shapes nodes) ≡ length (shapes (take n nodes)) + length (shapes (drop n nodes)) = ap length (shapes-split nodes n) ∙ length-append (shapes (take n nodes)) (shapes (drop n nodes)) in
      let few : length (shapes nodes) ≤ 8 = bunch.few in
      record {
        levels = IsRow-right leaf h (shapes (take n nodes)) _ (rw (shapes-split nodes n) at bunch.levels);
        few = omega arith;
        fits = IsFit-right leaf sum adds sums (items_in leaf (shapes (take n nodes))) _ (rw (shapes-split nodes n, items_in-append leaf (shapes (take n nodes)) (shapes (drop n nodes))) at fit);
      }
