-- Where a measure passes a number, on the way down from a node.
use Rattle.std.proofs.Common.{◌≡◌, ℕ, zero, suc, ◌+◌, ◌-◌, ◌<◌, ◌≤◌, ◌==◌, false, IsTrue, List, [], ◌∷◌, ◌++◌, length, take, drop, get_or, append_assoc, refl, sym, ap, subst, ◌∙◌, arith, length-append}
use Rattle.std.specs.List.{flat_map}
use Rattle.std.proofs.Math.Seq.{drop-append_seam, take-append_seam}
use Rattle.std.proofs.lemmas.Bool.Decides.{nat_tests}
use Rattle.std.proofs.lemmas.Grind.{common_steps, flat_map-append}
use Rattle.std.proofs.lemmas.List.{append-nil, drop_all, nil_from_length}
use Rattle.std.proofs.lemmas.List.Elements.{All-head, All-tail}
use Rattle.std.specs.Arc.{arc_value}
use Rattle.std.specs.declared.sync.Arc.{Arc}
use Rattle.shared_tree.specs.declared.leaf.Leaf.{Ghosts}
use Rattle.shared_tree.specs.declared.leaf.Summary.{Ghosts as Sum}
use Rattle.shared_tree.specs.Laws.{Adds, Sums}
use Rattle.shared_tree.specs.Shape.{Shape}
use Rattle.shared_tree.specs.Row.{items_in, leaves_of, shapes, AreFull}
use Rattle.shared_tree.specs.Places.{leaves_from, sum_over, IsAt, IsFound, IsSeam}
use Rattle.shared_tree.proofs.RowLemmas.{items_in-by_leaves, leaves_full, shapes-cut}
use Rattle.shared_tree.proofs.CutLemmas.{drop-inside, take-inside}
use Rattle.shared_tree.proofs.SumLemmas.{sum_more}

module _ {L Item I : Type 0} (leaf : Ghosts L Item I) (sum : Sum I) (adds : Adds sum.zero sum.plus sum.fits sum.count) (sums : Sums leaf.summed sum.zero sum.plus sum.count) where
  pub sum_over-append : (xs ys : List L) → sum_over leaf (xs ++ ys) ≡ sum.plus (sum_over leaf xs) (sum_over leaf ys)
  sum_over-append xs ys = ap leaf.summed (flat_map-append leaf.items xs ys) ∙ sums.joined (flat_map leaf.items xs) (flat_map leaf.items ys)

  -- all leaves, before the way down begins
  pub found_whole : (width : I → ℕ) (start : I) (leaves : List L) (at : ℕ) → width start < at → at ≤ width (sum.plus start (sum_over leaf leaves)) → IsFound leaf sum width start leaves at leaves start
  found_whole width start leaves at passed reached = record {
    front = [];
    back = [];
    cut = sym (append-nil leaves);
    total = sym (rw sums.empty (adds.right_zero start));
    passed = passed;
    reached = reached;
  }

  -- what is found fits where all fits
  pub found_fits : (width : I → ℕ) (start : I) (leaves : List L) (at : ℕ) (part : List L) (before : I) → IsFound leaf sum width start leaves at part before → IsTrue (sum.fits (sum.plus start (sum_over leaf leaves))) → IsTrue (sum.fits (sum.plus before (sum_over leaf part)))
  found_fits width start leaves at part before found fit =
      let all : sum_over leaf leaves ≡ sum.plus (sum_over leaf found.front) (sum.plus (sum_over leaf part) (sum_over leaf found.back)) =
      ap (sum_over leaf) found.cut ∙ sum_over-append found.front (part ++ found.back) ∙ ap (sum.plus (sum_over leaf found.front)) (sum_over-append part found.back) in
      let parted : sum.plus start (sum_over leaf leaves) ≡ sum.plus (sum.plus before (sum_over leaf part)) (sum_over leaf found.back) =
      ap (sum.plus start) all ∙ sym (adds.grouped start (sum_over leaf found.front) (sum.plus (sum_over leaf part) (sum_over leaf found.back))) ∙
      ap (λ s. sum.plus s (sum.plus (sum_over leaf part) (sum_over leaf found.back))) (sym found.total) ∙ sym (adds.grouped before (sum_over leaf part) (sum_over leaf found.back)) in
      adds.left_fits _ _ (subst (λ s. IsTrue (sum.fits s)) parted fit)

  apart : (front one two three back : List L) → front ++ ((one ++ (two ++ three)) ++ back) ≡ (front ++ one) ++ (two ++ (three ++ back))
  apart front one two three back = simp append_assoc

  -- one level further down
  pub found_below : {Z : Type 0} (width : I → ℕ) (start : I) (leaves : List L) (at : ℕ) (part : List L) (before next : I) (kids : List (Arc (Shape L) Z)) (i : ℕ) (node : Arc (Shape L) Z) → IsFound leaf sum width start leaves at part before → leaves_of (shapes kids) ≡ part → i < length kids → node ≡ get_or kids i node → next ≡ sum.plus before (leaf.summed (items_in leaf (shapes (take i kids)))) → width next < at → at ≤ width (sum.plus before (leaf.summed (items_in leaf (shapes (take (i + 1) kids))))) → IsFound leaf sum width start leaves at (arc_value {X = Shape L} node).leaves next
  found_below width start leaves at part before next kids i node found same inside is next_is passed reached =
      let one : List L = leaves_of (shapes (take i kids)) in
      let two : List L = (arc_value {X = Shape L} node).leaves in
      let three : List L = leaves_of (shapes (drop (i + 1) kids)) in
      let parts : part ≡ one ++ (two ++ three) = sym same ∙ rw (shapes-cut kids i node inside is) (flat_map-append (λ (n : Shape L). n.leaves) (shapes (take i kids)) _) in
      let over : next ≡ sum.plus before (sum_over leaf one) = next_is ∙ ap (λ xs. sum.plus before (leaf.summed xs)) (sym (items_in-by_leaves leaf (shapes (take i kids)))) in
      let more : sum.plus next (sum_over leaf two) ≡ sum.plus before (leaf.summed (items_in leaf (shapes (take (i + 1) kids)))) = sum_more leaf sum adds sums kids i node before next inside is next_is in
      record {
        front = found.front ++ one;
        back = three ++ found.back;
        cut = found.cut ∙ ap (λ xs. found.front ++ (xs ++ found.back)) parts ∙ apart found.front one two three found.back;
        total = over ∙ ap (λ s. sum.plus s (sum_over leaf one)) found.total ∙ adds.grouped _ _ _ ∙ ap (sum.plus start) (sym (sum_over-append found.front one));
        passed = passed;
        reached = subst (λ s. at ≤ width s) (sym more) reached;
      }

  -- what is found in a part that was found
  pub found_through : (width : I → ℕ) (start : I) (leaves : List L) (at : ℕ) (part : List L) (before : I) (inner : List L) (next : I) → IsFound leaf sum width start leaves at part before → IsFound leaf sum width before part at inner next → IsFound leaf sum width start leaves at inner next
  found_through width start leaves at part before inner next outer found = record {
    front = outer.front ++ found.front;
    back = found.back ++ outer.back;
    cut = outer.cut ∙ ap (λ xs. outer.front ++ (xs ++ outer.back)) found.cut ∙ apart outer.front found.front inner found.back outer.back;
    total = found.total ∙ ap (λ s. sum.plus s (sum_over leaf found.front)) outer.total ∙ adds.grouped _ _ _ ∙ ap (sum.plus start) (sym (sum_over-append outer.front found.front));
    passed = found.passed;
    reached = found.reached;
  }

  -- how many items stand before what is found
  found_count : (leaves : List L) (at : ℕ) (own : L) (before : I) (found : IsFound leaf sum sum.count sum.zero leaves at (own ∷ []) before) → sum.count before ≡ length (flat_map leaf.items found.front)
  found_count leaves at own before found = ap sum.count (found.total ∙ adds.left_zero _) ∙ sums.counts _

  -- and up to the end of it
  found_end : (own : L) (before : I) → sum.count (sum.plus before (sum_over leaf (own ∷ []))) ≡ sum.count before + length (leaf.items own)
  found_end own before =
      adds.counts before (sum_over leaf (own ∷ [])) ∙
      ap (λ n. sum.count before + n) (sums.counts (leaf.items own ++ []) ∙ ap length (append-nil (leaf.items own)))

  -- the leaf in which the count of items passes an index has this item
  pub found_at : (leaves : List L) (index : ℕ) (own : L) (before : I) → IsFound leaf sum sum.count sum.zero leaves (index + 1) (own ∷ []) before → IsAt (flat_map leaf.items leaves) index (leaf.items own) (index - sum.count before)
  found_at leaves index own before found =
      let count : sum.count before ≡ length (flat_map leaf.items found.front) = found_count leaves (index + 1) own before found in
      let passed : sum.count before < index + 1 = found.passed in
      let reached : index + 1 ≤ sum.count (sum.plus before (sum_over leaf (own ∷ []))) = found.reached in
      record {
        front = flat_map leaf.items found.front;
        back = flat_map leaf.items found.back;
        cut = ap (flat_map leaf.items) found.cut ∙ flat_map-append leaf.items found.front (own ∷ found.back);
        place = omega arith;
        inside = omega (arith, found_end own before);
      }

  full_right : (front back : List L) → AreFull leaf (front ++ back) → AreFull leaf back
  full_right [] back full = full
  full_right (own ∷ front) back full = full_right front back (All-tail (λ z. 1 ≤ length (leaf.items z)) own (front ++ back) full)

  same_cut : (front back one two : List L) (own : L) → AreFull leaf (front ++ back) → front ++ back ≡ one ++ (own ∷ two) → length (flat_map leaf.items one) ≤ length (flat_map leaf.items front) → length (flat_map leaf.items front) < length (flat_map leaf.items one) + length (leaf.items own) → back ≡ own ∷ two
  same_cut [] back [] two own full same low high = same
  same_cut [] [] (x ∷ one) two own full same low high = absurd cc
  same_cut [] (y ∷ back) (x ∷ one) two own full same low high =
      let first : y ≡ x = cc in
      let some : 1 ≤ length (leaf.items y) = All-head (λ z. 1 ≤ length (leaf.items z)) y back full in
      absurd (omega (arith, ap (λ z. length (leaf.items z)) first, length-append (leaf.items x) (flat_map leaf.items one)))
  same_cut (y ∷ front) back [] two own full same low high =
      let first : y ≡ own = cc in
      absurd (omega (arith, ap (λ z. length (leaf.items z)) first, length-append (leaf.items y) (flat_map leaf.items front)))
  same_cut (y ∷ front) back (x ∷ one) two own full same low high =
      let first : y ≡ x = cc in
      let rest : front ++ back ≡ one ++ (own ∷ two) = cc in
      let few : length (leaf.items y) ≡ length (leaf.items x) = ap (λ z. length (leaf.items z)) first in
      same_cut front back one two own (All-tail (λ z. 1 ≤ length (leaf.items z)) y (front ++ back) full) rest
      (omega (arith, few, length-append (leaf.items y) (flat_map leaf.items front), length-append (leaf.items x) (flat_map leaf.items one)))
      (omega (arith, few, length-append (leaf.items y) (flat_map leaf.items front), length-append (leaf.items x) (flat_map leaf.items one)))

  seam_from : (front back : List L) (at : ℕ) → AreFull leaf (front ++ back) → length (flat_map leaf.items front) ≡ at → leaves_from leaf at (front ++ back) ≡ back
  seam_from [] [] zero full place = refl
  seam_from [] [] (suc at) full place = absurd (omega arith)
  seam_from [] (own ∷ back) zero full place = refl
  seam_from [] (own ∷ back) (suc at) full place = absurd (omega arith)
  seam_from (own ∷ front) back at full place =
      let some : 1 ≤ length (leaf.items own) = All-head (λ z. 1 ≤ length (leaf.items z)) own (front ++ back) full in
      let more : at ≡ length (leaf.items own) + length (flat_map leaf.items front) = sym place ∙ length-append (leaf.items own) (flat_map leaf.items front) in
      let test : (at == 0) ≡ false = grind (arith, nat_tests) in
      rw test (seam_from front back (at - length (leaf.items own)) (All-tail (λ z. 1 ≤ length (leaf.items z)) own (front ++ back) full) (omega arith))

  -- from a seam on come the leaves behind it
  pub seam_back : (at : ℕ) (leaves : List L) (seam : IsSeam leaf at leaves) → AreFull leaf leaves → leaves_from leaf at leaves ≡ seam.back
  seam_back at leaves seam full =
      ap (leaves_from leaf at) seam.cut ∙ seam_from seam.front seam.back at (subst (AreFull leaf) seam.cut full) seam.place

  -- the leaf at a seam is the first one behind it
  pub seam_first : (at : ℕ) (leaves : List L) (own : L) (before : I) (seam : IsSeam leaf at leaves) → AreFull leaf leaves → (found : IsFound leaf sum sum.count sum.zero leaves (at + 1) (own ∷ []) before) → seam.back ≡ own ∷ found.back
  seam_first at leaves own before seam full found =
      let count : sum.count before ≡ length (flat_map leaf.items found.front) = found_count leaves (at + 1) own before found in
      let passed : sum.count before < at + 1 = found.passed in
      let reached : at + 1 ≤ sum.count (sum.plus before (sum_over leaf (own ∷ []))) = found.reached in
      let place : length (flat_map leaf.items seam.front) ≡ at = seam.place in
      same_cut seam.front seam.back found.front found.back own (subst (AreFull leaf) seam.cut full) (sym seam.cut ∙ found.cut) (omega arith) (omega (arith, found_end own before))

  -- behind that leaf is a seam again
  pub seam_next : (at : ℕ) (leaves : List L) (own : L) (before : I) → IsSeam leaf at leaves → AreFull leaf leaves → IsFound leaf sum sum.count sum.zero leaves (at + 1) (own ∷ []) before → IsSeam leaf (at + length (leaf.items own)) leaves
  seam_next at leaves own before seam full found =
      let place : length (flat_map leaf.items seam.front) ≡ at = seam.place in
      let both : flat_map leaf.items (seam.front ++ (own ∷ [])) ≡ flat_map leaf.items seam.front ++ (leaf.items own ++ []) = flat_map-append leaf.items seam.front (own ∷ []) in
      record {
        front = seam.front ++ (own ∷ []);
        back = found.back;
        cut = seam.cut ∙ ap (λ xs. seam.front ++ xs) (seam_first at leaves own before seam full found) ∙ sym (append_assoc seam.front (own ∷ []) found.back);
        place = omega (arith, ap length both, length-append (flat_map leaf.items seam.front) (leaf.items own ++ []), length-append (leaf.items own) []);
      }

  -- the leaf and those behind it come from a seam on
  pub seam_gives : (at : ℕ) (leaves : List L) (own : L) (before : I) → IsSeam leaf at leaves → AreFull leaf leaves → IsFound leaf sum sum.count sum.zero leaves (at + 1) (own ∷ []) before → leaves_from leaf at leaves ≡ own ∷ leaves_from leaf (at + length (leaf.items own)) leaves
  unfolding seam_next
  seam_gives at leaves own before seam full found =
      let next = seam_next at leaves own before seam full found in
      seam_back at leaves seam full ∙ seam_first at leaves own before seam full found ∙
      ap (λ xs. own ∷ xs) (sym (seam_back (at + length (leaf.items own)) leaves next full))

  -- none comes from the end on
  pub seam_end : (at : ℕ) (leaves : List L) → IsSeam leaf at leaves → AreFull leaf leaves → at ≡ length (flat_map leaf.items leaves) → leaves_from leaf at leaves ≡ []
  seam_end at leaves seam full end =
      let place : length (flat_map leaf.items seam.front) ≡ at = seam.place in
      let all : flat_map leaf.items leaves ≡ flat_map leaf.items seam.front ++ flat_map leaf.items seam.back = ap (flat_map leaf.items) seam.cut ∙ flat_map-append leaf.items seam.front seam.back in
      let few : length seam.back ≤ length (flat_map leaf.items seam.back) = leaves_full leaf seam.back (full_right seam.front seam.back (subst (AreFull leaf) seam.cut full)) in
      seam_back at leaves seam full ∙ nil_from_length seam.back (omega (arith, ap length all, length-append (flat_map leaf.items seam.front) (flat_map leaf.items seam.back)))

  pub seam_inside : (at : ℕ) (leaves : List L) → IsSeam leaf at leaves → at ≤ length (flat_map leaf.items leaves)
  seam_inside at leaves seam =
      let place : length (flat_map leaf.items seam.front) ≡ at = seam.place in
      let all : flat_map leaf.items leaves ≡ flat_map leaf.items seam.front ++ flat_map leaf.items seam.back = ap (flat_map leaf.items) seam.cut ∙ flat_map-append leaf.items seam.front seam.back in
      omega (arith, ap length all, length-append (flat_map leaf.items seam.front) (flat_map leaf.items seam.back))

  -- the start is a seam, from which all leaves come
  pub seam_start : (leaves : List L) → IsSeam leaf 0 leaves
  seam_start leaves = record { front = []; back = leaves; cut = refl; place = refl }

  pub all_from_start : (leaves : List L) → leaves_from leaf 0 leaves ≡ leaves
  all_from_start [] = refl
  all_from_start (own ∷ leaves) = refl

module _ {Item : Type 0} where
  -- the part that has the first item begins with it
  pub at-first : (items part : List Item) (offset : ℕ) → IsAt items 0 part offset → items ≡ part ++ drop (length part) items
  at-first items part offset found =
      let place : length found.front + offset ≡ 0 = found.place in
      let none : found.front ≡ [] = grind (arith, common_steps) in
      let cut : items ≡ part ++ found.back = found.cut ∙ ap (λ xs. xs ++ (part ++ found.back)) none in
      cut ∙ ap (λ xs. part ++ xs) (sym (ap (drop (length part)) cut ∙ drop-append_seam part found.back))

  -- the part that has the last item ends with it
  pub at-last : (items part : List Item) (at offset : ℕ) → at + 1 ≡ length items → IsAt items at part offset → items ≡ take (length items - length part) items ++ part
  at-last items part at offset last found =
      let place : length found.front + offset ≡ at = found.place in
      let inside : offset < length part = found.inside in
      let whole : length items ≡ length found.front + (length part + length found.back) = ap length found.cut ∙ length-append found.front (part ++ found.back) ∙ ap (λ n. length found.front + n) (length-append part found.back) in
      let none : found.back ≡ [] = grind (arith, common_steps) in
      let cut : items ≡ found.front ++ part = found.cut ∙ ap (λ xs. found.front ++ (part ++ xs)) none ∙ ap (λ xs. found.front ++ xs) (append-nil part) in
      let count : length items - length part ≡ length found.front = omega (arith, ap length cut, length-append found.front part) in
      let front : take (length items - length part) items ≡ found.front = rw count (ap (take (length found.front)) cut ∙ take-append_seam found.front part) in
      cut ∙ ap (λ xs. xs ++ part) (sym front)

  -- what stands from the item on
  pub at-drop : (items part : List Item) (at offset : ℕ) → IsAt items at part offset → drop at items ≡ drop offset part ++ drop (at + (length part - offset)) items
  at-drop items part at offset found =
      let place : length found.front + offset ≡ at = found.place in
      let inside : offset < length part = found.inside in
      let begun : at - length found.front ≡ offset = omega arith in
      let here : drop at items ≡ drop offset part ++ found.back = ap (drop at) found.cut ∙ drop-inside found.front part found.back at (omega arith) (omega arith) ∙ ap (λ n. drop n part ++ found.back) begun in
      let ended : at + (length part - offset) ≡ length found.front + length part = omega arith in
      let done : length found.front + length part - length found.front ≡ length part = omega arith in
      let after : drop (at + (length part - offset)) items ≡ found.back = rw ended (ap (drop (length found.front + length part)) found.cut ∙ drop-inside found.front part found.back (length found.front + length part) (omega arith) (omega arith) ∙ rw (done, drop_all (length part) part (omega arith)) refl) in
      here ∙ ap (λ xs. drop offset part ++ xs) (sym after)

  -- what stands up to the item
  pub at-take : (items part : List Item) (at offset : ℕ) → IsAt items at part offset → take (at + 1) items ≡ take (at - offset) items ++ take (offset + 1) part
  at-take items part at offset found =
      let place : length found.front + offset ≡ at = found.place in
      let inside : offset < length part = found.inside in
      let begun : at + 1 - length found.front ≡ offset + 1 = omega arith in
      let here : take (at + 1) items ≡ found.front ++ take (offset + 1) part = ap (take (at + 1)) found.cut ∙ take-inside found.front part found.back (at + 1) (omega arith) (omega arith) ∙ ap (λ n. found.front ++ take n part) begun in
      let start : at - offset ≡ length found.front = omega arith in
      let before : take (at - offset) items ≡ found.front = rw start (ap (take (length found.front)) found.cut ∙ take-append_seam found.front (part ++ found.back)) in
      here ∙ ap (λ xs. xs ++ take (offset + 1) part) (sym before)
