-- Regions that a motion moved lie in the text, and so does the selection of them.
use Rattle.std.proofs.Common.{◌≡◌, ℕ, ◌+◌, ◌≤◌, Bool, true, false, List, [], ◌∷◌, length, map, sym, ap, arith, drop}
use Rattle.std.specs.Prelude.{max, min, ◌||◌, ◌==◌, if◌then◌else◌, nat_le, nat_lt}
use Rattle.std.specs.Str.{all_scalars}
use Rattle.plain_text.specs.declared.selection.Region.{Region}
use Rattle.plain_screen.specs.declared.piece.Piece.{Piece}
use Rattle.plain_screen.specs.View.{layout_line_of}
use Rattle.xi_plain.specs.declared.motion.Motion.{Motion}
use Rattle.xi_plain.specs.declared.motion.Motion.TheVariants.{Left, Right, Up, Down, WordLeft, WordRight, LineStart, LineEnd, TextStart, TextEnd}
use Rattle.selection_core.specs.Mapped.{AreWithin}
use Rattle.selection_core.specs.Selection.{comes_before, greater_end, is_caret, is_forward, joined, lesser_end, meets, merged_from, merged_regions, selection_of, sorted_regions, spanning, with_in_order}
use Rattle.movement_core.specs.Places.{IsPlace}
use Rattle.movement_core.specs.Lines.{belongs_to}
use Rattle.movement_core.specs.Words.{word_len}
use Rattle.movement_core.specs.Motions.{region_after, target}
use Rattle.movement_core.proofs.BoundaryLemmas.{place-inside}
use Rattle.movement_core.proofs.LawLemmas.{greatest_place-is_place, least_place-is_place}

module _ (tab : ℕ) (text : List ℕ) (pieces : List Piece) (scalars : all_scalars text ≡ true) where
  if-le : (b : Bool) (one other : ℕ) → one ≤ length text → other ≤ length text → (if b then one else other) ≤ length text
  if-le true one other a b = a
  if-le false one other a b = b

  inside : (place : ℕ) → IsPlace text place → place ≤ length text
  inside place found = place-inside text place scalars found

  pub target-inside : (motion : Motion) (extend : Bool) (region : Region) → greater_end region ≤ length text → target tab text pieces motion extend region ≤ length text
  target-inside Left extend region le =
      if-le (extend || is_caret region) _ _ (inside _ (greatest_place-is_place _ text)) (let high = le in omega arith)
  target-inside Right extend region le = if-le (extend || is_caret region) _ _ (inside _ (least_place-is_place (nat_lt region.caret) text scalars)) le
  target-inside Up extend region le =
      if-le (layout_line_of pieces (if extend then region.caret else lesser_end region) == 0) _ _ (omega arith) (inside _ (greatest_place-is_place _ text))
  target-inside Down extend region le =
      if-le (layout_line_of pieces (if extend then region.caret else greater_end region) + 1 == length pieces) _ _ (omega arith) (inside _ (greatest_place-is_place _ text))
  target-inside WordLeft extend region le = inside _ (greatest_place-is_place _ text)
  target-inside WordRight extend region le = inside _ (least_place-is_place (nat_le (region.caret + word_len (drop region.caret text))) text scalars)
  target-inside LineStart extend region le = inside _ (least_place-is_place (belongs_to pieces (layout_line_of pieces region.caret)) text scalars)
  target-inside LineEnd extend region le = inside _ (greatest_place-is_place _ text)
  target-inside TextStart extend region le = omega arith
  target-inside TextEnd extend region le = omega arith

  both-le : (extend : Bool) (anchor caret : ℕ) → anchor ≤ length text → caret ≤ length text → max (if extend then anchor else caret) caret ≤ length text
  both-le true anchor caret a b = omega arith
  both-le false anchor caret a b = omega arith

  pub region_after-inside : (motion : Motion) (extend : Bool) (region : Region) → greater_end region ≤ length text →
      greater_end (region_after tab text pieces motion extend region) ≤ length text
  region_after-inside motion extend region le =
      both-le extend region.anchor (target tab text pieces motion extend region) (let high = le in omega arith) (target-inside motion extend region le)

  pub AreWithin-after : (motion : Motion) (extend : Bool) (regions : List Region) → AreWithin (length text) regions →
      AreWithin (length text) (map (region_after tab text pieces motion extend) regions)
  AreWithin-after motion extend [] within = tt
  AreWithin-after motion extend (region ∷ regions) within = (region_after-inside motion extend region within.0, AreWithin-after motion extend regions within.1)

-- ---- a selection of regions lies where they lie

AreWithin-order : (len : ℕ) (region : Region) (regions : List Region) → greater_end region ≤ len → AreWithin len regions → AreWithin len (with_in_order region regions)
AreWithin-order len region [] le within = (le, tt)
AreWithin-order len region (first ∷ regions) le within =
    by (comes_before first region) (AreWithin-order len region regions le within.1)
  where
    by : (b : Bool) → AreWithin len (with_in_order region regions) → AreWithin len (if b then first ∷ with_in_order region regions else region ∷ first ∷ regions)
    by true rest = (within.0, rest)
    by false rest = (le, (within.0, within.1))

AreWithin-sorted : (len : ℕ) (regions : List Region) → AreWithin len regions → AreWithin len (sorted_regions regions)
AreWithin-sorted len [] within = tt
AreWithin-sorted len (region ∷ regions) within = AreWithin-order len region (sorted_regions regions) within.0 (AreWithin-sorted len regions within.1)

spanning-le : (b : Bool) (from to len : ℕ) → from ≤ len → to ≤ len → greater_end (spanning b from to) ≤ len
spanning-le true from to len a b = omega arith
spanning-le false from to len a b = omega arith

joined-le : (len : ℕ) (one other : Region) → greater_end one ≤ len → greater_end other ≤ len → greater_end (joined one other) ≤ len
joined-le len one other a b =
    spanning-le (is_forward one || is_forward other) (min (lesser_end one) (lesser_end other)) (max (greater_end one) (greater_end other)) len
    (let le = a in let more = b in omega arith) (let le = a in let more = b in omega arith)

AreWithin-merged_from : (len : ℕ) (last : Region) (regions : List Region) → greater_end last ≤ len → AreWithin len regions → AreWithin len (merged_from last regions)
AreWithin-merged_from len last [] le within = (le, tt)
AreWithin-merged_from len last (region ∷ regions) le within =
    by (meets last region) (AreWithin-merged_from len (joined last region) regions (joined-le len last region le within.0) within.1)
    (AreWithin-merged_from len region regions within.0 within.1)
  where
    by : (b : Bool) → AreWithin len (merged_from (joined last region) regions) → AreWithin len (merged_from region regions) →
        AreWithin len (if b then merged_from (joined last region) regions else last ∷ merged_from region regions)
    by true one other = one
    by false one other = (le, other)

AreWithin-merged : (len : ℕ) (regions : List Region) → AreWithin len regions → AreWithin len (merged_regions regions)
AreWithin-merged len [] within = tt
AreWithin-merged len (region ∷ regions) within = AreWithin-merged_from len region regions within.0 within.1

pub AreWithin-selection : (len : ℕ) (regions : List Region) → AreWithin len regions → AreWithin len (selection_of regions)
AreWithin-selection len regions within = AreWithin-merged len (sorted_regions regions) (AreWithin-sorted len regions within)

pub if-yes : (b : Bool) (one other : ℕ) → b ≡ true → one ≡ (if b then one else other)
if-yes b one other is = sym (ap (λ c. if c then one else other) is)

pub if-no : (b : Bool) (one other : ℕ) → b ≡ false → other ≡ (if b then one else other)
if-no b one other is = sym (ap (λ c. if c then one else other) is)
