-- Two revisions of a text, whose characters are named by rising numbers, touch by text the logical lines from that of the first gap at which they differ
-- to that of the last, and no others.
use Rattle.std.proofs.Common.{◌≡◌, ◌≢◌, ℕ, ◌+◌, ◌-◌, Bool, true, false, List, ◌++◌, length, map, take, reverse, refl, ap, ap₂, sym, subst, ◌∙◌, arith, append_assoc, length-append}
use Rattle.std.specs.Prelude.{if◌then◌else◌}
use Rattle.std.specs.Str.{bytes_eq}
use Rattle.std.proofs.lemmas.List.{length-map, map-append}
use Rattle.std.proofs.lemmas.Slice.Eq.{bytes_eq-Decides}
use Rattle.std.proofs.Math.Seq.{take-append_seam}
use Rattle.plain_text.specs.declared.run.Run.{Run}
use Rattle.plain_screen.specs.declared.piece.Piece.{Piece}
use Rattle.plain_screen.specs.declared.screen.Line.{Line}
use Rattle.plain_screen.specs.Touched.{TouchesNoOthers, common_len, touched_by_text}
use Rattle.plain_screen.specs.View.{logical_line_of}
use Rattle.rope_node.specs.Lengths.{lf_count}
use Rattle.line_stays.specs.Drawn.{IsDrawnOf, drawn_by, lines_between}
use Rattle.line_stays.specs.Laws.{CutsLines}
use Rattle.line_stays.specs.Parts.{RiseAbove}
use Rattle.line_stays.proofs.CountLemmas.{line-counts}
use Rattle.line_stays.proofs.PartLemmas.{have-parts}
use Rattle.line_stays.proofs.TouchLemmas.{touches_no_others, touches_none}

module _ (ends_of : List ℕ → List ℕ) (char : ℕ → ℕ) (xs ys : List ℕ) (draw other : Piece → Line) where
  abbrev was : List ℕ
  was = map char xs

  abbrev made : List ℕ
  made = map char ys

  abbrev Touched : Run → Type 0
  Touched touched = TouchesNoOthers touched (drawn_by ends_of draw was) (drawn_by ends_of other made)

  -- the lines from one gap to another, by what stands left of them
  touched-parts : (front come back : List ℕ) → ys ≡ front ++ (come ++ back) →
      lines_between (map char front) (map char come) ≡
      record { start = (logical_line_of made (length front)).index; end = (logical_line_of made (length made - length back)).index + 1 }
  touched-parts front come back is =
      let whole : made ≡ map char front ++ (map char come ++ map char back) =
      ap (map char) is ∙ map-append char front (come ++ back) ∙ ap (λ t. map char front ++ t) (map-append char come back) in
      let long = length-map front char in
      let middle = length-map come char in
      let rest = length-map back char in
      let all : length made ≡ length front + (length come + length back) =
      omega (
        arith,
        ap length whole,
        length-append (map char front) (map char come ++ map char back),
        length-append (map char come) (map char back),
        long,
        middle,
        rest,
      ) in
      let one : (logical_line_of made (length front)).index ≡ lf_count (map char front) =
      line-counts made (length front) (omega (arith, all)) ∙
      ap₂ (λ n t. lf_count (take n t)) (sym long) whole ∙ ap lf_count (take-append_seam (map char front) (map char come ++ map char back)) in
      let at : length made - length back ≡ length (map char front ++ map char come) =
      omega (arith, all, length-append (map char front) (map char come), long, middle) in
      let two : (logical_line_of made (length made - length back)).index ≡ lf_count (map char front ++ map char come) =
      line-counts made (length made - length back) (omega arith) ∙
      ap₂ (λ n t. lf_count (take n t)) at (whole ∙ sym (append_assoc (map char front) (map char come) (map char back))) ∙
      ap lf_count (take-append_seam (map char front ++ map char come) (map char back)) in
      ap₂ (λ (a b : ℕ). record { start = a; end = b + 1 }) (sym one) (sym two)

  pub touches-revised : CutsLines ends_of was → CutsLines ends_of made → IsDrawnOf was draw → IsDrawnOf made other → RiseAbove 0 xs → RiseAbove 0 ys →
      Touched (touched_by_text xs ys made)
  touches-revised was_cut is_cut one two rise rises = by (bytes_eq xs ys) refl
    where
      by : (b : Bool) → bytes_eq xs ys ≡ b → Touched (if b then record { start = 0; end = 0 }
          else record {
            start = (logical_line_of made (common_len xs ys)).index;
            end = (logical_line_of made (length made - common_len (reverse xs) (reverse ys))).index + 1;
          })
      by true is =
          let same : was ≡ made = ap (map char) ((bytes_eq-Decides xs ys).0 is) in
          let drawn : IsDrawnOf made draw = subst (λ t. IsDrawnOf t draw) same one in
          subst (λ t. TouchesNoOthers (record { start = 0; end = 0 }) (drawn_by ends_of draw t) (drawn_by ends_of other made)) (sym same)
          (touches_none ends_of made draw other is_cut drawn two)
      by false is =
          let differ : xs ≢ ys = (λ same. let equal : true ≡ false = sym ((bytes_eq-Decides xs ys).1 same) ∙ is in cc) in
          let parts = have-parts 0 xs ys rise rises differ in
          let before : was ≡ map char parts.front ++ (map char parts.gone ++ map char parts.back) =
          ap (map char) parts.before ∙ map-append char parts.front (parts.gone ++ parts.back) ∙
          ap (λ t. map char parts.front ++ t) (map-append char parts.gone parts.back) in
          let after : made ≡ map char parts.front ++ (map char parts.come ++ map char parts.back) =
          ap (map char) parts.after ∙ map-append char parts.front (parts.come ++ parts.back) ∙
          ap (λ t. map char parts.front ++ t) (map-append char parts.come parts.back) in
          let lines : lines_between (map char parts.front) (map char parts.come) ≡
          record {
            start = (logical_line_of made (common_len xs ys)).index;
            end = (logical_line_of made (length made - common_len (reverse xs) (reverse ys))).index + 1;
          } =
          touched-parts parts.front parts.come parts.back parts.after ∙
          ap₂ (λ (n m : ℕ). record { start = (logical_line_of made n).index; end = (logical_line_of made (length made - m)).index + 1 }) parts.left parts.right in
          subst Touched lines
          (subst (λ t. TouchesNoOthers (lines_between (map char parts.front) (map char parts.come)) (drawn_by ends_of draw t) (drawn_by ends_of other made)) (sym before)
          (subst (λ t. TouchesNoOthers (lines_between (map char parts.front) (map char parts.come))
          (drawn_by ends_of draw (map char parts.front ++ (map char parts.gone ++ map char parts.back))) (drawn_by ends_of other t)) (sym after)
          (touches_no_others ends_of (map char parts.front) (map char parts.gone) (map char parts.come) (map char parts.back) draw other
          (subst (CutsLines ends_of) before was_cut) (subst (CutsLines ends_of) after is_cut) (subst (λ t. IsDrawnOf t draw) before one)
          (subst (λ t. IsDrawnOf t other) after two))))
