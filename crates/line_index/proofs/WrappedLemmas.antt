-- The lines of a text that is wrapped, by the cuts of a tree.
use Rattle.std.proofs.Common.{◌≡◌, inl, inr, ℕ, zero, suc, ◌+◌, ◌-◌, ◌<◌, ◌≤◌, List, [], ◌∷◌, ◌++◌, length, take, Option, Some, refl, ap, ap₂, sym, subst, ◌∙◌, arith, append_assoc, length-append, take_all}
use Rattle.std.specs.Prelude.{unwrap_or, slice_get, slice_range}
use Rattle.std.specs.List.{concat}
use Rattle.std.proofs.lemmas.Option.{slice_get_within}
use Rattle.plain_text.specs.Lines.{logical_lines}
use Rattle.plain_text.specs.Text.{byte_len, place_of}
use Rattle.plain_text.specs.declared.run.Run.{Run}
use Rattle.plain_edits.specs.declared.delta.UnitDelta.{UnitDelta}
use Rattle.plain_screen.specs.declared.piece.Piece.{Piece}
use Rattle.plain_screen.specs.View.{ArePieces, IsLogicalLineOf, LogicalLine, extent_of, layout_line_of, line_under, logical_line_of, start_of, whole_lines}
use Rattle.plain_screen.proofs.callers.OwnLemmas.{pieces-some, start_of-get}
use Rattle.plain_screen.proofs.callers.ViewLemmas.{ArePieces-whole_lines, IsLayoutLineOf-layout_line_of, IsLayoutLineOf-only, IsLogicalLineOf-logical_line_of}
use Rattle.rope_node.specs.Lengths.{lf_count}
use Rattle.shared_tree.specs.Replaced.{replaced}
use Rattle.delta_core.specs.Units.{text_after}
use Rattle.delta_core.specs.UnitStep.{steps_of}
use Rattle.line_break.specs.Pieces.{wrapped_pieces}
use Rattle.line_break.proofs.ForCallers.{ArePieces-wrapped}
use Rattle.line_index.specs.declared.cut.Cut.{Cut}
use Rattle.line_index.specs.Cuts.{cuts_of, cuts_of_lines, pieces_at}
use Rattle.line_index.specs.Inner.{cuts_before, HasCuts, HasLines, IsCutAt, IsTouched}
use Rattle.line_index.specs.Whole.{line_start, point_of}
use Rattle.line_index.proofs.ChangedLemmas.{HasParts, cuts-edited, line-front, parts-touched}
use Rattle.line_index.proofs.CutLemmas.{IsCutAt-line, layout-cut, length-pieces}
use Rattle.line_index.proofs.CuttingLemmas.{starts-rise}
use Rattle.line_index.proofs.LineLemmas.{lf_count-append, pieces_at-text}
use Rattle.line_index.proofs.WholeLemmas.{length-logical_lines, length-whole_lines, place-between, start-whole}

-- the point of a gap, by its layout line and the piece of that
point-line : (text : List ℕ) (pieces : List Piece) (gap line start from to : ℕ) (piece : Piece) → ArePieces text pieces → line ≡ layout_line_of pieces gap →
    slice_get pieces line ≡ Some piece → start ≡ piece.start → to ≡ place_of text gap → from ≡ place_of text start →
    (from ≤ to) × ((line, to - from) ≡ point_of text pieces gap)
point-line text pieces gap line start from to piece are same shown starts to_is from_is =
    let at : start_of pieces line ≡ start = start_of-get pieces line piece shown ∙ sym starts in
    let by_then = (IsLayoutLineOf-layout_line_of text pieces gap are).by_then piece (subst (λ (i : ℕ). slice_get pieces i ≡ Some piece) same shown) in
    let sum = place-between text start gap (omega (arith, starts)) in
    let column : to - from ≡ byte_len (slice_range text start gap) = omega (arith, to_is, from_is) in (
      omega (arith, to_is, from_is),
      ap (λ (n : ℕ). (line, n)) column ∙
          ap (λ (n : ℕ). (line, byte_len (slice_range text n gap))) (sym at) ∙
          ap (λ (l : ℕ). (l, byte_len (slice_range text (start_of pieces l) gap))) same,
    )

module _ (width tab : ℕ) (text : List ℕ) (cuts : List Cut) (has : HasCuts width tab text cuts) where
  -- ---- its pieces

  pub pieces-are : ArePieces text (wrapped_pieces width tab text)
  pieces-are = ArePieces-wrapped width tab text has.characters

  pub pieces-cuts : pieces_at 1 0 cuts ≡ wrapped_pieces width tab text
  pieces-cuts = ap (pieces_at 1 0) has.are ∙ pieces_at-text width tab text has.characters

  pub length-cuts : length (wrapped_pieces width tab text) ≡ length cuts
  length-cuts = ap length (sym pieces-cuts) ∙ length-pieces 1 0 cuts

  pub some-cuts : 0 < length cuts
  some-cuts = let some = pieces-some text (wrapped_pieces width tab text) pieces-are in omega (arith, length-cuts)

  pub piece-cut : (i : ℕ) (piece : Piece) → slice_get (pieces_at 1 0 cuts) i ≡ Some piece → slice_get (wrapped_pieces width tab text) i ≡ Some piece
  piece-cut i piece is = ap (λ (ps : List Piece). slice_get ps i) (sym pieces-cuts) ∙ is

  pub line-cut : (gap index : ℕ) → IsCutAt cuts gap index → index ≡ layout_line_of (wrapped_pieces width tab text) gap
  line-cut gap index is = layout-cut text (wrapped_pieces width tab text) cuts gap index pieces-are pieces-cuts is

  -- ---- how many cuts stand before a logical line

  pub before-line : (line gap index : ℕ) → line < length (logical_lines text) → gap ≡ line_start text line → IsCutAt cuts gap index →
      index ≡ cuts_before width tab text line
  before-line line gap index inside starts is =
      let own : IsCutAt cuts (line_start text line) (cuts_before width tab text line) =
      subst (λ (cs : List Cut). IsCutAt cs (line_start text line) (cuts_before width tab text line)) (sym has.are) (IsCutAt-line width tab text line has.characters inside) in
      line-cut gap index is ∙ ap (layout_line_of (wrapped_pieces width tab text)) starts ∙ sym (line-cut (line_start text line) (cuts_before width tab text line) own)

  pub before-end : (line : ℕ) → length (logical_lines text) ≤ line → length cuts ≡ cuts_before width tab text line
  before-end line past =
      ap length has.are ∙ ap (λ (lines : List (List ℕ)). length (cuts_of_lines width tab lines)) (sym (take_all line (logical_lines text) past))

  -- ---- the point of a gap

  pub point-cut : (gap line start from to : ℕ) (piece : Piece) → IsCutAt cuts gap line → slice_get (pieces_at 1 0 cuts) line ≡ Some piece → start ≡ piece.start →
      to ≡ place_of text gap → from ≡ place_of text start → (from ≤ to) × ((line, to - from) ≡ point_of text (wrapped_pieces width tab text) gap)
  point-cut gap line start from to piece is get starts to_is from_is =
      point-line text (wrapped_pieces width tab text) gap line start from to piece pieces-are (line-cut gap line is) (piece-cut line piece get) starts to_is from_is

-- ---- the logical line of a gap, by the LFs left of it

next-start : (lines : List (List ℕ)) (i : ℕ) (line : List ℕ) → slice_get lines i ≡ Some line →
    length (concat (take (suc i) lines)) ≡ length (concat (take i lines)) + length line
next-start [] i line is = absurd cc
next-start (own ∷ lines) zero line is =
    let same : own ≡ line = ap (λ (o : Option (List ℕ)). unwrap_or o own) is in omega (arith, ap length same, length-append own [])
next-start (own ∷ lines) (suc i) line is =
    omega (arith, next-start lines i line is, length-append own (concat (take i lines)), length-append own (concat (take (suc i) lines)))

extent-same : (a b c d : ℕ) → a ≡ c → b ≡ d → record { start = a; end = b } ≡ (let run : Run = record { start = c; end = d } in run)
extent-same a b c d p q = rw (p, q) refl

extent-line : (text : List ℕ) (gap index : ℕ) (line : LogicalLine) → IsLogicalLineOf text gap line → index ≡ layout_line_of (whole_lines text) gap →
    record { start = line_start text index; end = line_start text (index + 1) } ≡ extent_of line
extent-line text gap index line is at =
    extent-same (line_start text index) (line_start text (index + 1)) line.start (line.start + length line.text)
    (ap (line_start text) same ∙ sym is.start)
    (omega (arith, ap (λ (n : ℕ). line_start text (n + 1)) same, ends))
  where
    lines : List (List ℕ)
    lines = logical_lines text

    inside : line.index < length lines
    inside = slice_get_within lines line.index line.text is.is

    ends : line_start text (line.index + 1) ≡ line.start + length line.text
    ends =
        let next : line.index + 1 ≡ suc line.index = omega arith in
        omega (arith, ap (line_start text) next, next-start lines line.index line.text is.is, is.start)

    same : index ≡ line.index
    same =
        at ∙ IsLayoutLineOf-only (whole_lines text) gap _ line.index (IsLayoutLineOf-layout_line_of text (whole_lines text) gap (ArePieces-whole_lines text)) (record {
          inside = omega (arith, inside, length-logical_lines text, length-whole_lines text);
          by_then = λ piece get.
              let start = (start-whole text line.index piece get).0 in
              let by_then = is.by_then in omega (arith, is.start);
          last = λ later piece past get.
              let start = (start-whole text later piece get).0 in
              elim is.last [
                | inl end ↦ absurd (let few = slice_get_within (whole_lines text) later piece get in omega (arith, length-logical_lines text, length-whole_lines text))
                | inr before ↦ let more = starts-rise (line.index + 1) later lines (omega arith) in omega (arith, ends)
              ];
        })

-- THE LOGICAL LINE OF A LAYOUT LINE, by the gap where that starts
pub extent-start : (text : List ℕ) (pieces : List Piece) (line gap index : ℕ) (piece : Piece) → slice_get pieces line ≡ Some piece → gap ≡ piece.start →
    index ≡ layout_line_of (whole_lines text) gap →
    record { start = line_start text index; end = line_start text (index + 1) } ≡ extent_of (line_under text pieces line)
extent-start text pieces line gap index piece get starts at =
    let same : start_of pieces line ≡ gap = start_of-get pieces line piece get ∙ sym starts in
    extent-line text gap index (logical_line_of text gap) (IsLogicalLineOf-logical_line_of text gap) at ∙
    ap (λ (n : ℕ). extent_of (logical_line_of text n)) (sym same)

-- ---- an edit

pub lines-touched : (units : UnitDelta) (text after : List ℕ) (run : Run) (from old new : ℕ) → units.base ≡ length text → IsTouched (steps_of units) run →
    after ≡ text_after units text → from ≡ layout_line_of (whole_lines text) run.start → old ≡ layout_line_of (whole_lines text) run.end + 1 →
    new ≡ lf_count after + old - lf_count text → HasLines units text after from old new
lines-touched units text after run from old new base touched is from_is old_is new_is = by (parts-touched units text run base touched)
  where
    by : HasParts units text run → HasLines units text after from old new
    by parts =
        let front = parts.front in
        let gone = parts.gone in
        let come = parts.come in
        let back = parts.back in
        let result : after ≡ front ++ (come ++ back) = is ∙ parts.after in
        let first : lf_count front ≡ from = line-front text front (gone ++ back) run.start parts.before parts.start ∙ sym from_is in
        let joined : text ≡ (front ++ gone) ++ back = parts.before ∙ sym (append_assoc front gone back) in
        let past : lf_count (front ++ gone) + 1 ≡ old =
        ap (λ (n : ℕ). n + 1) (line-front text (front ++ gone) back run.end joined parts.end) ∙ sym old_is in
        let lfs : lf_count text ≡ lf_count (front ++ gone) + lf_count back = ap lf_count joined ∙ lf_count-append (front ++ gone) back in
        let lfs_after : lf_count after ≡ lf_count front + (lf_count come + lf_count back) =
        ap lf_count result ∙ lf_count-append front (come ++ back) ∙ ap (λ (n : ℕ). lf_count front + n) (lf_count-append come back) in
        let more : lf_count (front ++ gone) ≡ lf_count front + lf_count gone = lf_count-append front gone in
        let some : lf_count (front ++ come) ≡ lf_count front + lf_count come = lf_count-append front come in
        let last : lf_count (front ++ come) + 1 ≡ new = omega arith in
        record {
          under = omega arith;
          low = omega arith;
          inside = omega (arith, length-logical_lines after);
          ordered = omega arith;
          within = omega (arith, length-logical_lines text);
          few = let few = parts.few in omega arith;
          made = λ width tab.
              ap₂ (λ (a b : ℕ). replaced (cuts_of width tab text) (cuts_before width tab text a) (cuts_before width tab text b)
              (cuts_of_lines width tab (slice_range (logical_lines after) a new))) (sym first) (sym past) ∙
              ap (λ (n : ℕ). replaced (cuts_of width tab text) (cuts_before width tab text (lf_count front)) (cuts_before width tab text (lf_count (front ++ gone) + 1))
              (cuts_of_lines width tab (slice_range (logical_lines after) (lf_count front) n))) (sym last) ∙
              cuts-edited width tab text after front gone come back parts.before result;
        }

-- the cuts of all lines are those of the text
pub all-lines : (width tab : ℕ) (text : List ℕ) (cuts : List Cut) (same : List ℕ) (many : ℕ) → many ≡ length (logical_lines text) →
    cuts ≡ cuts_of_lines width tab (slice_range (logical_lines text) 0 many) → same ≡ text → cuts ≡ cuts_of width tab same
all-lines width tab text cuts same many count is copy =
    let all : slice_range (logical_lines text) 0 many ≡ logical_lines text = take_all (many - 0) (logical_lines text) (omega (arith, count)) in
    is ∙ ap (cuts_of_lines width tab) all ∙ ap (cuts_of width tab) (sym copy)

-- THE CUTS AFTER AN EDIT, as a tree has them
pub edited-cuts : (units : UnitDelta) (text after : List ℕ) (from old new width tab : ℕ) (cuts come : List Cut) (first past : ℕ) →
    HasLines units text after from old new → HasCuts width tab text cuts → first ≡ cuts_before width tab text from → past ≡ cuts_before width tab text old →
    come ≡ cuts_of_lines width tab (slice_range (logical_lines after) from new) → replaced cuts first past come ≡ cuts_of width tab after
edited-cuts units text after from old new width tab cuts come first past lines has first_is past_is come_is =
    ap₂ (λ (a b : ℕ). replaced cuts a b come) first_is past_is ∙
    ap₂ (λ (xs ys : List Cut). replaced xs (cuts_before width tab text from) (cuts_before width tab text old) ys) has.are come_is ∙ lines.made width tab
