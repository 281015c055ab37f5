-- Laws of cuts, of all texts.
use Rattle.std.specs.Prelude.{◌≡◌, ℕ, ◌+◌, true, List, [], ◌++◌, length, take, drop, slice_range}
use Rattle.std.specs.Str.{all_scalars}
use Rattle.plain_text.specs.Lines.{logical_lines}
use Rattle.plain_screen.specs.View.{whole_lines}
use Rattle.line_break.specs.Pieces.{wrapped_pieces}
use Rattle.line_index.specs.Cuts.{cuts_of, cuts_of_lines, firsts, full_lines, open_line, pieces_at, span}
use Rattle.rope_metrics.specs.Measure.{IsCut}
use Rattle.rope_node.specs.Lengths.{lf_count}
use Rattle.rope_metrics.specs.declared.measure.Measure.TheVariants.{Lines}
use Rattle.line_index.specs.declared.cut.Cut.{Cut}

-- the cuts of a text say its pieces, for each width
abbrev pub CutsSayPieces : Type 0
CutsSayPieces = (width tab : ℕ) (text : List ℕ) → all_scalars text ≡ true → pieces_at 1 0 (cuts_of width tab text) ≡ wrapped_pieces width tab text

-- with width 0 the pieces are the logical lines
abbrev pub WidthZeroCutsNothing : Type 0
WidthZeroCutsNothing = (tab : ℕ) (text : List ℕ) → wrapped_pieces 0 tab text ≡ whole_lines text

-- where front and middle are empty or end with LF, the cuts are those of the lines of the front, then of the middle, then of the rest
abbrev pub EditsLeaveOtherLines : Type 0
EditsLeaveOtherLines = (width tab : ℕ) (front middle rest : List ℕ) → open_line front ≡ [] → open_line middle ≡ [] →
    cuts_of width tab (front ++ (middle ++ rest)) ≡
    cuts_of_lines width tab (full_lines front) ++ (cuts_of_lines width tab (full_lines middle) ++ cuts_of width tab rest)

-- pieces from some cut on need no more of what stands before than its lines and its characters
abbrev pub PiecesGoOn : Type 0
PiecesGoOn = (number start : ℕ) (cuts others : List Cut) →
    pieces_at number start (cuts ++ others) ≡ pieces_at number start cuts ++ pieces_at (number + firsts cuts) (start + span cuts) others

-- the front of a text up to the first gap with so many LFs left of it is empty or ends with LF, and has as many lines
abbrev pub FeedsEndLines : Type 0
FeedsEndLines = (text front back : List ℕ) (count : ℕ) → IsCut Lines text count front back →
    (open_line front ≡ []) × (length (full_lines front) ≡ count)

-- the cuts after an edit are those before it with the cuts of the touched lines replaced; and where the last line is touched, all from the
-- first touched line on are replaced
pub record EditsReplaceCuts (width tab : ℕ) (front gone come rest : List ℕ) : Type 0 where
  pub inside : open_line gone ≡ [] → open_line come ≡ [] →
      cuts_of width tab (front ++ (come ++ rest)) ≡
      take (length (cuts_of_lines width tab (full_lines front))) (cuts_of width tab (front ++ (gone ++ rest))) ++
      (cuts_of_lines width tab (full_lines come) ++
      drop (length (cuts_of_lines width tab (full_lines front)) + length (cuts_of_lines width tab (full_lines gone))) (cuts_of width tab (front ++ (gone ++ rest))))
  pub at_end : cuts_of width tab (front ++ come) ≡
      take (length (cuts_of_lines width tab (full_lines front))) (cuts_of width tab (front ++ gone)) ++ cuts_of width tab come

-- the same of all edits behind a front that is empty or ends with LF
abbrev pub EditsReplace : Type 0
EditsReplace = (width tab : ℕ) (front gone come rest : List ℕ) → open_line front ≡ [] → EditsReplaceCuts width tab front gone come rest

-- an edit touches the logical lines from that of its first gap to that of its last: the cuts of all others stay
abbrev pub EditTouches : ℕ → ℕ → List ℕ → List ℕ → List ℕ → List ℕ → Type 0
EditTouches width tab front gone come back =
    cuts_of width tab (front ++ (come ++ back)) ≡
    cuts_of_lines width tab (take (lf_count front) (logical_lines (front ++ (gone ++ back)))) ++
    (cuts_of_lines width tab (slice_range (logical_lines (front ++ (come ++ back))) (lf_count front) (lf_count (front ++ come) + 1)) ++
    cuts_of_lines width tab (drop (lf_count (front ++ gone) + 1) (logical_lines (front ++ (gone ++ back)))))

-- the same of all edits
abbrev pub EditsTouchLines : Type 0
EditsTouchLines = (width tab : ℕ) (front gone come back : List ℕ) → EditTouches width tab front gone come back
