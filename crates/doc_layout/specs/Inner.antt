-- What private functions say: a piece of a text, lines that are asked for, and an update in the making.
use Rattle.std.specs.Prelude.{◌≡◌, ℕ, ◌<◌, ◌≤◌, Bool, true, false, not, ◌||◌, List, [], ◌∷◌, length}
use Rattle.std.specs.List.{list_all, range_with_len}
use Rattle.plain_text.specs.declared.run.Run.{Run}
use Rattle.plain_text.specs.declared.selection.Region.{Region}
use Rattle.plain_edits.specs.declared.style.Span.{Span}
use Rattle.plain_screen.specs.declared.piece.Piece.{Piece}
use Rattle.plain_screen.specs.declared.screen.Line.{Line}
use Rattle.plain_screen.specs.declared.screen.Op.{Op}
use Rattle.plain_screen.specs.declared.screen.Op.TheVariants.{Invalidate, Ins}
use Rattle.plain_screen.specs.Plan.{is_within}
use Rattle.line_render.specs.Rendered.{rendered, rendered_piece, text_of_piece}
use Rattle.line_render.specs.Inner.{onto_run}
use Rattle.doc_layout.specs.declared.asked.Asked.{Asked}
use Rattle.doc_layout.specs.Told.{is_asked}

-- the piece lies in the text, and is the last one or not, so that it is rendered from its own characters as from the whole text
pub record IsPieceIn (text : List ℕ) (piece : Piece) (is_last : Bool) : Type 0 where
  pub ordered : piece.start ≤ piece.end
  pub inside : piece.end ≤ length text
  pub alike : (regions : List Region) (spans : List Span) →
      rendered text piece regions spans ≡ rendered_piece (text_of_piece text piece) piece is_last regions spans

-- ---- what a search found

-- results as spans, where those that touch are one
abbrev pub joined_spans : List Run → List Span
joined_spans [] = []
joined_spans (run ∷ results) = onto_run 1 run (joined_spans results)

-- ---- lines that are asked for

-- lines from one on up to an end are all asked for as it is, or all not, and the line at the end, where there is one, is not so
pub record IsStretch (asked : Asked) (start end len : ℕ) : Type 0 where
  pub some : start < end
  pub inside : end ≤ len
  pub alike : (index : ℕ) → start ≤ index → index < end → is_asked asked index ≡ is_asked asked start
  pub ends : end < len → is_asked asked end ≡ not (is_asked asked start)

-- the lines up to an end are asked for, and the line there is not
pub record IsReach (asked : Asked) (start end : ℕ) : Type 0 where
  pub some : start < end
  pub all : (index : ℕ) → start ≤ index → index < end → is_asked asked index ≡ true
  pub ends : is_asked asked end ≡ false

-- the lines up to an end are not asked for, and the line there, where there is one, is
pub record IsOthersEnd (asked : Asked) (start end len : ℕ) : Type 0 where
  pub some : start < end
  pub inside : end ≤ len
  pub none : (index : ℕ) → start ≤ index → index < end → is_asked asked index ≡ false
  pub ends : end < len → is_asked asked end ≡ true

-- the same of one run
pub record IsNextStart (run : Run) (start end len : ℕ) : Type 0 where
  pub some : start < end
  pub inside : end ≤ len
  pub none : (index : ℕ) → start ≤ index → index < end → is_within run index ≡ false
  pub ends : end < len → is_within run end ≡ true

-- whether of so many lines each of the run is asked for
abbrev pub is_run_covered : Asked → Run → ℕ → Bool
is_run_covered asked run len = list_all (λ index. not (is_within run index) || is_asked asked index) (range_with_len 0 len)

-- ---- an update in the making

-- what tells of lines that are all asked for, or all not
abbrev pub stretch_op : Bool → List Line → Op
stretch_op true lines = Ins lines
stretch_op false lines = Invalidate (length lines)
