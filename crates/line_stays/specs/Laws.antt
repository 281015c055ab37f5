-- Laws of layouts, of all texts, however their lines are cut and whatever is drawn of them.
use Rattle.std.specs.Prelude.{◌≡◌, ◌≢◌, ℕ, ◌+◌, ◌<◌, Bool, true, ◌||◌, List, ◌++◌, length, map, Option, Some, option_map, slice_get}
use Rattle.plain_text.specs.declared.run.Run.{Run}
use Rattle.std.specs.List.{AllByRecursion}
use Rattle.plain_text.specs.Lines.{logical_lines}
use Rattle.plain_screen.specs.declared.piece.Piece.{Piece}
use Rattle.plain_screen.specs.declared.screen.Line.{Line}
use Rattle.plain_screen.specs.Plan.{AreNumberedFrom, is_within, partner_at, planned_screen}
use Rattle.plain_screen.specs.Touched.{TouchesNoOthers, by_logical_lines, counterpart, first_of, partners_of, touched_by_text}
use Rattle.plain_screen.specs.View.{AreEnds}
use Rattle.line_stays.specs.Drawn.{IsDrawnOf, drawn_by, lines_between}
use Rattle.line_stays.specs.Partners.{partner_in}
use Rattle.line_stays.specs.Parts.{HaveParts, RiseAbove}

-- a rule says where each logical line of a text is cut
abbrev pub CutsLines : (List ℕ → List ℕ) → List ℕ → Type 0
CutsLines ends_of text = AllByRecursion (λ line. AreEnds (length line) (ends_of line)) (logical_lines text)

-- a layout has as many logical lines as its text
abbrev pub LayoutsHaveLines : Type 0
LayoutsHaveLines = (ends_of : List ℕ → List ℕ) (text : List ℕ) (draw : Piece → Line) → CutsLines ends_of text → IsDrawnOf text draw →
    length (by_logical_lines (drawn_by ends_of draw text)) ≡ length (logical_lines text)

-- its lines are numbered from 1
abbrev pub LayoutsAreNumbered : Type 0
LayoutsAreNumbered = (ends_of : List ℕ → List ℕ) (text : List ℕ) (draw : Piece → Line) → CutsLines ends_of text → IsDrawnOf text draw →
    AreNumberedFrom 1 (drawn_by ends_of draw text)

-- AN EDIT TOUCHES BY TEXT the logical lines from that of its first gap to that of its last: each other one is cut as its counterpart is, and has
-- its text
abbrev pub LayoutsAreTouched : Type 0
LayoutsAreTouched = (ends_of : List ℕ → List ℕ) (front gone come back : List ℕ) (draw other : Piece → Line) →
    CutsLines ends_of (front ++ (gone ++ back)) → CutsLines ends_of (front ++ (come ++ back)) → IsDrawnOf (front ++ (gone ++ back)) draw → IsDrawnOf (front ++ (come ++ back)) other →
    TouchesNoOthers (lines_between front come) (drawn_by ends_of draw (front ++ (gone ++ back))) (drawn_by ends_of other (front ++ (come ++ back)))

-- where the text is the same none is touched by text
abbrev pub TextsTouchNone : Type 0
TextsTouchNone = (ends_of : List ℕ → List ℕ) (text : List ℕ) (draw other : Piece → Line) → CutsLines ends_of text → IsDrawnOf text draw → IsDrawnOf text other →
    TouchesNoOthers (record { start = 0; end = 0 }) (drawn_by ends_of draw text) (drawn_by ends_of other text)

-- THE SCREEN OF A PLAN shows the layout: it has as many lines, each that is valid is the line of the layout, and each line of the window and each
-- that is requested is valid
pub record PlannedScreensShow : Type 0 where
  pub length : (window request : Run) (lines : List Line) (partners : List (Option (ℕ × Bool))) →
      length (planned_screen window request lines partners) ≡ length lines
  pub equal : (window request : Run) (lines : List Line) (partners : List (Option (ℕ × Bool))) (index : ℕ) (line : Line) →
      slice_get (planned_screen window request lines partners) index ≡ Some (Some line) → slice_get lines index ≡ Some line
  pub valid : (window request : Run) (lines : List Line) (partners : List (Option (ℕ × Bool))) (index : ℕ) →
      (is_within window index || is_within request index) ≡ true →
      slice_get (planned_screen window request lines partners) index ≡ option_map Some (slice_get lines index)

-- two rising lists that are others are one up to where they begin to differ, and one from where they do no more; neither reaches into the other. So the
-- characters that two revisions show, by their places, are a front, what goes or comes, and a back
abbrev pub RisingListsHaveParts : Type 0
RisingListsHaveParts = (xs ys : List ℕ) → RiseAbove 0 xs → RiseAbove 0 ys → xs ≢ ys → HaveParts xs ys

-- A REVISION TOUCHES BY TEXT the logical lines that `touched_by_text` says, and no others, where the characters that are shown before and after are named
-- by numbers that rise, as their places among all characters do
abbrev pub RevisionsTouchLines : Type 0
RevisionsTouchLines = (ends_of : List ℕ → List ℕ) (char : ℕ → ℕ) (xs ys : List ℕ) (draw other : Piece → Line) → RiseAbove 0 xs → RiseAbove 0 ys →
    CutsLines ends_of (map char xs) → CutsLines ends_of (map char ys) → IsDrawnOf (map char xs) draw → IsDrawnOf (map char ys) other →
    TouchesNoOthers (touched_by_text xs ys (map char ys)) (drawn_by ends_of draw (map char xs)) (drawn_by ends_of other (map char ys))

-- the partner of each line of a layout is the line at its place in the counterpart of its logical line, if that has one, and tells whether the logical line is
-- not touched
abbrev pub PartnersAreCounterparts : Type 0
PartnersAreCounterparts = (touched : Run) (before after : List Line) (index place : ℕ) (lines : List Line) →
    slice_get (by_logical_lines after) index ≡ Some lines → place < length lines →
    partner_at (partners_of touched before after) (first_of (by_logical_lines after) index + place) ≡
    partner_in (by_logical_lines before) (counterpart touched (length (by_logical_lines before)) (length (by_logical_lines after)) index) lines place
