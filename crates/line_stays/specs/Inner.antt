-- Flags of gaps, where two texts are shown alike, and lines that stay.
use Rattle.std.specs.Prelude.{◌≡◌, ℕ, ◌+◌, ◌-◌, ◌<◌, ◌≤◌, max, min, Bool, true, false, List, ◌++◌, length, map, replicate, take, drop, slice_get, is_some, Option, Some}
use Rattle.std.specs.List.{range_with_len}
use Rattle.std.specs.Cmp.Lexicographic.{pointwise}
use Rattle.plain_text.specs.declared.run.Run.{Run}
use Rattle.plain_text.specs.declared.selection.Region.{Region}
use Rattle.plain_text.specs.Numbers.{has}
use Rattle.plain_edits.specs.Styles.{Layer}
use Rattle.plain_screen.specs.declared.piece.Piece.{Piece}
use Rattle.plain_screen.specs.declared.screen.Line.{Line}
use Rattle.plain_screen.specs.Touched.{is_same_but_number}
use Rattle.plain_screen.specs.View.{layout_line_of, start_of}
use Rattle.subset_runs.specs.Subset.{contains}
use Rattle.line_cache.specs.Stays.{AreStaysFrom, if_true, partner_by}
use Rattle.line_cache.specs.declared.stay.Stay.{Stay}
use Rattle.line_render.specs.Rendered.{carets_of, is_last_piece, is_selected, text_of_piece}
use Rattle.doc_layout.specs.Found.{is_found}
use Rattle.doc_layout.specs.Laws.{own_spans}
use Rattle.line_stays.specs.Change.{may_differ}
use Rattle.line_stays.specs.declared.change.Change.{Change}
use Rattle.line_stays.specs.Edges.{first_piece, past_piece}

-- ---- flags of so many gaps, or characters, from one on

-- those that pass a test
abbrev pub flags_by : (ℕ → Bool) → ℕ → ℕ → List Bool
flags_by test from n = map (λ k. test (from + k)) (range_with_len 0 n)

-- flags with a run behind them, as far as it reaches from there, and what stands between them
abbrev pub reach_within : ℕ → ℕ → ℕ → ℕ
reach_within from n gap = min (gap - from) n

abbrev pub with_run : ℕ → ℕ → ℕ → ℕ → List Bool → List Bool
with_run from n start end flags =
    (flags ++ replicate (reach_within from n start - length flags) false) ++ replicate (reach_within from n end - max (reach_within from n start) (length flags)) true

-- ---- what is shown on two texts

-- at a gap of the one and at a gap of the other the same is shown: a caret or none, and of the characters right of them both are selected, or none, and both
-- are found, or none
pub record AreAlikeAt (regions others : List Region) (results founds : List Run) (old new : ℕ) : Type 0 where
  pub carets : has (carets_of regions) old ≡ has (carets_of others) new
  pub selected : is_selected regions old ≡ is_selected others new
  pub found : is_found results old ≡ is_found founds new

-- ---- parts of two texts

-- two pieces have the same characters, a number or none, and both or none are the last of their texts; the one stands as far from `near` as the other from `far`
pub record AreTwins (text other : List ℕ) (near far : ℕ) (piece twin : Piece) : Type 0 where
  pub characters : text_of_piece text piece ≡ text_of_piece other twin
  pub numbered : is_some piece.ln ≡ is_some twin.ln
  pub last : is_last_piece text piece ≡ is_last_piece other twin
  pub starts : piece.start + far ≡ twin.start + near
  pub ends : piece.end + far ≡ twin.end + near

-- so many pieces from `old` on are those of whole logical lines
abbrev pub AreWhole : List ℕ → List Piece → ℕ → ℕ → Type 0
AreWhole text pieces old n = (x : ℕ) → old ≤ x → x < old + n → (old ≤ first_piece text pieces x) × (past_piece pieces x ≤ old + n)

-- so many pieces of the one text from `old` on, and of the other from `new` on: whole logical lines, and piece by piece the same
pub record IsSharedPart (text other : List ℕ) (pieces parts : List Piece) (old new n : ℕ) : Type 0 where
  pub inside : old + n ≤ length pieces
  pub too : new + n ≤ length parts
  pub whole : AreWhole text pieces old n
  pub near : ℕ
  pub far : ℕ
  pub twins : (k : ℕ) (piece twin : Piece) → k < n → slice_get pieces (old + k) ≡ Some piece → slice_get parts (new + k) ≡ Some twin →
      AreTwins text other near far piece twin

-- those of their characters that have no others by a change have the same styles, as spans
abbrev pub AreStyledAlike : Change → List Piece → List Piece → List Layer → List Layer → ℕ → ℕ → ℕ → Type 0
AreStyledAlike change pieces parts layers styles old new n = (k : ℕ) (piece twin : Piece) → k < n → slice_get pieces (old + k) ≡ Some piece →
    slice_get parts (new + k) ≡ Some twin → ((i : ℕ) → piece.start ≤ i → i < piece.end → may_differ change i ≡ false) →
    own_spans layers piece ≡ own_spans styles twin

-- ---- lines that stay

-- whether the lines of one layout from `first` to `past` are those of another, but for their numbers, where the lines from `old` on stand from `new` on there
abbrev pub are_same_lines : List Line → List Line → ℕ → ℕ → ℕ → ℕ → Bool
are_same_lines before after old new first past =
    pointwise is_same_but_number (take (past - first) (drop first before)) (take (past - first) (drop (new + (first - old)) after))

-- whether the logical line that a piece is of has the same lines on both
abbrev pub is_same_logical : List ℕ → List Piece → List Line → List Line → ℕ → ℕ → ℕ → Bool
is_same_logical text pieces before after old new x = are_same_lines before after old new (first_piece text pieces x) (past_piece pieces x)

-- THE PARTNERS of so many lines are those from `old` on, one after the other, each with what is said of it
abbrev pub ArePartnersIn : (ℕ → Bool) → ℕ → ℕ → ℕ → (ℕ → Option (ℕ × Bool)) → Type 0
ArePartnersIn same old new n partner = (k : ℕ) → k < n → partner (new + k) ≡ Some (old + k, same (old + k))

-- the stays so far are of so many old and new lines, and of each of these new lines they say the partner that it has, where that is valid
pub record SayPartners (had : List Bool) (partner : ℕ → Option (ℕ × Bool)) (old new : ℕ) (stays : List Stay) : Type 0 where
  pub among : AreStaysFrom 0 0 old new stays
  pub right : (index : ℕ) → index < new → if_true had (partner_by stays index) ≡ if_true had (partner index)

-- ---- marks

-- no mark stands at a gap of the logical line that a piece is of; the first one is that of the gap `start`
abbrev pub IsUnmarked : List ℕ → List Piece → List Bool → ℕ → ℕ → Type 0
IsUnmarked text pieces marks start x = (k : ℕ) → k < length marks → first_piece text pieces x ≤ layout_line_of pieces (start + k) →
    layout_line_of pieces (start + k) < past_piece pieces x → contains marks k ≡ false

-- each of so many pieces ends before the last of so many gaps, counted from the start of the first of them
abbrev pub EndBefore : List Piece → ℕ → ℕ → ℕ → Type 0
EndBefore pieces old n gaps = (x : ℕ) (piece : Piece) → old ≤ x → x < old + n → slice_get pieces x ≡ Some piece → piece.end < start_of pieces old + gaps
