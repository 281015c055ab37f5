-- What private functions say: what a view keeps.
use Rattle.std.specs.Prelude.{◌≡◌, ℕ, zero, suc, ◌<◌, ◌≤◌, min, Bool, true, not, ◌&&◌, ◌||◌, ◌==◌, if◌then◌else◌, List, [], ◌∷◌, length, take, Option, None, Some, option_map, slice_get}
use Rattle.std.specs.List.{flat_map, list_any}
use Rattle.std.specs.Option.{is_some}
use Rattle.std.specs.Str.{all_scalars}
use Rattle.plain_text.specs.declared.run.Run.{Run}
use Rattle.plain_text.specs.declared.selection.Region.{Region}
use Rattle.plain_text.specs.Numbers.{has}
use Rattle.plain_edits.specs.declared.delta.Added.{Added}
use Rattle.xi_plain.specs.declared.config.Config.{Config}
use Rattle.plain_screen.specs.View.{layout_line_of, line_under}
use Rattle.line_index.specs.Index.{Index}
use Rattle.span_runs.specs.Spans.{spans_in}
use Rattle.line_render.specs.Rendered.{carets_of, is_selected}
use Rattle.selection_core.specs.Mapped.{AreWithin}
use Rattle.selection_core.specs.Selection.{IsSelection, last_caret, lesser_end}
use Rattle.match_index.specs.Found.{Found}
use Rattle.doc_layout.specs.Found.{is_found}
use Rattle.doc_view.specs.declared.search.Search.{Search}
use Rattle.doc_view.specs.Search.{found_at, results}
use Rattle.doc_view.specs.Told.{are_same_ends}
use Rattle.doc_view.specs.View.{View, pieces_in}

-- the index of a text for a configuration
abbrev pub index_at : List ℕ → Config → Index
index_at text config = record { text = text; width = config.width; tab = config.tab }

-- the index is that of a text of characters for this configuration, which has a tab width
pub record IsIndexKept (config : Config) (index : Index) : Type 0 where
  pub characters : all_scalars index.text ≡ true
  pub tab : 0 < config.tab
  pub is : index ≡ index_at index.text config

-- so it is, what was found is all that is looked for, and the regions are a selection in the text
pub record IsViewKept (config : Config) (index : Index) (regions : List Region) (query : Search) (found : Found) : Type 0 where
  pub text : IsIndexKept config index
  pub found_are : found ≡ found_at index.text query
  pub sound : IsSelection regions
  pub inside : AreWithin (length index.text) regions

-- whether one of the regions has a goal
abbrev pub has_goal : List Region → Bool
has_goal regions = list_any (λ region. is_some region.goal) regions

-- ---- layouts that are told apart without a line

-- whether the last caret of others, where there is one, is a caret of these regions
abbrev pub has_last_caret : List Region → List Region → Bool
has_last_caret regions [] = true
has_last_caret regions (other ∷ others) = has (carets_of regions) (last_caret (other ∷ others))

-- the text has another length, or the last caret of one view is no caret of the other
abbrev pub is_told_apart : View → View → Bool
is_told_apart before after =
    not (length before.text == length after.text) ||
    (not (has_last_caret before.regions after.regions) || not (has_last_caret after.regions before.regions))

-- ---- where what is shown on one text begins to differ

-- where the region with an index starts, if there is one
abbrev pub start_at : List Region → ℕ → Option ℕ
start_at regions index = option_map lesser_end (slice_get regions index)

-- the lesser of two gaps, of which there may be one, or none
abbrev pub earlier : Option ℕ → Option ℕ → Option ℕ
earlier None other = other
earlier (Some gap) None = Some gap
earlier (Some gap) (Some at) = Some (min gap at)

-- left of a gap the carets of two selections are the same, and the selected characters
pub record AreAlikeLeftOf (at : ℕ) (regions others : List Region) : Type 0 where
  pub carets : (gap : ℕ) → gap < at → has (carets_of regions) gap ≡ has (carets_of others) gap
  pub selected : (index : ℕ) → index < at → is_selected regions index ≡ is_selected others index

-- the ends of two selections are the same where no gap is named, and else they are alike left of it
abbrev pub AreEndsApart : Option ℕ → List Region → List Region → Type 0
AreEndsApart None regions others = are_same_ends regions others ≡ true
AreEndsApart (Some at) regions others = AreAlikeLeftOf at regions others

-- what two views show on one text beside its characters is the same where no gap is named, and else it is alike left of it
abbrev pub IsShownApart : Option ℕ → View → View → Type 0
IsShownApart None before after = (are_same_ends before.regions after.regions ≡ true) × (before.layers ≡ after.layers)
IsShownApart (Some at) before after =
    AreAlikeLeftOf at before.regions after.regions ×
    ((range : Run) → range.end ≤ at → flat_map (spans_in range) before.layers ≡ flat_map (spans_in range) after.layers)

-- where a run starts, if there is one; and two runs as one, where they are that
abbrev pub start_of_run : Option Run → Option ℕ
start_of_run found = option_map (λ run. run.start) found

abbrev pub shared_run : Option Run → Option Run → Option Run
shared_run None other = None
shared_run (Some run) None = None
shared_run (Some run) (Some other) = if run.start == other.start && run.end == other.end then Some run else None

-- two searches find the same matches where no gap is named, and else they find the same characters left of it
abbrev pub AreFoundApart : Option ℕ → List Run → List Run → Type 0
AreFoundApart None runs others = runs ≡ others
AreFoundApart (Some gap) runs others = (index : ℕ) → index < gap → is_found runs index ≡ is_found others index

-- the line of the character left of a gap; the first one where there is none
abbrev pub line_left_of : View → ℕ → ℕ
line_left_of view zero = 0
line_left_of view (suc gap) = layout_line_of (pieces_in view) gap

-- ---- where two texts begin to be shown otherwise

-- left of a gap two views show the same
pub record AreAlikeViews (gap : ℕ) (before after : View) : Type 0 where
  pub characters : take gap before.text ≡ take gap after.text
  pub regions : AreAlikeLeftOf gap before.regions after.regions
  pub found : (index : ℕ) → index < gap → is_found (results before.text before.query) index ≡ is_found (results after.text after.query) index
  pub styled : (range : Run) → range.end ≤ gap → flat_map (spans_in range) before.layers ≡ flat_map (spans_in range) after.layers

-- the first line of the logical line that has the character left of a gap; the first of all where there is none
abbrev pub first_line_left_of : View → ℕ → ℕ
first_line_left_of view zero = 0
first_line_left_of view (suc gap) =
    layout_line_of (pieces_in view) (line_under view.text (pieces_in view) (layout_line_of (pieces_in view) gap)).start

-- where the first of some runs ends, if it starts at the start, and the gap of the first addition, if there is one
abbrev pub first_end : List Run → ℕ
first_end [] = 0
first_end (run ∷ runs) = if run.start == 0 then run.end else 0

abbrev pub first_gap : ℕ → List Added → ℕ
first_gap base [] = base
first_gap base (added ∷ adds) = added.gap

-- ---- edits that do nothing

-- whether the first run that an edit keeps is its whole text; where it keeps none, the text is empty
abbrev pub is_whole_run : ℕ → List Run → Bool
is_whole_run base [] = base == 0
is_whole_run base (run ∷ runs) = run.start == 0 && run.end == base
