-- What the front end lacks after an event.
use Rattle.std.specs.Prelude.{◌≡◌, ℕ, ◌≤◌, Bool, true, false, not, ◌&&◌, ◌||◌, ◌==◌, if◌then◌else◌, List, length, take, Option, Some, None}
use Rattle.std.specs.Bool.{beq}
use Rattle.std.specs.List.{flat_map}
use Rattle.std.specs.Str.{bytes_eq}
use Rattle.std.specs.Cmp.Lexicographic.{pointwise}
use Rattle.plain_text.specs.declared.run.Run.{Run}
use Rattle.plain_text.specs.declared.selection.Region.{Region}
use Rattle.plain_screen.specs.declared.screen.Update.{Update}
use Rattle.plain_screen.specs.SameLayout.{is_same_layout}
use Rattle.span_runs.specs.Spans.{spans_in}
use Rattle.doc_layout.specs.declared.asked.Asked.{Asked}
use Rattle.doc_layout.specs.Told.{is_covered, planned}
use Rattle.doc_view.specs.declared.search.Search.{Search}
use Rattle.doc_view.specs.declared.told.Pristine.{Pristine}
use Rattle.doc_view.specs.declared.told.TextLeft.{TextLeft}
use Rattle.doc_view.specs.declared.told.TextLeft.TheVariants.{Same, Styled, Edited}
use Rattle.doc_view.specs.Search.{is_for_nothing}
use Rattle.doc_view.specs.View.{View, asked_in, layout_in}

-- whether two truths differ
abbrev pub differ : Bool → Bool → Bool
differ true truth = not truth
differ false truth = truth

-- whether the front end has of so many lines those that are asked for; before the first update it has none
abbrev pub has_lines : Option Asked → Asked → ℕ → Bool
has_lines None now len = false
has_lines (Some last) now len = is_covered last now len

abbrev pub has_asked : View → Run → Bool
has_asked view request = has_lines view.shown (asked_in view request) (length (layout_in view))

-- it lacks lines that are asked for, or another layout, or whether the text is pristine
abbrev pub is_lacking : View → View → Run → Pristine → Bool
is_lacking before after request pristine =
    not (has_asked after request) || (differ pristine.before pristine.after || not (is_same_layout (layout_in before) (layout_in after)))

-- left of a gap of the text both views have the same characters, and the same styles
pub record IsKeptLeftOf (gap : ℕ) (before after : View) : Type 0 where
  pub inside : gap ≤ length before.text
  pub characters : take gap before.text ≡ take gap after.text
  pub styled : (range : Run) → range.end ≤ gap → flat_map (spans_in range) before.layers ≡ flat_map (spans_in range) after.layers

-- the text and its styles are left so: where they are said to be the same they are
abbrev pub IsTextLeft : TextLeft → View → View → Type 0
IsTextLeft Same before after = (after.text ≡ before.text) × (after.layers ≡ before.layers)
IsTextLeft Styled before after = after.text ≡ before.text
IsTextLeft (Edited from) before after = IsKeptLeftOf from before after

-- what it is told
abbrev pub told : View → View → Run → Pristine → Option Update
told before after request pristine =
    if is_lacking before after request pristine then Some (planned (asked_in after request) (layout_in after) pristine.after) else None

-- and the view then: its front end has the lines that were asked for, or those that it had
abbrev pub settled_view : View → View → Run → Pristine → View
settled_view before after request pristine =
    if is_lacking before after request pristine then record after { shown = Some (asked_in after request) } else after

-- ---- layouts of one text that need no comparison

-- whether two regions have the same ends, and whether all of two selections have: a layout reads no more of them
abbrev pub has_same_ends : Region → Region → Bool
has_same_ends region other = region.anchor == other.anchor && region.caret == other.caret

abbrev pub are_same_ends : List Region → List Region → Bool
are_same_ends regions others = pointwise has_same_ends regions others

-- whether two searches are for the same characters, where case counts in both or in none, or there are none
abbrev pub is_same_search : Search → Search → Bool
is_same_search query other = bytes_eq query.chars other.chars && (is_for_nothing query || beq query.case_counts other.case_counts)

-- WHETHER ONE TEXT IS CUT ALIKE in two views, and the same looked for in it: with one tab width, one width and the same search
abbrev pub is_cut_alike : View → View → Bool
is_cut_alike before after =
    before.config.tab == after.config.tab && (before.config.width == after.config.width && is_same_search before.query after.query)
