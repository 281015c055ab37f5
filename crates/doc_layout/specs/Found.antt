-- What a search found in a text, as spans.
use Rattle.std.specs.Prelude.{◌≡◌, ℕ, ◌<◌, ◌≤◌, Bool, if◌then◌else◌, List, [], ◌∷◌, map, Some, None, ⊤}
use Rattle.std.specs.List.{list_any, range_with_len}
use Rattle.plain_text.specs.declared.run.Run.{Run}
use Rattle.plain_text.specs.declared.selection.Region.{Region}
use Rattle.plain_edits.specs.declared.style.Span.{Span}
use Rattle.plain_edits.specs.Styles.{Layer}
use Rattle.plain_screen.specs.Plan.{is_within}
use Rattle.selection_core.specs.Selection.{IsSelection}
use Rattle.match_index.specs.Found.{Found}
use Rattle.span_runs.specs.Spans.{spans_from}

-- whether the character with this index stands in a result of the search
abbrev pub is_found : List Run → ℕ → Bool
is_found results index = list_any (λ run. is_within run index) results

-- of so many characters, those that stand in results, as a layer: found characters have the id 1
abbrev pub found_layer : List Run → ℕ → Layer
found_layer results len = map (λ index. if is_found results index then Some 1 else None) (range_with_len 0 len)

-- WHAT THE SEARCH FOUND: the maximal runs of found characters
abbrev pub found_spans : List Run → ℕ → List Span
found_spans results len = spans_from 0 (found_layer results len)

-- results from a gap on lie in a text of this length: each has a character, and none begins before the one before it ends
abbrev pub RiseApart : ℕ → ℕ → List Run → Type 0
RiseApart len from [] = ⊤
RiseApart len from (run ∷ results) = (from ≤ run.start) × (run.start < run.end) × (run.end ≤ len) × RiseApart len run.end results

-- what may be shown on a text: regions that are a selection, and what a search found in that text
pub record MayShow (text : List ℕ) (regions : List Region) (results : Found) : Type 0 where
  pub selection : IsSelection regions
  pub searched : results.text ≡ text
