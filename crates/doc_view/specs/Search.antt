-- SEARCH: what a view looks for, and which match a command selects.
use Rattle.std.specs.Prelude.{ℕ, Bool, true, false, not, if◌then◌else◌, nat_le, ◌==◌, List, [], ◌∷◌, length, Option, Some, None, slice_get}
use Rattle.std.specs.Option.{option_or, unwrap_or}
use Rattle.std.specs.List.{filter, find, last_or}
use Rattle.plain_text.specs.declared.run.Run.{Run}
use Rattle.plain_text.specs.declared.selection.Region.{Region}
use Rattle.find_core.specs.Matches.{matches_of}
use Rattle.match_index.specs.Found.{Found}
use Rattle.selection_core.specs.Selection.{greater_end, lesser_end}
use Rattle.doc_view.specs.declared.search.Search.{Search}

-- the search of a view that was just opened: no characters, and case counts
abbrev pub no_search : Search
no_search = record { chars = []; case_counts = true }

-- the search for other characters, where case counts, or does not, or counts as before
abbrev pub search_for : Search → List ℕ → Option Bool → Search
search_for query chars case_counts = record { chars = chars; case_counts = unwrap_or case_counts query.case_counts }

-- whether it is for no characters
abbrev pub is_for_nothing : Search → Bool
is_for_nothing query = length query.chars == 0

-- what it looks for in a text
abbrev pub found_at : List ℕ → Search → Found
found_at text query = record { text = text; chars = query.chars; fold = not query.case_counts }

-- THE RESULTS of a search in a text: all matches, in order
abbrev pub results : List ℕ → Search → List Run
results text query = matches_of text query.chars (not query.case_counts)

-- the greater end of the last region, and the lesser end of the first
abbrev pub end_of_regions : List Region → ℕ
end_of_regions [] = 0
end_of_regions (region ∷ []) = greater_end region
end_of_regions (region ∷ next ∷ regions) = end_of_regions (next ∷ regions)

abbrev pub start_of_regions : List Region → ℕ
start_of_regions [] = 0
start_of_regions (region ∷ regions) = lesser_end region

-- where it wraps around
abbrev pub if_wraps : Option Bool → Option Run → Option Run
if_wraps wrap_around run = if unwrap_or wrap_around false then run else None

-- THE NEXT MATCH: the first that starts not before the end of the regions, or else, where it wraps around, the first of all
abbrev pub next_match : List Run → Option Bool → List Region → Option Run
next_match matches wrap_around regions =
    option_or (find (λ run. nat_le (end_of_regions regions) run.start) matches) (if_wraps wrap_around (slice_get matches 0))

-- THE PREVIOUS MATCH: the last that ends not after the start of the regions, or else, where it wraps around, the last of all
abbrev pub previous_match : List Run → Option Bool → List Region → Option Run
previous_match matches wrap_around regions =
    option_or (last_or None (filter (λ run. nat_le run.end (start_of_regions regions)) matches))
    (if_wraps wrap_around (last_or None matches))

-- a match is selected, its caret at its end; where there is none the regions stay
abbrev pub with_match : List Region → Option Run → List Region
with_match regions None = regions
with_match regions (Some run) = (record { anchor = run.start; caret = run.end; goal = None }) ∷ []

-- the regions after a search forward and backward
abbrev pub next_found : List ℕ → Search → Option Bool → List Region → List Region
next_found text query wrap_around regions = with_match regions (next_match (results text query) wrap_around regions)

abbrev pub previous_found : List ℕ → Search → Option Bool → List Region → List Region
previous_found text query wrap_around regions = with_match regions (previous_match (results text query) wrap_around regions)
