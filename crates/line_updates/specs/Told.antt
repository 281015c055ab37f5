-- What a front end is told of a layout, by the lines that it asks for and those that it has.
use Rattle.std.specs.Prelude.{ℕ, Bool, not, ◌&&◌, ◌||◌, ◌==◌, List, length, Option}
use Rattle.std.specs.List.{list_all, range_with_len}
use Rattle.plain_screen.specs.declared.screen.Line.{Line}
use Rattle.plain_screen.specs.declared.screen.Update.{Update}
use Rattle.plain_screen.specs.Plan.{planned_screen, update_plan}
use Rattle.subset_runs.specs.Subset.{contains}
use Rattle.line_cache.specs.Mirror.{valid_lines}
use Rattle.doc_layout.specs.declared.asked.Asked.{Asked}
use Rattle.doc_layout.specs.Told.{is_asked}

-- THE UPDATE: each line of the layout is kept, restyled, sent or left by the lines that are asked for and its partner, if that is valid
abbrev pub planned : Asked → List Line → List (Option (ℕ × Bool)) → Bool → Update
planned asked lines partners pristine = record { ops = update_plan asked.window asked.request lines partners; pristine = pristine }

-- THE LINES THAT A FRONT END HAS after it: a truth for each line of its screen
abbrev pub had_after : Asked → List Line → List (Option (ℕ × Bool)) → List Bool
had_after asked lines partners = valid_lines (planned_screen asked.window asked.request lines partners)

-- whether a screen has so many lines, and each of them that is asked for is valid
abbrev pub has_lines : List Bool → Asked → ℕ → Bool
has_lines had now len = length had == len && list_all (λ index. not (is_asked now index) || contains had index) (range_with_len 0 len)
