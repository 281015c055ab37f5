-- What a front end is told of a layout: the lines that it asks for, and a place to scroll to.
use Rattle.std.specs.Prelude.{ℕ, Bool, not, ◌&&◌, ◌||◌, if◌then◌else◌, ◌==◌, List, [], Option, Some, None}
use Rattle.std.specs.List.{list_all, range_with_len}
use Rattle.plain_text.specs.declared.run.Run.{Run}
use Rattle.plain_screen.specs.declared.screen.Line.{Line}
use Rattle.plain_screen.specs.declared.screen.Update.{Update}
use Rattle.plain_screen.specs.Plan.{is_within, shown_lines, update_plan}
use Rattle.plain_screen.specs.Screen.{Screen}
use Rattle.doc_layout.specs.declared.asked.Asked.{Asked}
use Rattle.doc_layout.specs.Layout.{Position}

-- the request of an entry that requests no lines
abbrev pub no_request : Run
no_request = record { start = 0; end = 0 }

-- whether the line with this index is asked for: it is in the window, or requested
abbrev pub is_asked : Asked → ℕ → Bool
is_asked asked index = is_within asked.window index || is_within asked.request index

-- the update that sends the lines that are asked for and leaves the others invalid
abbrev pub planned : Asked → List Line → Bool → Update
planned asked lines pristine = record { ops = update_plan asked.window asked.request lines []; pristine = pristine }

-- the screen after it: the lines that were asked for; it is empty where there was no update
abbrev pub screen_of : Option Asked → List Line → Screen
screen_of None lines = []
screen_of (Some asked) lines = shown_lines asked.window asked.request lines

-- whether of so many lines each that is asked for now was asked for at the last update
abbrev pub is_covered : Asked → Asked → ℕ → Bool
is_covered last now len = list_all (λ index. not (is_asked now index) || is_asked last index) (range_with_len 0 len)

-- whether two places are the same, by line and byte column
abbrev pub is_same_point : Position → Position → Bool
is_same_point before after = before.line == after.line && before.col == after.col

-- the place to scroll to, where it is another than before
abbrev pub scroll_between : Position → Position → Option Position
scroll_between was now = if is_same_point was now then None else Some now
