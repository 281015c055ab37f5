-- The table of the lines of a script, by their kinds.
use Rattle.std.specs.Prelude.{◌≡◌, ℕ, ◌+◌, ◌-◌, Bool, nat_lt, List, [], ◌∷◌, map, codes, string_bytes, if◌then◌else◌}
use Rattle.std.specs.List.{filter}
use Rattle.std.specs.Str.{bytes_eq}
use Rattle.std.specs.Str.Lines.{lines}
use Rattle.session_load.specs.declared.table.Row.{Row}
use Rattle.session_load.specs.declared.table.Table.{Table}
use Rattle.session_load.specs.declared.table.Written.{Written}
use Rattle.session_load.specs.Count.{Counts, no_pieces, counted_piece, counts_of}
use Rattle.session_load.specs.Kind.{kind_of}

-- A LINE that was entered: its kind, and what it made the core write
pub record Line : Type 0 where
  pub kind : List ℕ
  pub written : Written

-- A ROW: a kind, how many lines it has, and what their pieces came to
pub record Tally : Type 0 where
  pub kind : List ℕ
  pub lines : ℕ
  pub counts : Counts

-- a row in memory is of this kind
abbrev pub is_of : List ℕ → Row → Bool
is_of kind row = bytes_eq (string_bytes row.kind) kind

-- the row of a kind that no line has yet
abbrev pub no_lines : List ℕ → Tally
no_lines kind = record { kind = kind; lines = 0; counts = no_pieces }

-- with what a line wrote, which may be nothing
abbrev pub with_written : Counts → Written → Counts
with_written counts written = if nat_lt 0 written.len then counted_piece counts written.len written.is_refusal else counts

-- with one line more
abbrev pub with_line : Tally → Written → Tally
with_line row written = record row { lines = row.lines + 1; counts = with_written row.counts written }

-- THE ROWS WITH ONE LINE MORE: it is counted in the row of its kind, which is new and the last where it is the first line of that kind
abbrev pub rows_with : List Tally → Line → List Tally
rows_with [] line = with_line (no_lines line.kind) line.written ∷ []
rows_with (row ∷ rows) line = if bytes_eq row.kind line.kind then with_line row line.written ∷ rows else row ∷ rows_with rows line

-- A TABLE: its rows, and the row of all lines
pub record Tallies : Type 0 where
  pub rows : List Tally
  pub all : Tally

abbrev pub no_rows : Tallies
no_rows = record { rows = []; all = no_lines (codes "all") }

abbrev pub table_with : Tallies → Line → Tallies
table_with table line = record { rows = rows_with table.rows line; all = with_line table.all line.written }

-- the table with these lines more, one after the other
abbrev pub table_after : Tallies → List Line → Tallies
table_after table [] = table
table_after table (line ∷ lines) = table_after (table_with table line) lines

-- the row of a kind; it has no lines where there is none
abbrev pub row_of : List ℕ → List Tally → Tally
row_of kind [] = no_lines kind
row_of kind (row ∷ rows) = if bytes_eq row.kind kind then row else row_of kind rows

-- the row with these lines more
abbrev pub row_after : Tally → List Line → Tally
row_after row [] = row
row_after row (line ∷ lines) = row_after (with_line row line.written) lines

-- the lines of a kind
abbrev pub of_kind : List ℕ → List Line → List Line
of_kind kind entered = filter (λ line. bytes_eq line.kind kind) entered

-- what a row and a table in memory say
abbrev pub tally_of : Row → Tally
tally_of row = record { kind = string_bytes row.kind; lines = row.lines; counts = counts_of row.count }

abbrev pub tallies_of : Table → Tallies
tallies_of table = record { rows = map tally_of table.rows.items; all = tally_of table.all }

-- what a line wrote, where these are the counts before it and after it
abbrev pub written_between : Counts → Counts → Written
written_between before after = record { len = after.bytes - before.bytes; is_refusal = nat_lt before.refusals after.refusals }

-- the lines were entered one after the other, and each wrote what was counted meanwhile
abbrev pub WereEntered : Counts → List Line → Counts → Type 0
WereEntered before [] after = before ≡ after
WereEntered before (line ∷ lines) after = (next : Counts) × (line.written ≡ written_between before next) × WereEntered next lines after

-- THE TABLE OF LINES of a script: these were entered, of the kinds of those in their order, and it counts each in the row of its kind. So
-- the row of a kind is that of the lines of this kind alone, and the last row that of all
pub record IsTableOf (script : List (List ℕ)) (before after : Counts) (table : Tallies) : Type 0 where
  pub entered : List Line
  pub kinds : map (λ line. line.kind) entered ≡ map kind_of script
  pub written : WereEntered before entered after
  pub counted : table ≡ table_after no_rows entered
  pub by_kind : (kind : List ℕ) → row_of kind table.rows ≡ row_after (no_lines kind) (of_kind kind entered)
  pub all : table.all ≡ row_after (no_lines (codes "all")) entered

-- the table of the lines of this text, between some counts
abbrev pub IsTable : List ℕ → Tallies → Type 0
IsTable script table = (before : Counts) × (after : Counts) × IsTableOf (lines script) before after table
