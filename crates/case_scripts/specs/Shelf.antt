-- What a script says of the shelf of a run.
use Rattle.std.specs.Prelude.{ℕ, ◌&&◌, Bool, true, false, not, if◌then◌else◌, List, [], ◌∷◌, ◌++◌, Option, Some, None, option_and_then}
use Rattle.std.specs.List.{fold, list_any}
use Rattle.std.specs.Str.{bytes_eq, chars, encode_utf8_all, is_utf8}
use Rattle.outside.specs.Shelf.{with_file}
use Rattle.case_scripts.specs.declared.shelf.FileSaid.{FileSaid}
use Rattle.case_scripts.specs.declared.shelf.ShelfSaid.{ShelfSaid}
use Rattle.case_scripts.specs.declared.shelf.When.{When}
use Rattle.case_scripts.specs.declared.shelf.When.TheVariants.{Before, After, Gone}

-- files: paths with their bytes
abbrev pub Files : Type 0
Files = List (List ℕ × List ℕ)

-- it is said of the files before the run, not of those after it
abbrev pub is_before : When → Bool
is_before Before = true
is_before After = false
is_before Gone = false

-- a file then holds something, if only no bytes
abbrev pub may_hold : When → Bool
may_hold Before = true
may_hold After = true
may_hold Gone = false

-- the two say the same
abbrev pub same_truth : Bool → Bool → Bool
same_truth true b = b
same_truth false b = not b

-- whether a file is that of this path, of those before the run or of those after it
abbrev pub is_file_at : When → List ℕ → FileSaid → Bool
is_file_at when path file = bytes_eq (encode_utf8_all file.path) (encode_utf8_all path) && same_truth (is_before file.when) (is_before when)

-- whether one of these files is
abbrev pub is_named : List FileSaid → When → List ℕ → Bool
is_named files when path = list_any (is_file_at when path) files

-- ---- what lines say

-- nothing yet
abbrev pub no_files : ShelfSaid
no_files = record { files = []; last = None; failing = [] }

-- the last file put to the others
abbrev pub put_last : List FileSaid → Option FileSaid → List FileSaid
put_last files None = files
put_last files (Some file) = files ++ file ∷ []

abbrev pub settled : ShelfSaid → ShelfSaid
settled said = record said { files = put_last said.files said.last; last = None }

-- with a file that is named now, unless it was before
abbrev pub with_named : ShelfSaid → FileSaid → Option ShelfSaid
with_named said file = if is_named said.files file.when file.path then None else Some (record said { last = Some file })

-- with a path that is named now
abbrev pub with_path : ShelfSaid → When → List ℕ → Option ShelfSaid
with_path said when path = with_named (settled said) (record { when = when; path = path; bytes = [] })

-- the text that bytes are in UTF-8, if they are one
abbrev pub text_in : List ℕ → Option (List ℕ)
text_in bytes = if is_utf8 bytes then Some (chars bytes) else None

-- WITH A LINE THAT NAMES A FILE: the path is UTF-8, and was not named so before
abbrev pub with_name : ShelfSaid → When → List ℕ → Option ShelfSaid
with_name said when path = option_and_then (with_path said when) (text_in path)

-- with more bytes of a file
abbrev pub with_bytes : FileSaid → List ℕ → FileSaid
with_bytes file text = record file { bytes = file.bytes ++ text }

-- to the file that was named last, if one was
abbrev pub with_more : ShelfSaid → Option FileSaid → List ℕ → Option ShelfSaid
with_more said None text = None
with_more said (Some file) text = if may_hold file.when then Some (record said { last = Some (with_bytes file text) }) else None

-- WITH BYTES of the file that was named last, where that holds some
abbrev pub with_text : ShelfSaid → List ℕ → Option ShelfSaid
with_text said text = with_more said said.last text

-- with a call that fails
abbrev pub with_failing : ShelfSaid → ℕ → ShelfSaid
with_failing said call = record said { failing = said.failing ++ call ∷ [] }

-- ---- the files before the run

-- a file that is there before the run is put in
abbrev pub with_first : Files → FileSaid → Files
with_first files file = if is_before file.when then with_file files file.path file.bytes else files

-- THE FILES BEFORE THE RUN
abbrev pub files_before : List FileSaid → Files
files_before said = fold with_first [] said
