-- WHAT A FILE OF A JOURNAL SAYS: one value of JSON a line, and which entry each is.
use Rattle.std.specs.Prelude.{◌≡◌, ℕ, ◌^◌, ◌==◌, nat_lt, Bool, if◌then◌else◌, List, [], ◌∷◌, ◌++◌, length, map, codes, Option, Some, None, option_map, option_and_then, Result, Ok, Err}
use Rattle.std.specs.Str.{bytes_eq}
use Rattle.plain_text.specs.InputLines.{lines_of}
use Rattle.hex.specs.Hex.{decode_of}
use Rattle.serde_json.specs.Data.{Data, null, boolean, number, string, array, object}
use Rattle.serde_json.specs.Find.{get, as_bool, as_number, as_str, as_u64}
use Rattle.json_rpc.specs.Line.{HasNoLf, reading}
use Rattle.xi_plain.specs.declared.command.Act.TheVariants.{Closing, Ended}
use Rattle.xi_plain.specs.declared.command.Command.{Command}
use Rattle.xi_plain.specs.declared.command.Id.TheVariants.{NoId}
use Rattle.xi_plain.specs.declared.entry.Entry.{Entry}
use Rattle.xi_plain.specs.declared.entry.ShelfNote.{ShelfNote}
use Rattle.xi_plain.specs.declared.entry.ShelfNote.TheVariants.{Absent, Done, Failed, Held, NoCall}
use Rattle.front_wire.specs.Front.{command_of}
use Rattle.plugin_wire.specs.Asked.{ask_of}

-- the command that no line asks: of the front end the closing, of a plugin the end of its session
abbrev pub unasked : ℕ → Command
unasked caller = record { id = NoId; act = if caller == 0 then Closing else Ended }

-- what a line of this caller asks
abbrev pub command_asked_by : ℕ → List ℕ → Command
command_asked_by caller line = if caller == 0 then command_of line else ask_of line

-- the command of this caller: what its line asks, or, where there is null for it, the one that no line asks
abbrev pub command_by : ℕ → Data → Option Command
command_by caller null = Some (unasked caller)
command_by caller (string line) = Some (command_asked_by caller line)
command_by caller (boolean b) = None
command_by caller (number n) = None
command_by caller (array items) = None
command_by caller (object inner) = None

-- the note of this name
abbrev pub note_named : List ℕ → Option ShelfNote
note_named name =
    if bytes_eq name (codes "absent") then Some Absent else (if bytes_eq name (codes "failed") then Some Failed else (
    if bytes_eq name (codes "done") then Some Done else None))

-- the bytes of digits in base 16, two for each
abbrev pub bytes_if : {E : Type 0} → Result (List ℕ) E → Option (List ℕ)
bytes_if (Ok bytes) = Some bytes
bytes_if (Err e) = None

abbrev pub bytes_of_digits : List ℕ → Option (List ℕ)
bytes_of_digits digits = bytes_if (decode_of digits)

-- a file's bytes: a text, or else digits in base 16
abbrev pub held_from : Option (List ℕ) → Option (List ℕ) → Option ShelfNote
held_from (Some text) digits = Some (Held text)
held_from None (Some digits) = option_map Held (bytes_of_digits digits)
held_from None None = None

-- the note that a value is
abbrev pub note_of : Data → Option ShelfNote
note_of null = Some NoCall
note_of (string name) = note_named name
note_of (object inner) =
    held_from (option_and_then as_str (get (codes "text") (object inner))) (option_and_then as_str (get (codes "base16") (object inner)))
note_of (boolean b) = None
note_of (number n) = None
note_of (array items) = None

-- the entry of this caller and these parts, where each is there
abbrev pub entry_from : ℕ → Option Command → Option ShelfNote → Option Bool → Option Entry
entry_from caller (Some command) (Some note) (Some sent) = Some (record { caller = caller; command = command; shelf = note; sent = sent })
entry_from caller command noted sent = None

-- a number of a caller has 32 bits
abbrev pub caller_of : Data → Option ℕ
caller_of d =
    option_and_then (λ n. if nat_lt n (2 ^ 32) then Some n else None) (option_and_then as_u64 (option_and_then as_number (get (codes "caller") d)))

-- THE ENTRY that a value is, where it is one
abbrev pub entry_by : ℕ → Data → Option Entry
entry_by caller d =
    entry_from caller (option_and_then (command_by caller) (get (codes "command") d)) (option_and_then note_of (get (codes "note") d))
    (option_and_then as_bool (get (codes "sent") d))

abbrev pub entry_of : Data → Option Entry
entry_of d = option_and_then (λ caller. entry_by caller d) (caller_of d)

-- and that of a line
unfoldable pub entry_in : List ℕ → Option Entry
entry_in line = option_and_then entry_of (reading line)

-- THE ENTRIES OF A FILE, line by line
abbrev pub entries_in : List ℕ → List (Option Entry)
entries_in bytes = map entry_in (lines_of bytes)

-- the first line that is no entry has this index
abbrev pub IsFirstBad : List (Option Entry) → ℕ → Type 0
IsFirstBad lines index = (front : List Entry) × (back : List (Option Entry)) × (lines ≡ map Some front ++ (None ∷ back)) × (length front ≡ index)

-- bytes of which the last is their only LF
abbrev pub IsOneLine : List ℕ → Type 0
IsOneLine bytes = (front : List ℕ) × (bytes ≡ front ++ 10 ∷ []) × HasNoLf front
