-- A journal told in short.
use Rattle.std.specs.Prelude.{ℕ, ◌+◌, ◌%◌, if◌then◌else◌, List, [], ◌∷◌}
use Rattle.std.specs.List.{flat_map}
use Rattle.xi_plain.specs.declared.entry.Entry.{Entry}

-- the caller's last digit, and `!` behind it where the entry was not sent
abbrev pub caller_in : Entry → List ℕ
caller_in entry = (48 + entry.caller % 10) ∷ (if entry.sent then [] else 33 ∷ [])

-- the callers of a journal
abbrev pub callers_in : List Entry → List ℕ
callers_in entries = flat_map caller_in entries
