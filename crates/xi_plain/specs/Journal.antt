-- JOURNALS: which can be, and what is in them.
use Rattle.std.specs.Prelude.{◌≡◌, ℕ, ◌==◌, nat_le, length, Bool, true, false, ◌&&◌, if◌then◌else◌, List, [], ◌∷◌, map, Some}
use Rattle.std.specs.List.{filter, list_all}
use Rattle.xi_plain.specs.declared.command.Id.TheVariants.{NoId}
use Rattle.xi_plain.specs.declared.command.Act.{Act}
use Rattle.xi_plain.specs.declared.command.Act.TheVariants.{NewView, Save, Closing}
use Rattle.xi_plain.specs.declared.command.Command.{Command}
use Rattle.xi_plain.specs.declared.entry.Entry.{Entry}
use Rattle.xi_plain.specs.declared.entry.ShelfNote.{ShelfNote}
use Rattle.xi_plain.specs.declared.entry.ShelfNote.TheVariants.{NoCall, Held, Absent, Failed, Done}

-- the entries of a caller, and those of the front end
abbrev pub entries_of : ℕ → List Entry → List Entry
entries_of caller journal = filter (λ entry. entry.caller == caller) journal

abbrev pub front_entries : List Entry → List Entry
front_entries journal = entries_of 0 journal

-- what the entries ask
abbrev pub commands : List Entry → List Command
commands entries = map (λ entry. entry.command) entries

-- the entry that says that no line is to come
abbrev pub closing_entry : Entry
closing_entry = record { caller = 0; command = record { id = NoId; act = Closing }; shelf = NoCall; sent = true }

-- whether the act is that of a closing entry
abbrev pub closes : Act → Bool
closes Closing = true
closes act = false

abbrev pub is_closing : Entry → Bool
is_closing entry = closes entry.command.act

-- whether the shelf may have answered the opening of a file so: it is always asked
abbrev pub may_open : ShelfNote → Bool
may_open (Held bytes) = true
may_open Absent = true
may_open Failed = true
may_open note = false

-- and a saving, for which it is not asked where the view is not there (that it is asked where the view is there, the session says)
abbrev pub may_save : ShelfNote → Bool
may_save NoCall = true
may_save Done = true
may_save Failed = true
may_save note = false

-- and what asks it nothing
abbrev pub is_no_call : ShelfNote → Bool
is_no_call NoCall = true
is_no_call note = false

-- whether the note is of a kind that the act can have
abbrev pub may_have_note : Act → ShelfNote → Bool
may_have_note (NewView (Some path)) note = may_open note
may_have_note (Save view path) note = may_save note
may_have_note act note = is_no_call note

-- whether these may stand after an entry: nothing after a closing one, and closing ones alone after one that was not sent
abbrev pub may_follow : Entry → List Entry → Bool
may_follow entry entries =
    if is_closing entry then length entries == 0 else (if entry.sent then true else list_all is_closing entries)

-- whether each entry is of one of the callers that there are, where there are so many plugins, and may be followed by those after it
abbrev pub is_ordered : ℕ → List Entry → Bool
is_ordered plugins [] = true
is_ordered plugins (entry ∷ entries) = nat_le entry.caller plugins && (may_follow entry entries && is_ordered plugins entries)

-- THE ORDER of a journal: each entry may stand where it does
abbrev pub IsOrdered : ℕ → List Entry → Type 0
IsOrdered plugins journal = is_ordered plugins journal ≡ true

-- whether the entry's note is of a kind that its act can have
abbrev pub has_own_note : Entry → Bool
has_own_note entry = may_have_note entry.command.act entry.shelf

-- whether the journal is legal, as far as its entries alone can tell: they may stand so, and each has a note of its own kind
abbrev pub is_legal : ℕ → List Entry → Bool
is_legal plugins journal = is_ordered plugins journal && list_all has_own_note journal

-- THE LEGAL JOURNALS
abbrev pub IsLegal : ℕ → List Entry → Type 0
IsLegal plugins journal = is_legal plugins journal ≡ true
