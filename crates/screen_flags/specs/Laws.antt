-- Laws of flags on data alone.
use Rattle.std.specs.Prelude.{◌≡◌, ℕ, if◌then◌else◌, List, map, Some, None}
use Rattle.std.specs.Str.{bytes_eq}
use Rattle.plain_screen.specs.declared.screen.Op.{Op}
use Rattle.plain_screen.specs.Screen.{Screen, screen_after}
use Rattle.view_update.specs.declared.note.ViewUpdate.{ViewUpdate}
use Rattle.view_update.specs.Reading.{line_update}
use Rattle.screen_flags.specs.Flags.{change_of, count_valid, flags_after, flags_of, valid_lines}
use Rattle.screen_flags.specs.Told.{changes_told}

-- THE FLAGS FOLLOW THE SCREEN: its flags after operations are what these make of those before
abbrev pub FlagsFollow : Type 0
FlagsFollow = (old new : Screen) (ops : List Op) → screen_after old ops ≡ Some new → flags_of new ≡ flags_after (flags_of old) (map change_of ops)

-- the changes that the line of an update tells are those of its operations, where it is of the view
abbrev pub UpdatesTellChanges : Type 0
UpdatesTellChanges = (id line : List ℕ) (note : ViewUpdate) → line_update line ≡ Some (Some note) →
    changes_told id line ≡ (if bytes_eq note.view id then Some (map change_of note.update.ops) else None)

-- a line that is no update tells none
abbrev pub OthersTellNone : Type 0
OthersTellNone = (id line : List ℕ) → line_update line ≡ None → changes_told id line ≡ None

-- the flags count the valid lines
abbrev pub FlagsCount : Type 0
FlagsCount = (screen : Screen) → count_valid (flags_of screen) ≡ valid_lines screen
