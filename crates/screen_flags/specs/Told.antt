-- WHAT LINES TELL of the lines of a screen.
use Rattle.std.specs.Prelude.{ℕ, Bool, if◌then◌else◌, List, [], ◌∷◌, codes, Option, Some, None, option_map, option_and_then}
use Rattle.std.specs.Str.{bytes_eq}
use Rattle.serde_json.specs.Data.{Data, Items}
use Rattle.serde_json.specs.Find.{as_array}
use Rattle.json_rpc.specs.Request.{line_request}
use Rattle.view_update.specs.Reading.{as_chars, member_as, note_params}
use Rattle.screen_flags.specs.declared.change.Change.{Change}
use Rattle.screen_flags.specs.Flags.{changes_in, flags_after}

-- the operations that the params of a note say
abbrev pub ops_in : Data → Option Items
ops_in params = member_as (member_as as_array (codes "ops")) (codes "update") params

-- the same, where the note is of the view with this id
abbrev pub ops_if : Option Bool → Data → Option Items
ops_if None params = None
ops_if (Some same) params = if same then ops_in params else None

abbrev pub ops_for : List ℕ → Data → Option Items
ops_for id params = ops_if (option_map (λ view. bytes_eq view id) (member_as as_chars (codes "view_id") params)) params

-- THE CHANGES that a line tells of that view, where it tells some
abbrev pub changes_told : List ℕ → List ℕ → Option (List Change)
changes_told id line = option_map changes_in (option_and_then (ops_for id) (note_params (codes "update") (line_request line)))

-- the flags after them
abbrev pub flags_with : List Bool → Option (List Change) → List Bool
flags_with flags None = flags
flags_with flags (Some changes) = flags_after flags changes

-- THE FLAGS of the view's screen after these lines
abbrev pub flags_told : List ℕ → List Bool → List (List ℕ) → List Bool
flags_told id flags [] = flags
flags_told id flags (line ∷ lines) = flags_told id (flags_with flags (changes_told id line)) lines
