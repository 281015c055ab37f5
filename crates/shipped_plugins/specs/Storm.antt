-- THE STORM'S PLUGIN: at each eighth notice of a change it edits a text that it knows no more.
use Rattle.std.specs.Prelude.{ℕ, ◌+◌, ◌^◌, false, nat_lt, if◌then◌else◌, List, [], ◌∷◌, codes, Option, Some, None}
use Rattle.plain_edits.specs.declared.delta.El.TheVariants.{Copy, Insert}
use Rattle.plain_edits.specs.declared.delta.Delta.{Delta}
use Rattle.xi_plain.specs.declared.config.Notice.{Notice}
use Rattle.xi_plain.specs.declared.command.Id.TheVariants.{NoId}
use Rattle.xi_plain.specs.declared.command.Act.TheVariants.{PluginEdit}
use Rattle.xi_plain.specs.declared.command.Command.{Command}
use Rattle.plugin_side.specs.declared.heard.Told.{Told}
use Rattle.plugin_side.specs.declared.heard.Told.TheVariants.{Changed}
use Rattle.plugin_side.specs.declared.heard.Heard.{Heard}
use Rattle.plugin_side.specs.declared.heard.Heard.TheVariants as Hears
use Rattle.shipped_plugins.specs.Turns.{Upshot, passed, heeded}
use Rattle.shipped_plugins.specs.Todo.{Version, version_of, ack_ask}

-- a version, and the length of its text in bytes
pub record SizedVersion : Type 0 where
  pub version : Version
  pub len : ℕ

-- how many changes it was told of since its last edit, and the version that the first of them made
pub record StormState : Type 0 where
  pub count : ℕ
  pub first : Option SizedVersion

-- at first
abbrev pub storm_start : StormState
storm_start = record { count = 0; first = None }

-- so many changes pass, and at the next one it edits
abbrev pub quiet_changes : ℕ
quiet_changes = 7

-- `*` before a text of this length
abbrev pub storm_delta : ℕ → Delta
storm_delta len = record { els = Insert (codes "*") ∷ Copy 0 len ∷ []; base_len = len }

-- the edit of a version
abbrev pub edit_ask : SizedVersion → Command
edit_ask sized = record {
  id = NoId;
  act = PluginEdit sized.version.view sized.version.rev (storm_delta sized.len) 1 false (codes "storm") None;
}

-- the first of two that is there
abbrev pub first_of : Option SizedVersion → SizedVersion → SizedVersion
first_of None now = now
first_of (Some first) now = first

-- a text changed to this version
abbrev pub counts : StormState → Option SizedVersion → Upshot StormState
counts state None = passed state
counts state (Some now) =
    if nat_lt state.count quiet_changes
    then passed (record { count = state.count + 1; first = Some (first_of state.first now) })
    else record { after = storm_start; asks = edit_ask (first_of state.first now) ∷ ack_ask now.version ∷ [] }

-- the version with its length, where that is a number that the core takes from a line
abbrev pub with_len : ℕ → Option Version → Option SizedVersion
with_len len None = None
with_len len (Some version) = if nat_lt len (2 ^ 63) then Some (record { version = version; len = len }) else None

-- the version that a notice tells of
abbrev pub sized_of : Notice → Option SizedVersion
sized_of notice = with_len notice.new_len (version_of notice.view notice.rev)

-- the change that a notice tells of
abbrev pub told_change : Told → Option SizedVersion
told_change (Changed notice) = sized_of notice
told_change other = None

-- what it makes of what it hears
abbrev pub storm_step : StormState → Heard → Upshot StormState
storm_step state (Hears.Told told) = counts state (told_change told)
storm_step state (Hears.Answer id answer) = passed state
storm_step state Hears.Nothing = passed state

-- WHAT THE LINES OF A TURN COME TO
abbrev pub storm_turn : StormState → List (List ℕ) → Upshot StormState
storm_turn = heeded storm_step
