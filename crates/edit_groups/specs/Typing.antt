-- THE RUN OF TYPING: which commands of the front end share an undo group.
use Rattle.std.specs.Prelude.{ℕ, Bool, true, false, if◌then◌else◌, Option, Some, None, option_map}
use Rattle.xi_plain.specs.declared.command.EditAct.{EditAct}
use Rattle.xi_plain.specs.declared.command.EditAct.TheVariants as Acts
use Rattle.edit_groups.specs.declared.typing.Kind.{Kind}
use Rattle.edit_groups.specs.declared.typing.Kind.TheVariants.{Insert, DeleteBackward, DeleteForward}
use Rattle.edit_groups.specs.declared.typing.Typing.{Typing}

-- the kind of a command whose edits may run together
abbrev pub kind_of : EditAct → Option Kind
kind_of (Acts.Insert chars) = Some Insert
kind_of Acts.DeleteBackward = Some DeleteBackward
kind_of Acts.DeleteForward = Some DeleteForward
kind_of act = None

abbrev pub is_same_kind : Kind → Kind → Bool
is_same_kind Insert Insert = true
is_same_kind DeleteBackward DeleteBackward = true
is_same_kind DeleteForward DeleteForward = true
is_same_kind one other = false

-- the run that a command of this kind goes on with; every other line ends it
abbrev pub run_on : Option Typing → Option Kind → Option Typing
run_on (Some run) (Some kind) = if is_same_kind run.kind kind then Some run else None
run_on run kind = None

-- the run after an edit of this kind in this group
abbrev pub run_with : Option Kind → ℕ → Option Typing
run_with kind group = option_map (λ k. record { kind = k; group = group }) kind
