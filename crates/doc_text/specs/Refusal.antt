-- Why a document refuses an event.
use Rattle.std.specs.Prelude.{Option, option_map}
use Rattle.plain_edits.specs.Edits.{Refusal}
use Rattle.stale_spans.specs.declared.fault.Misplaced.{Misplaced}

-- as an edit is refused, or for what of a range with spans is no place of the text of its revision
pub data DocRefusal : Type 0 where
  of_edit : (refusal : Refusal) → DocRefusal
  of_range : (member : Misplaced) → DocRefusal

-- the refusal of an edit, if there is one
abbrev pub edit_refused : Option Refusal → Option DocRefusal
edit_refused refusal = option_map of_edit refusal
