-- The edit that a command of the front end asks for.
use Rattle.std.specs.Prelude.{ℕ, List, Option}
use Rattle.plain_edits.specs.declared.delta.Delta.{Delta}
use Rattle.delta_core.specs.Elements.{delta_by}
use Rattle.edit_ops.specs.declared.replacement.Replacement.{Replacement}
use Rattle.edit_ops.specs.Replacements.{added_by, kept_by}
use Rattle.rev_engine.specs.Given.{AskedEdit}
use Rattle.doc_text.specs.Asking.{head_edit}
use Rattle.doc_text.specs.Writing.{head_text}
use Rattle.doc_session.specs.Document.{Document}

-- the delta of replacements over a text: element for element, with their text at each gap
abbrev pub replacing_delta : List Replacement → List ℕ → Delta
replacing_delta replacements text = delta_by (kept_by replacements) (added_by replacements) text

-- THE EDIT OF A COMMAND: it makes these replacements of the head text, and joins a group or opens the next
abbrev pub front_edit : Document → Option ℕ → List Replacement → AskedEdit
front_edit document joined replacements = head_edit document.text joined (replacing_delta replacements (head_text document.text))
