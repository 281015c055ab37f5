-- What an edit in runs and insertions is in the words of the definitions.
use Rattle.std.specs.Prelude.{ℕ, List}
use Rattle.plain_edits.specs.declared.delta.Delta.{Delta}
use Rattle.plain_edits.specs.Delta.{is_in_runs, text_at_gap, keeps, adds}
use Rattle.plain_edits.specs.Edits.{PlainEdit}
use Rattle.plain_history.specs.declared.unit_edit.UnitEdit.{UnitEdit}

-- the edit that keeps the characters in the runs and adds at each gap the texts of the insertions there
abbrev pub edit_of : UnitEdit → PlainEdit
edit_of e = record {
  base = e.base;
  kept = is_in_runs e.kept;
  added = text_at_gap e.added;
  group = e.group;
  priority = e.priority;
  author = e.author;
}

-- the edit that a delta over a text says, as `plain_edit` has it over the text of its base
abbrev pub over_text : ℕ → List ℕ → Delta → ℕ → ℕ → ℕ → PlainEdit
over_text base text delta group priority author = record {
  base = base;
  kept = keeps text delta;
  added = adds text delta;
  group = group;
  priority = priority;
  author = author;
}
