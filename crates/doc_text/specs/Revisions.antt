-- What an event leaves of a plain text: after an edit, an undo, a save, and where there is no revision.
use Rattle.std.specs.Prelude.{ℕ, Option, None}
use Rattle.plain_edits.specs.declared.delta.Delta.{Delta}
use Rattle.plain_edits.specs.Edits.{undid}
use Rattle.plain_edits.specs.History.{head}
use Rattle.undo_groups.specs.Groups.{Groups}
use Rattle.edit_groups.specs.declared.typing.Kind.{Kind}
use Rattle.edit_groups.specs.Grouping.{groups_by, named_group, run_group}
use Rattle.edit_groups.specs.Typing.{run_on, run_with}
use Rattle.rev_engine.specs.declared.edit.Edit.{Edit}
use Rattle.rev_engine.specs.Given.{AskedEdit, after}
use Rattle.doc_text.specs.Asking.{head_edit, plugin_edit}
use Rattle.doc_text.specs.Writing.{Writing}

-- the text where no revision is made: its run goes on where the event is a command of the run's kind, and else it ends
abbrev pub going_on : Writing → Option Kind → Writing
going_on text kind = record text { typing = run_on text.typing kind }

-- the text after an edit of this kind which joined a group or opened the next
abbrev pub edited_text : Writing → AskedEdit → Option ℕ → Option Kind → Writing
edited_text text asked joined kind = record text {
  history = after text.history asked;
  groups = groups_by text.groups joined;
  typing = run_with kind asked.group;
}

-- THE TEXT AFTER AN EDIT OF THE FRONT END: it joins the group of the run that it goes on with, or opens the next
abbrev pub typed_text : Writing → Option Kind → Delta → Writing
typed_text text kind delta =
    let joined = run_group (run_on text.typing kind) in
    edited_text text (head_edit text joined delta) joined kind

-- THE TEXT AFTER THE EDIT OF A PLUGIN: it joins the group that the plugin names, or opens the next, and ends the run
abbrev pub given_text : Writing → ℕ → Edit → Option ℕ → Writing
given_text text caller edit named =
    let joined = named_group text.history named in
    edited_text text (plugin_edit text caller edit joined) joined None

-- THE TEXT AFTER AN UNDO OR A REDO, which left the groups so
abbrev pub undone_text : Writing → Groups → Writing
undone_text text groups = record text { history = undid text.history groups.undone; groups = groups; typing = None }

-- THE TEXT ONCE SAVED: the head is the saved revision from then on, and the run ends, since a save is a line of the front end
abbrev pub saved_text : Writing → Writing
saved_text text = record text { typing = None; saved = head text.history }
