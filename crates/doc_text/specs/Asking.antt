-- The edits and the styles that a text is asked for, and why one is refused; and why an acknowledgement or a reading is.
use Rattle.std.specs.Prelude.{ℕ, if◌then◌else◌, nat_lt, List, Option, Some, None, option_map}
use Rattle.std.specs.Option.{option_or}
use Rattle.plain_edits.specs.History.{History, head, text_at}
use Rattle.plain_edits.specs.Edits.{Refusal, collected, edit_refusal, unknown}
use Rattle.plain_edits.specs.declared.delta.Delta.{Delta}
use Rattle.plain_text.specs.Text.{is_place}
use Rattle.plain_edits.specs.declared.style.Span.{Span}
use Rattle.rev_engine.specs.declared.edit.Edit.{Edit}
use Rattle.rev_engine.specs.Given.{AskedEdit}
use Rattle.stale_spans.specs.declared.asked.AskedSpans.{AskedSpans}
use Rattle.stale_spans.specs.declared.fault.Misplaced.{Misplaced}
use Rattle.stale_spans.specs.declared.fault.Misplaced.TheVariants.{Start}
use Rattle.stale_spans.specs.Places.{misplaced}
use Rattle.edit_groups.specs.Grouping.{group_by}
use Rattle.doc_text.specs.Writing.{Writing}
use Rattle.doc_text.specs.Refusal.{DocRefusal, edit_refused, of_range}

-- the priority of the front end's edits
abbrev pub front_priority : ℕ
front_priority = 65536

-- an edit of the head text by the front end, in this group
abbrev pub headed_edit : ℕ → History → Delta → AskedEdit
headed_edit group history delta = record {
  base = head history;
  delta = delta;
  group = group;
  priority = front_priority;
  author = 0;
}

-- THE EDIT OF THE FRONT END, which joins a group or opens the next
abbrev pub head_edit : Writing → Option ℕ → Delta → AskedEdit
head_edit text joined delta = headed_edit (group_by text.groups joined) text.history delta

-- the edit of a plugin, which says itself its base, its delta and its priority
abbrev pub plugin_edit : Writing → ℕ → Edit → Option ℕ → AskedEdit
plugin_edit text caller edit joined = record {
  base = edit.rev;
  delta = edit.delta;
  group = group_by text.groups joined;
  priority = edit.priority;
  author = caller;
}

-- why an edit is refused, if it is
abbrev pub asked_refusal : Writing → AskedEdit → Option Refusal
asked_refusal text asked = edit_refusal text.history text.limit asked.base asked.delta

-- why an acknowledgement is refused, if it is: its revision is above the head, or below the floor
abbrev pub acknowledgement_refusal : History → ℕ → Option Refusal
acknowledgement_refusal history rev =
    if nat_lt (head history) rev then Some (unknown (head history)) else (
    if nat_lt rev history.floor then Some (collected history.floor) else None)

-- styles of a plugin: in a range of the text of a revision, whose bytes count from its start
abbrev pub asked_spans : ℕ → ℕ → ℕ → List Span → AskedSpans
asked_spans rev start len spans = record { rev = rev; start = start; len = len; spans = spans }

-- why they are refused, if they are: an acknowledgement of their revision would be, or else the first that is no place of its text
abbrev pub range_refusal : History → AskedSpans → Option DocRefusal
range_refusal history asked =
    option_or (edit_refused (acknowledgement_refusal history asked.rev))
    (option_map of_range (misplaced (text_at history asked.rev) asked.start asked.len asked.spans))

-- what of a reading is no place of the text: where it starts, or nothing
abbrev pub misplaced_start : List ℕ → ℕ → Option Misplaced
misplaced_start text start = if is_place text start then None else Some Start

-- why a reading of the text of a revision from this offset on is refused, if it is: an acknowledgement of the revision would be, or else the
-- offset is no place of its text
abbrev pub reading_refusal : History → ℕ → ℕ → Option DocRefusal
reading_refusal history rev start =
    option_or (edit_refused (acknowledgement_refusal history rev)) (option_map of_range (misplaced_start (text_at history rev) start))
