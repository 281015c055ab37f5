-- What a fault of a document says in the words of the definitions.
use Rattle.std.specs.Prelude.{◌≡◌, ◌≢◌, ℕ, List, ◌++◌, codes, Option, Some, None}
use Rattle.plain_edits.specs.Edits.{collected, misfit, spent, unknown}
use Rattle.plain_edits.specs.EditFault.{edit_fault_text}
use Rattle.plain_edits.specs.declared.fault.EditFault.{EditFault}
use Rattle.plain_edits.specs.declared.fault.EditFault.TheVariants as Edits
use Rattle.stale_spans.specs.declared.fault.Misplaced.{Misplaced}
use Rattle.stale_spans.specs.declared.fault.Misplaced.TheVariants.{Start, Len, Spans}
use Rattle.stale_spans.specs.declared.fault.SpansFault.{SpansFault}
use Rattle.stale_spans.specs.declared.fault.SpansFault.TheVariants as Ranges
use Rattle.doc_text.specs.declared.fault.DocFault.{DocFault}
use Rattle.doc_text.specs.declared.fault.DocFault.TheVariants.{BadParams, Collected, Misfit, NoMemory, Spent, Unknown}
use Rattle.doc_text.specs.Refusal.{DocRefusal, of_edit, of_range}

-- the refusal that a fault is; want of memory is none
abbrev pub doc_fault_refusal : DocFault → Option DocRefusal
doc_fault_refusal (Unknown head) = Some (of_edit (unknown head))
doc_fault_refusal (Collected floor) = Some (of_edit (collected floor))
doc_fault_refusal (Misfit first) = Some (of_edit (misfit first))
doc_fault_refusal (Spent total) = Some (of_edit (spent total))
doc_fault_refusal (BadParams member) = Some (of_range member)
doc_fault_refusal NoMemory = None

-- the fault is this refusal, or want of memory
abbrev pub DocRefuses : Option DocRefusal → DocFault → Type 0
DocRefuses refusal fault = fault ≢ NoMemory → refusal ≡ doc_fault_refusal fault

-- the fault of an edit, and that of spans, as a document says it
abbrev pub of_edit_fault : EditFault → DocFault
of_edit_fault (Edits.Unknown head) = Unknown head
of_edit_fault (Edits.Collected floor) = Collected floor
of_edit_fault (Edits.Misfit first) = Misfit first
of_edit_fault (Edits.Spent total) = Spent total
of_edit_fault Edits.NoMemory = NoMemory

abbrev pub of_spans_fault : SpansFault → DocFault
of_spans_fault (Ranges.Misplaced member) = BadParams member
of_spans_fault Ranges.NoMemory = NoMemory

-- the name of what is no place, and what is printed of a fault
abbrev pub member_name : Misplaced → List ℕ
member_name Start = codes "start"
member_name Len = codes "len"
member_name Spans = codes "spans"

abbrev pub doc_fault_text : DocFault → List ℕ
doc_fault_text (Unknown head) = edit_fault_text (Edits.Unknown head)
doc_fault_text (Collected floor) = edit_fault_text (Edits.Collected floor)
doc_fault_text (Misfit first) = edit_fault_text (Edits.Misfit first)
doc_fault_text (Spent total) = edit_fault_text (Edits.Spent total)
doc_fault_text (BadParams member) = codes "no place of the text: " ++ member_name member
doc_fault_text NoMemory = edit_fault_text Edits.NoMemory
