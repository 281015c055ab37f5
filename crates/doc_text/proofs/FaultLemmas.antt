-- What a fault of a document says, by the fault that it was made of.
use Rattle.std.proofs.Common.{◌≡◌, ℕ, List, Option, Some, None, refl, ap, sym, ◌∙◌}
use Rattle.std.specs.Prelude.{if◌then◌else◌, is_some, option_map}
use Rattle.std.specs.Option.{option_or}
use Rattle.plain_text.specs.Text.{gap_at}
use Rattle.plain_edits.specs.Edits.{Refusal}
use Rattle.plain_edits.specs.EditFault.{Refuses}
use Rattle.plain_edits.specs.History.{History, text_at}
use Rattle.plain_edits.specs.declared.fault.EditFault.{EditFault}
use Rattle.plain_edits.specs.declared.fault.EditFault.TheVariants as Edits
use Rattle.stale_spans.specs.declared.asked.AskedSpans.{AskedSpans}
use Rattle.stale_spans.specs.declared.fault.Misplaced.{Misplaced}
use Rattle.stale_spans.specs.declared.fault.Misplaced.TheVariants.{Start}
use Rattle.stale_spans.specs.declared.fault.SpansFault.{SpansFault}
use Rattle.stale_spans.specs.declared.fault.SpansFault.TheVariants as Ranges
use Rattle.stale_spans.specs.Places.{misplaced}
use Rattle.stale_spans.specs.Refused.{IsRefused}
use Rattle.doc_text.specs.declared.fault.DocFault.TheVariants.{NoMemory}
use Rattle.doc_text.specs.Asking.{acknowledgement_refusal, misplaced_start, range_refusal, reading_refusal}
use Rattle.doc_text.specs.Fault.{DocRefuses, of_edit_fault, of_spans_fault}
use Rattle.doc_text.specs.Refusal.{DocRefusal, edit_refused, of_range}

-- an edit is refused as the engine refuses it
pub DocRefuses-edit : (refusal : Option Refusal) (fault : EditFault) → Refuses refusal fault → DocRefuses (edit_refused refusal) (of_edit_fault fault)
DocRefuses-edit refusal (Edits.Unknown last) refuses = λ some. ap edit_refused (refuses (λ is. cc))
DocRefuses-edit refusal (Edits.Collected first) refuses = λ some. ap edit_refused (refuses (λ is. cc))
DocRefuses-edit refusal (Edits.Misfit first) refuses = λ some. ap edit_refused (refuses (λ is. cc))
DocRefuses-edit refusal (Edits.Spent total) refuses = λ some. ap edit_refused (refuses (λ is. cc))
DocRefuses-edit refusal Edits.NoMemory refuses = λ some. absurd (some refl)

-- ---- a revision first, and then what is no place of its text

module _ (history : History) (rev : ℕ) (member : Option Misplaced) where
  abbrev pub at_first : Option Refusal → Option DocRefusal
  at_first refusal = option_or (edit_refused refusal) (option_map of_range member)

  pub DocRefuses-first : (fault : EditFault) → Refuses (acknowledgement_refusal history rev) fault →
      DocRefuses (at_first (acknowledgement_refusal history rev)) (of_edit_fault fault)
  DocRefuses-first (Edits.Unknown last) refuses = λ some. ap at_first (refuses (λ is. cc))
  DocRefuses-first (Edits.Collected first) refuses = λ some. ap at_first (refuses (λ is. cc))
  DocRefuses-first (Edits.Misfit first) refuses = λ some. ap at_first (refuses (λ is. cc))
  DocRefuses-first (Edits.Spent total) refuses = λ some. ap at_first (refuses (λ is. cc))
  DocRefuses-first Edits.NoMemory refuses = λ some. absurd (some refl)

-- ---- a reading

module _ (history : History) (rev start : ℕ) (text : List ℕ) (kept : acknowledgement_refusal history rev ≡ None) (is : text ≡ text_at history rev) where
  -- where its revision is kept, it is refused for its start alone
  pub reading_refusal-by : (found : Option ℕ) → gap_at text start ≡ found →
      reading_refusal history rev start ≡ option_map of_range (if is_some found then None else Some Start)
  reading_refusal-by found found_is =
      ap (at_first history rev (misplaced_start (text_at history rev) start)) kept ∙ ap (λ t. option_map of_range (misplaced_start t start)) (sym is) ∙
      ap (λ gap. option_map of_range (if is_some gap then None else Some Start)) found_is

-- ---- spans

module _ (history : History) (asked : AskedSpans) where
  -- they are refused for their revision
  pub DocRefuses-revision : (fault : EditFault) → Refuses (acknowledgement_refusal history asked.rev) fault → DocRefuses (range_refusal history asked) (of_edit_fault fault)
  DocRefuses-revision fault refuses =
      DocRefuses-first history asked.rev (misplaced (text_at history asked.rev) asked.start asked.len asked.spans) fault refuses

  -- or else for what is no place of its text, where anything is
  module _ (text : List ℕ) (kept : acknowledgement_refusal history asked.rev ≡ None) (is : text ≡ text_at history asked.rev) where
    placed_first : range_refusal history asked ≡ option_map of_range (misplaced text asked.start asked.len asked.spans)
    placed_first =
        ap (at_first history asked.rev (misplaced (text_at history asked.rev) asked.start asked.len asked.spans)) kept ∙ ap (λ t. option_map of_range (misplaced t asked.start asked.len asked.spans)) (sym is)

    pub range_refusal-none : misplaced text asked.start asked.len asked.spans ≡ None → range_refusal history asked ≡ None
    range_refusal-none none = placed_first ∙ ap (option_map of_range) none

    pub DocRefuses-place : (fault : SpansFault) → IsRefused (misplaced text asked.start asked.len asked.spans) fault →
        DocRefuses (range_refusal history asked) (of_spans_fault fault)
    DocRefuses-place (Ranges.Misplaced member) refused = λ some. placed_first ∙ ap (option_map of_range) refused
    DocRefuses-place Ranges.NoMemory refused = λ some. absurd (some refl)

-- want of memory is no refusal
pub DocRefuses-lack : (refusal : Option DocRefusal) → DocRefuses refusal NoMemory
DocRefuses-lack refusal = λ some. absurd (some refl)
