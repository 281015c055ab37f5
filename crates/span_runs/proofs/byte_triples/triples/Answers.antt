use Rattle.std.proofs.Common.{◌≤◌, length, subst, sym, ap, ◌∙◌}
use Rattle.plain_edits.specs.declared.style.Span.{Span}
use Rattle.span_runs.specs.Spans.{sorted_spans}
use Rattle.span_runs.specs.Triples.{LieInLine}
use Rattle.span_runs.proofs.PlaceLemmas.{all-sorted_spans}
use Rattle.span_runs.proofs.byte_triples.triples.Goals as goal

pub placed-requires : goal.placed-requires
placed-requires c =
    subst (LieInLine (length c.args.line.now)) (sym (c.as_slice.ensures ∙ c.in_ok-sorted.ensures ∙ ap sorted_spans c.in_ok-copied.ensures))
    (all-sorted_spans (λ (span : Span). (span.start ≤ span.end) × (span.end ≤ length c.args.line.now)) c.args.spans.now c.requires)
