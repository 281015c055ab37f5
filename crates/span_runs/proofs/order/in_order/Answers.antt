use Rattle.std.proofs.Common.{rules, ap, ◌∙◌}
use Rattle.std.proofs.lemmas.List.Sorted.{answers_always}
use Rattle.span_runs.specs.Spans.{sorted_spans}
use Rattle.span_runs.proofs.OrderLemmas.{sorted_spans-from_sort}
use Rattle.span_runs.proofs.order.in_order.Goals as goal

pub returns : goal.returns
returns c =
    c.from_vec.ensures ∙
    sorted_spans-from_sort c.into_vec-sorted.result.items c.sort_by_key.new.self.items c.sort_by_key.ensures.permutation
    (c.in_ok-sort_by_key.ensures.sorted (λ span. (span.start, span.style, span.end)) (answers_always _ _ _ (λ f a r g h. search rules))) ∙
    ap sorted_spans c.into_vec-sorted.ensures
