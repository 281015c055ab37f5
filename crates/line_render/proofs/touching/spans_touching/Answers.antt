use Rattle.std.proofs.Common.{◌≡◌, ap, sym, ◌∙◌, subst, ltb, leb, arith, rules}
use Rattle.std.specs.Prelude.{nat_lt, nat_le, not}
use Rattle.std.specs.List.{filter}
use Rattle.std.specs.List.Sorted.{IsNonDecreasingBy}
use Rattle.std.proofs.lemmas.List.Sorted.{IsPartitionPoint-from_clause, IsPartitionedBy-leb, IsPartitionedBy-ltb, IsNonDecreasingBy-drop}
use Rattle.plain_edits.specs.declared.style.Span.{Span}
use Rattle.line_render.proofs.OrderLemmas.{filter-front, filter-back}
use Rattle.line_render.proofs.touching.spans_touching.Goals as goal

pub returns : goal.returns
returns c =
    let spans = c.args.spans.now in
    let first = c.partition_point-first.result in
    let rest = c.split_at.result.1.now in
    let count = c.partition_point-count.result in
    let point = IsPartitionPoint-from_clause (λ (r : Span). leb r.end c.args.start) _ _ c.partition_point-first.ensures.partitioned
    (IsPartitionedBy-leb (λ (r : Span). r.end) spans c.args.start c.requires.ends) (λ a r q k. search rules) in
    let rest_is : rest ≡ filter (λ (r : Span). not (nat_le r.end c.args.start)) spans =
    c.split_at.ensures.back ∙ sym (filter-back (λ (r : Span). nat_le r.end c.args.start) first spans
    (λ k d below inside. point.0 k d (omega arith) below) (λ k d above inside. point.1 k d above inside)) in
    let rise : IsNonDecreasingBy (λ (r : Span). r.start) rest =
    subst (IsNonDecreasingBy (λ (r : Span). r.start)) (sym c.split_at.ensures.back) (IsNonDecreasingBy-drop (λ (r : Span). r.start) first spans c.requires.starts) in
    let other = IsPartitionPoint-from_clause (λ (r : Span). ltb r.start c.args.end) _ _ c.partition_point-count.ensures.partitioned
    (IsPartitionedBy-ltb (λ (r : Span). r.start) rest c.args.end rise) (λ a r q k. search rules) in
    c.split_at-2.ensures.front ∙
    sym (filter-front (λ (r : Span). nat_lt r.start c.args.end) count rest
    (λ k d below inside. other.0 k d (omega arith) below) (λ k d above inside. other.1 k d above inside)) ∙
    ap (filter (λ (r : Span). nat_lt r.start c.args.end)) rest_is
