use Rattle.std.proofs.Common.{ℕ, ◌-◌, ◌≡◌, leb, ap, sym, ◌∙◌, arith, rules}
use Rattle.std.specs.List.{count_by}
use Rattle.std.proofs.lemmas.List.Sorted.{IsPartitionPoint-from_clause, IsPartitionedBy-leb}
use Rattle.plain_screen.specs.View.{layout_line_of}
use Rattle.plain_view.proofs.PieceLemmas.{RiseWithin-pieces, IsNonDecreasingBy-rise, count_by-parted, found-some, layout_line_of-there}
use Rattle.plain_view.proofs.view.PlainViewTextView.line_of.Goals as goal

pub overflow_sub-result : goal.overflow_sub-result
overflow_sub-result c =
    let pieces = c.as_slice.result.now in
    let sound = rw (sym c.as_slice.ensures) at c.self.invariant.sound in
    let parted = IsPartitionedBy-leb (λ p. p.start) pieces c.args.gap (IsNonDecreasingBy-rise _ _ pieces (RiseWithin-pieces _ pieces sound)) in
    let point = IsPartitionPoint-from_clause (λ p. leb p.start c.args.gap) _ _ c.partition_point-count.ensures.partitioned parted (λ a r q k. search rules) in
    let counted : count_by (λ p. leb p.start c.args.gap) pieces ≡ c.partition_point-count.result =
    count_by-parted (λ p. leb p.start c.args.gap) pieces c.partition_point-count.result c.partition_point-count.ensures.bound
    (λ k d lt. point.0 k d (omega arith) lt) (λ k d le lt. point.1 k d le lt) in
    found-some _ pieces c.args.gap c.partition_point-count.result sound counted

pub returns-clause-line : goal.returns-clause-line
returns-clause-line c =
    let pieces = c.as_slice.result.now in
    let sound = rw (sym c.as_slice.ensures) at c.self.invariant.sound in
    let parted = IsPartitionedBy-leb (λ p. p.start) pieces c.args.gap (IsNonDecreasingBy-rise _ _ pieces (RiseWithin-pieces _ pieces sound)) in
    let point = IsPartitionPoint-from_clause (λ p. leb p.start c.args.gap) _ _ c.partition_point-count.ensures.partitioned parted (λ a r q k. search rules) in
    let counted : count_by (λ p. leb p.start c.args.gap) pieces ≡ c.partition_point-count.result =
    count_by-parted (λ p. leb p.start c.args.gap) pieces c.partition_point-count.result c.partition_point-count.ensures.bound
    (λ k d lt. point.0 k d (omega arith) lt) (λ k d le lt. point.1 k d le lt) in
    rw (← c.self.view_is) (ap (λ (n : ℕ). n - 1) (sym counted) ∙ ap (λ ps. layout_line_of ps c.args.gap) c.as_slice.ensures)

pub returns-clause-inside : goal.returns-clause-inside
returns-clause-inside c =
    rw (returns-clause-line c, ← c.self.view_is) (layout_line_of-there c.self.inside.text c.self.inside.pieces c.args.gap c.self.invariant.sound).0
