use Rattle.std.proofs.Common.{ℕ, leb, leb-true, arith, rules, sym, ◌∙◌}
use Rattle.std.proofs.lemmas.Bool.{le-ltb, leb-false}
use Rattle.std.proofs.lemmas.List.Sorted.{IsPartitionPoint-from_clause, IsPartitionedBy-leb}
use Rattle.subset_runs.proofs.RunLemmas.{ends_rise, is_in_some-at, is_in_some-past}
use Rattle.subset_runs.proofs.subset.is_in_some.Goals as goal

pub returns-then-after-runs : goal.returns-then-after-runs
returns-then-after-runs c =
    let parted = IsPartitionedBy-leb (λ (r : ℕ × ℕ). r.1) _ c.args.i (ends_rise 0 _ c.requires) in
    let point = IsPartitionPoint-from_clause (λ r. leb r.1 c.args.i) _ _ c.partition_point-after.ensures.partitioned parted (λ a r q k. search rules) in
    sym (is_in_some-at 0 c.args.i c.partition_point-after.result c.args.runs.now (0, 0) c.requires c.if-after-runs.true
    (λ j less. leb-true _ _ (point.0 j (0, 0) (omega arith) less))
    (leb-false _ _ (point.1 _ (0, 0) (omega arith) c.if-after-runs.true)))

pub returns-else-after-runs : goal.returns-else-after-runs
returns-else-after-runs c =
    let parted = IsPartitionedBy-leb (λ (r : ℕ × ℕ). r.1) _ c.args.i (ends_rise 0 _ c.requires) in
    let point = IsPartitionPoint-from_clause (λ r. leb r.1 c.args.i) _ _ c.partition_point-after.ensures.partitioned parted (λ a r q k. search rules) in
    le-ltb _ _ (omega arith)
    ∙ sym (is_in_some-past c.args.i c.args.runs.now (0, 0) (λ j less. leb-true _ _ (point.0 j (0, 0) (omega arith) (omega arith))))
