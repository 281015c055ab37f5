use Rattle.std.proofs.Common.{ltb, arith, rules, sym, ◌∙◌}
use Rattle.std.proofs.lemmas.Bool.{ltb-true, ltb-false, le-ltb}
use Rattle.std.proofs.lemmas.List.Sorted.{IsPartitionPoint-from_clause, IsPartitionedBy-ltb}
use Rattle.number_runs.specs.declared.run.NumberRun.{NumberRun}
use Rattle.number_runs.proofs.RunLemmas.{ends_rise, is_in_some-at, is_in_some-past}
use Rattle.number_runs.proofs.run.is_in_some.Goals as goal

pub returns-then-at-runs : goal.returns-then-at-runs
returns-then-at-runs c =
    let none : NumberRun = record { start = 0; end = 0 } in
    let parted = IsPartitionedBy-ltb (λ (r : NumberRun). r.end) _ c.args.number (ends_rise 0 _ c.requires) in
    let point = IsPartitionPoint-from_clause (λ (r : NumberRun). ltb r.end c.args.number) _ _ c.partition_point-at.ensures.partitioned parted (λ a r q k. search rules) in
    sym (is_in_some-at 0 c.args.number c.partition_point-at.result c.args.runs.now none c.requires c.if-at-runs.true
    (λ j less. ltb-true _ _ (point.0 j none (omega arith) less))
    (ltb-false _ _ (point.1 _ none (omega arith) c.if-at-runs.true)))

pub returns-else-at-runs : goal.returns-else-at-runs
returns-else-at-runs c =
    let none : NumberRun = record { start = 0; end = 0 } in
    let parted = IsPartitionedBy-ltb (λ (r : NumberRun). r.end) _ c.args.number (ends_rise 0 _ c.requires) in
    let point = IsPartitionPoint-from_clause (λ (r : NumberRun). ltb r.end c.args.number) _ _ c.partition_point-at.ensures.partitioned parted (λ a r q k. search rules) in
    le-ltb _ _ (omega arith)
    ∙ sym (is_in_some-past c.args.number c.args.runs.now none (λ j less. ltb-true _ _ (point.0 j none (omega arith) (omega arith))))
