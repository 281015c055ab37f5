use Rattle.std.proofs.Common.{◌≡◌, ◌-◌, leb, subst, drop, arith, rules}
use Rattle.std.proofs.lemmas.List.{take_rest}
use Rattle.std.proofs.lemmas.List.Sorted.{IsPartitionPoint-from_clause, IsPartitionedBy-leb}
use Rattle.span_styles.specs.Inner.{layer_of, IsRestAt}
use Rattle.span_styles.proofs.RunLemmas.{IsRestAt-search, ends_rise}
use Rattle.span_styles.proofs.run.runs_after.Goals as goal

pub returns : goal.returns
returns c =
    let point = IsPartitionPoint-from_clause (λ run. leb run.end c.args.at) _ _ c.partition_point-index.ensures.partitioned
    (IsPartitionedBy-leb (λ run. run.end) _ c.args.at (ends_rise 0 _ c.requires)) (λ a r g h. search rules) in
    let none : c.args.at - 0 ≡ c.args.at = omega arith in
    rw (take_rest c.args.runs.now c.partition_point-index.result)
    (subst (λ n. IsRestAt c.args.at (drop n (layer_of 0 c.args.runs.now)) (drop c.partition_point-index.result c.args.runs.now)) none
    (IsRestAt-search 0 c.args.at c.args.runs.now c.partition_point-index.result c.requires (omega arith) c.partition_point-index.ensures.bound point))
