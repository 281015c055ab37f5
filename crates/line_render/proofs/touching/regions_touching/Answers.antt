use Rattle.std.proofs.Common.{◌≡◌, ap, sym, ◌∙◌, subst, ltb, leb, arith, rules}
use Rattle.std.specs.Prelude.{nat_lt, nat_le, not}
use Rattle.std.specs.List.{filter}
use Rattle.std.specs.List.Sorted.{IsNonDecreasingBy}
use Rattle.std.proofs.lemmas.List.Sorted.{IsPartitionPoint-from_clause, IsPartitionedBy-leb, IsPartitionedBy-ltb, IsNonDecreasingBy-drop}
use Rattle.plain_text.specs.declared.selection.Region.{Region}
use Rattle.selection_core.specs.Selection.{lesser_end, greater_end}
use Rattle.line_render.proofs.OrderLemmas.{AreFrom-selection, lesser_ends_rise, greater_ends_rise, filter-front, filter-back}
use Rattle.line_render.proofs.touching.regions_touching.Goals as goal

pub returns : goal.returns
returns c =
    let regions = c.args.regions.now in
    let first = c.partition_point-first.result in
    let rest = c.split_at.result.1.now in
    let count = c.partition_point-count.result in
    let up = AreFrom-selection regions c.requires in
    let point = IsPartitionPoint-from_clause (λ (r : Region). ltb (greater_end r) c.args.start) _ _ c.partition_point-first.ensures.partitioned
    (IsPartitionedBy-ltb greater_end regions c.args.start (greater_ends_rise 0 regions up)) (λ a r q k. search rules) in
    let rest_is : rest ≡ filter (λ (r : Region). not (nat_lt (greater_end r) c.args.start)) regions =
    c.split_at.ensures.back ∙ sym (filter-back (λ (r : Region). nat_lt (greater_end r) c.args.start) first regions
    (λ k d below inside. point.0 k d (omega arith) below) (λ k d above inside. point.1 k d above inside)) in
    let rise : IsNonDecreasingBy lesser_end rest =
    subst (IsNonDecreasingBy lesser_end) (sym c.split_at.ensures.back) (IsNonDecreasingBy-drop lesser_end first regions (lesser_ends_rise 0 regions up)) in
    let other = IsPartitionPoint-from_clause (λ (r : Region). leb (lesser_end r) c.args.end) _ _ c.partition_point-count.ensures.partitioned
    (IsPartitionedBy-leb lesser_end rest c.args.end rise) (λ a r q k. search rules) in
    c.split_at-2.ensures.front ∙
    sym (filter-front (λ (r : Region). nat_le (lesser_end r) c.args.end) count rest
    (λ k d below inside. other.0 k d (omega arith) below) (λ k d above inside. other.1 k d above inside)) ∙
    ap (filter (λ (r : Region). nat_le (lesser_end r) c.args.end)) rest_is
