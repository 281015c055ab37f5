use Rattle.std.proofs.Common.{ℕ, ◌≡◌, ◌-◌, ◌++◌, false, replicate, length, List, [], drop, subst, ap, sym, ◌∙◌, arith}
use Rattle.std.specs.Prelude.{slice_index_or}
use Rattle.std.proofs.lemmas.List.{drop_more, drop_all}
use Rattle.subset_runs.proofs.RangeLemmas.{IsFilled, IsFilled-more, IsFilled-end}
use Rattle.subset_runs.proofs.ranges.with_members_in.Goals as goal

pub loop-range-preserved : goal.loop-range-preserved
loop-range-preserved c =
    let ranges = c.args.ranges.now in
    let range = slice_index_or ranges c.loop-range.range-index (0, 0) in
    let out = c.loop-range.out in
    let filled = rw (drop_more ranges c.loop-range.range-index (0, 0) c.loop-range-test.true) at c.loop-range.invariant in
    let gap = c.in_ok-append.ensures.ok ∙ ap (λ (k : ℕ). out ++ replicate (range.0 - k) false) c.len.ensures in
    IsFilled-more ranges _ range c.args.len out _ _ filled gap c.in_ok-append-2.ensures.ok

pub returns : goal.returns
returns c =
    let ranges = c.args.ranges.now in
    let out = c.loop-range.out in
    let filled = rw (drop_all c.loop-range.range-index ranges c.loop-range-test.false) at c.loop-range.invariant in
    let end = c.in_ok-append-3.ensures.ok ∙ ap (λ (k : ℕ). out ++ replicate (c.args.len - k) false) c.len-2.ensures in
    IsFilled-end ranges c.args.len out _ filled end
