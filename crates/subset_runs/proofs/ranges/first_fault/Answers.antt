use Rattle.std.specs.Prelude.{suc, slice_index_or}
use Rattle.std.proofs.Common.{ℕ, ◌+◌, ◌≡◌, add-zero, inl, inr, subst, arith}
use Rattle.subset_runs.specs.Ranges.{IsRangeFault, IsFirstFault}
use Rattle.subset_runs.proofs.RangeLemmas.{fault_here, fault_later, good_later}
use Rattle.subset_runs.proofs.ranges.first_fault.Goals as goal
use Rattle.subset_runs.proofs.ranges.first_fault.Goals.{then-range-low-via-then-range-low, then-range-low-via-else-range-low+then-range, then-range-low-via-else-range-low+else-range+then-len-range}

pub returns-then-range-low-clause-found : goal.returns-then-range-low-clause-found
returns-then-range-low-clause-found c =
    let ranges = c.args.ranges.now in
    let index = c.loop-index.index in
    let bad : IsRangeFault c.args.len c.loop-index.low (slice_index_or ranges index (0, 0)) =
    elim c.then-range-low.branch [
      | then-range-low-via-then-range-low w ↦ inr (inl w.if-range-low.true)
      | then-range-low-via-else-range-low+then-range w ↦ inl w.if-range.true
      | then-range-low-via-else-range-low+else-range+then-len-range w ↦ inr (inr w.if-len-range.true)
    ] in
    rw add-zero at (c.loop-index.invariant.fault 0 (fault_here _ _ index ranges (0, 0) c.loop-index-test.true bad))

pub loop-index-preserved : goal.loop-index-preserved
loop-index-preserved c =
    let ranges = c.args.ranges.now in
    let index = c.loop-index.index in
    record {
      fault = λ i bad.
          let moved : index + suc i ≡ index + 1 + i = omega arith in
          subst (λ (k : ℕ). IsFirstFault c.args.len 0 ranges k) moved (c.loop-index.invariant.fault (suc i) (fault_later _ _ index i ranges (0, 0) c.loop-index-test.true (c.if-range.false, c.if-range-low.false, c.if-len-range.false) bad));
      good = λ rest. c.loop-index.invariant.good (good_later _ _ index ranges (0, 0) c.loop-index-test.true (c.if-range.false, c.if-range-low.false, c.if-len-range.false) rest);
    }
