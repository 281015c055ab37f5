use Rattle.std.proofs.Common.{◌+◌, length, ap, arith}
use Rattle.span_styles.proofs.RunLemmas.{IsPushed-from, LosesLast-runs}
use Rattle.span_styles.proofs.run.StyleRuns.push.Goals as goal

pub invariant_of-self : goal.invariant_of-self
invariant_of-self c =
    rw c.in_err-push.ensures.items (LosesLast-runs _ _ _ c.self.invariant c.take_last_of.ensures)

pub invariant_of-self-2 : goal.invariant_of-self-2
invariant_of-self-2 c =
    let len = ap length c.self.view_is in
    let pushed = IsPushed-from _ _ c.args.n (c.len.result + c.args.n) _ c.self.invariant c.take_last_of.ensures (omega arith) (omega (arith, len)) in
    rw c.in_ok-push.ensures.items pushed.runs

pub returns : goal.returns
returns c =
    let len = ap length c.self.view_is in
    let pushed = IsPushed-from _ _ c.args.n (c.len.result + c.args.n) _ c.self.invariant c.take_last_of.ensures (omega arith) (omega (arith, len)) in
    rw (c.in_ok-push.ensures.items, ← c.self.view_is) pushed.layer
