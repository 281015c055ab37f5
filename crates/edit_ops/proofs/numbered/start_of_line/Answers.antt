use Rattle.std.proofs.Common.{◌+◌, ℕ, arith, subst, sym, ◌∙◌}
use Rattle.edit_ops.proofs.HeadLemmas.{StandsBetween, StandsBetween-all, StandsBetween-left, StandsBetween-none, StandsBetween-right, head-is, start_of_numbered-inside}
use Rattle.edit_ops.proofs.numbered.start_of_line.Goals as goal

pub loop-low-init : goal.loop-low-init
loop-low-init g c =
    let count = c.lines-high.ensures.count in record {
      inside = omega arith;
      sound = c.lines-high.ensures.sound;
      stands = subst (λ (n : ℕ). StandsBetween (g.T.TextView.pieces_of c.args.view.now) (c.args.line + 1) 0 n) (sym count) (StandsBetween-all (g.T.TextView.pieces_of c.args.view.now) (c.args.line + 1));
    }

pub returns-then-head-line-clause-value : goal.returns-then-head-line-clause-value
returns-then-head-line-clause-value g c =
    let inv = c.loop-low.invariant in head-is _ _ inv.sound _ c.head_of-head.result c.head_of-head.ensures c.args.line c.if-head-line.true

pub returns-then-head-line-clause-inside : goal.returns-then-head-line-clause-inside
returns-then-head-line-clause-inside g c =
    omega (arith, returns-then-head-line-clause-value g c, start_of_numbered-inside (g.T.TextView.text_of c.args.view.now) c.args.line)

pub loop-low-preserved-then-head-line-2 : goal.loop-low-preserved-then-head-line-2
loop-low-preserved-then-head-line-2 g c =
    let inv = c.loop-low.invariant in record {
      inside = inv.inside;
      sound = inv.sound;
      stands = StandsBetween-right _ _ inv.sound _ c.head_of-head.result c.head_of-head.ensures c.args.line c.loop-low.low c.loop-low.high c.if-head-line-2.true inv.stands;
    }

pub loop-low-preserved : goal.loop-low-preserved
loop-low-preserved g c =
    let inv = c.loop-low.invariant in
    let inside = inv.inside in
    let by_then = c.head_of-head.ensures.up_to in record {
      inside = omega arith;
      sound = inv.sound;
      stands = StandsBetween-left _ _ inv.sound _ c.head_of-head.result c.head_of-head.ensures c.args.line c.loop-low.low c.loop-low.high
          (omega (arith, c.if-head-line.false, c.if-head-line-2.false)) inv.stands;
    }

pub returns-clause-value : goal.returns-clause-value
returns-clause-value g c =
    let inv = c.loop-low.invariant in
    c.text_end.ensures ∙ StandsBetween-none _ _ c.args.line c.loop-low.low c.loop-low.high inv.sound c.loop-low-test.false inv.stands
