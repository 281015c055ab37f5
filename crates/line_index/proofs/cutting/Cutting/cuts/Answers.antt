use Rattle.std.proofs.Common.{◌∙◌, arith}
use Rattle.line_index.specs.Inner.{cuts_under}
use Rattle.line_index.proofs.CuttingLemmas.{ends-rise, line-fits, line-made}
use Rattle.line_index.proofs.cutting.Cutting.cuts.Goals as goal

pub put_line-requires-clause-rise : goal.put_line-requires-clause-rise
put_line-requires-clause-rise g c =
    ends-rise c.args.self.now.width c.args.self.now.tab c.args.self.now.rope.now c.loop-at.at c.in_ok-line.line c.as_slice.result.now
    c.len-characters.ensures.characters c.requires.small c.in_ok-line.ensures (c.as_slice.ensures ∙ c.in_ok-ends.ensures.value)

pub put_line-requires-clause-fits : goal.put_line-requires-clause-fits
put_line-requires-clause-fits g c =
    line-fits c.args.self.now.width c.args.self.now.tab c.args.self.now.rope.now c.args.from c.loop-at.at c.in_ok-line.line c.as_slice.result.now
    (cuts_under c.loop-at.tree) c.len-characters.ensures.characters c.requires.small c.loop-at.invariant.low c.in_ok-line.ensures
    (c.as_slice.ensures ∙ c.in_ok-ends.ensures.value) c.loop-at.invariant.made

pub loop-at-preserved : goal.loop-at-preserved
loop-at-preserved g c =
    let low = c.loop-at.invariant.low in
    record {
      low = omega arith;
      high = omega (arith, c.loop-at-test.true);
      made =
          line-made c.args.self.now.width c.args.self.now.tab c.args.self.now.rope.now c.args.from c.loop-at.at c.in_ok-line.line c.as_slice.result.now
          (cuts_under c.loop-at.tree) (cuts_under c.put_line.new.tree) low c.in_ok-line.ensures (c.as_slice.ensures ∙ c.in_ok-ends.ensures.value)
          c.loop-at.invariant.made c.in_ok-put_line.ensures;
      ticks = omega (arith, c.breaks.ensures.tick, c.loop-at.invariant.ticks, low);
    }
