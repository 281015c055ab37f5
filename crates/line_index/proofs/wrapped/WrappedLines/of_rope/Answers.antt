use Rattle.std.proofs.Common.{◌+◌, arith}
use Rattle.line_index.specs.Inner.{cuts_under}
use Rattle.line_index.proofs.WholeLemmas.{length-logical_lines}
use Rattle.line_index.proofs.WrappedLemmas.{all-lines}
use Rattle.line_index.proofs.wrapped.WrappedLines.of_rope.Goals as goal

pub cuts-requires-clause-inside : goal.cuts-requires-clause-inside
cuts-requires-clause-inside g c = omega (arith, c.lf_count.ensures.value, length-logical_lines c.args.rope.now)

pub returns-in_err-cuts-clause-ticks : goal.returns-in_err-cuts-clause-ticks
returns-in_err-cuts-clause-ticks g c = omega (arith, c.cuts.ensures.ticks, c.lf_count.ensures.value, length-logical_lines c.args.rope.now)

pub returns-in_err-copy-clause-ticks : goal.returns-in_err-copy-clause-ticks
returns-in_err-copy-clause-ticks g c = omega (arith, c.cuts.ensures.ticks, c.lf_count.ensures.value, length-logical_lines c.args.rope.now)

pub invariant_of-result : goal.invariant_of-result
invariant_of-result g c = record {
  wraps = c.requires;
  are =
      all-lines c.args.width c.args.tab c.args.rope.now (cuts_under c.in_ok-cuts.cuts) c.in_ok-copy.field-0 (c.lf_count.result + 1)
      (omega (arith, c.lf_count.ensures.value, length-logical_lines c.args.rope.now)) c.in_ok-cuts.ensures.cuts c.in_ok-copy.ensures;
  characters = rw c.in_ok-copy.ensures c.check_length.ensures.characters;
  small = rw c.in_ok-copy.ensures c.in_ok-check_length.ensures.small;
}

pub returns-clause-ticks : goal.returns-clause-ticks
returns-clause-ticks g c = omega (arith, c.cuts.ensures.ticks, c.lf_count.ensures.value, length-logical_lines c.args.rope.now)
