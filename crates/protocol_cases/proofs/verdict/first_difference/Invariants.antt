use Rattle.std.proofs.Common.{◌≡◌, ◌+◌, ◌≤◌, length}
use Rattle.plain_text.specs.InputLines.{lines_of}
use Rattle.protocol_cases.specs.Verdict.{first_difference}
use Rattle.protocol_cases.proofs.verdict.first_difference.Given as goal

abbrev pub invariant-loop-expected_rest : goal.invariant-loop-expected_rest
invariant-loop-expected_rest l = record {
  rest : first_difference l.number (lines_of l.expected_rest) (lines_of l.got_rest) ≡
      first_difference 1 (lines_of l.expected) (lines_of l.got);
  count : l.number + length l.expected_rest ≤ length l.expected + 1;
}

abbrev pub decreases-loop-expected_rest : goal.decreases-loop-expected_rest
decreases-loop-expected_rest l = length l.expected_rest + length l.got_rest
