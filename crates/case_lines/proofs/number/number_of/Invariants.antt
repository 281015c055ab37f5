use Rattle.std.proofs.Common.{◌≡◌, drop}
use Rattle.case_lines.specs.Number.{number_of, with_digits}
use Rattle.case_lines.proofs.number.number_of.Given as goal

abbrev pub invariant-loop-digit : goal.invariant-loop-digit
invariant-loop-digit l = with_digits l.number (drop l.digit-index l.text) ≡ number_of l.text
