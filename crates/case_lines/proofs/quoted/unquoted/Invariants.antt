use Rattle.std.proofs.Common.{drop}
use Rattle.case_lines.proofs.QuotedLemmas.{Left}
use Rattle.case_lines.proofs.quoted.unquoted.Given as goal

abbrev pub invariant-loop-byte : goal.invariant-loop-byte
invariant-loop-byte l = Left l.written l.text.items l.is_marked (drop l.byte-index l.written)
