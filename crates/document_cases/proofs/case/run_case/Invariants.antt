use Rattle.std.proofs.Common.{◌≡◌, length}
use Rattle.document_cases.proofs.case.run_case.Given as goal

abbrev pub invariant-loop-rest : goal.invariant-loop-rest
invariant-loop-rest l = length l.run.doc.text.sessions ≡ 2

abbrev pub decreases-loop-rest : goal.decreases-loop-rest
decreases-loop-rest l = length l.rest
