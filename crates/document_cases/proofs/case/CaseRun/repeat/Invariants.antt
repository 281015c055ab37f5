use Rattle.std.proofs.Common.{◌≡◌, length}
use Rattle.document_cases.proofs.case.CaseRun.repeat.Given as goal

abbrev pub invariant-loop : goal.invariant-loop
invariant-loop l = length l.self.doc.text.sessions ≡ 2
