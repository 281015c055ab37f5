use Rattle.std.proofs.Common.{◌≡◌, drop}
use Rattle.protocol_cases.specs.Verdict.{files_fault}
use Rattle.protocol_cases.proofs.verdict.files_fault.Given as goal

-- no file was wrong so far
abbrev pub invariant-loop-file : goal.invariant-loop-file
invariant-loop-file l = files_fault l.said l.shelf (drop l.file-index l.said) ≡ files_fault l.said l.shelf l.said
