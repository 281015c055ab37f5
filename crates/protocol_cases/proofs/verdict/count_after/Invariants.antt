use Rattle.std.proofs.Common.{◌≡◌, ◌+◌, ◌≤◌, drop}
use Rattle.protocol_cases.specs.Shelf.{count_after}
use Rattle.protocol_cases.proofs.verdict.count_after.Given as goal

-- the count so far, with that of the rest
abbrev pub invariant-loop-file : goal.invariant-loop-file
invariant-loop-file l = record {
  count : l.count + count_after l.said (drop l.file-index l.said) ≡ count_after l.said l.said;
  few : l.count ≤ l.file-index;
}
