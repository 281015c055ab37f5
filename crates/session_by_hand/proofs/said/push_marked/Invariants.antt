use Rattle.std.proofs.Common.{◌≡◌, ◌++◌, drop}
use Rattle.session_by_hand.specs.Said.{marked, marked_from}
use Rattle.session_by_hand.proofs.said.push_marked.Given as goal

-- what is said so far, and what the rest says
abbrev pub invariant-loop-byte : goal.invariant-loop-byte
invariant-loop-byte l = l.out.items ++ marked_from l.is_start (drop l.byte-index l.bytes) ≡ l.initial.out.items ++ marked l.bytes
