use Rattle.std.proofs.Common.{◌≡◌, drop}
use Rattle.core_session.specs.Grown.{are_sent}
use Rattle.xi_top.proofs.status.are_sent.Given as goal

-- those before this place were sent
abbrev pub invariant-loop-entry : goal.invariant-loop-entry
invariant-loop-entry l = are_sent (drop l.entry-index l.journal) ≡ are_sent l.journal
