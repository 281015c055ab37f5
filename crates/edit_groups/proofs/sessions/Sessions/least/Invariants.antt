use Rattle.std.proofs.Common.{◌≡◌, drop}
use Rattle.edit_groups.specs.Sessions.{least_acknowledged}
use Rattle.edit_groups.proofs.sessions.Sessions.least.Given as goal

abbrev pub invariant-loop-session : goal.invariant-loop-session
invariant-loop-session l = least_acknowledged l.least (drop l.session-index l.self) ≡ least_acknowledged l.head l.self
