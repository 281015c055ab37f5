use Rattle.std.proofs.Common.{◌≡◌, ◌+◌, ◌-◌}
use Rattle.plain_edits.specs.History.{head}
use Rattle.plain_collection.specs.Inner.{settled_from}
use Rattle.plain_collection.proofs.rest.is_settled.Given as goal

abbrev pub invariant-loop-rev : goal.invariant-loop-rev
invariant-loop-rev l = settled_from l.history l.group l.rev ≡ settled_from l.history l.group l.floor

abbrev pub decreases-loop-rev : goal.decreases-loop-rev
decreases-loop-rev l = head l.history + 1 - l.rev
