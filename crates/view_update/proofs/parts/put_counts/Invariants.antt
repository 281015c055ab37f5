use Rattle.std.proofs.Common.{map}
use Rattle.view_update.specs.Written.{count_data}
use Rattle.view_update.specs.Fair.{IsCount}
use Rattle.view_update.proofs.Made.{Put}
use Rattle.view_update.proofs.parts.put_counts.Given as goal

abbrev pub invariant-loop-n : goal.invariant-loop-n
invariant-loop-n l = Put (map count_data) IsCount l.counts l.n-index l.initial.out l.out
