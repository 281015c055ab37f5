use Rattle.std.proofs.Common.{map}
use Rattle.core_session.specs.Core.{sink_of}
use Rattle.session_load.specs.Table.{IsTableOf, tallies_of}
use Rattle.session_load.proofs.load.enter_lines.Given as goal

-- the table is that of the lines so far
abbrev pub invariant-loop-line : goal.invariant-loop-line
invariant-loop-line l = record {
  table : IsTableOf (map (λ line. line.now) l.yielded) (sink_of l.fn.core).counts (sink_of l.core).counts (tallies_of l.table);
}
