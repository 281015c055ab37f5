use Rattle.std.proofs.Common.{◌≡◌, ◌-◌, ◌≤◌, length, take}
use Rattle.outside.specs.Sink.{Gains}
use Rattle.xi_forms.proofs.write.write_piece.Given as goal

abbrev pub invariant-loop-taken : goal.invariant-loop-taken
invariant-loop-taken g l = record {
  within : l.taken ≤ length l.piece;
  gains : Gains (g.K.Sink.held l.initial.sink) (g.K.Sink.held l.sink) (take l.taken l.piece);
  failures : g.K.Sink.failures l.sink ≡ g.K.Sink.failures l.initial.sink;
  stays : g.K.Sink.faults l.initial.sink ≤ g.K.Sink.faults l.sink;
}

abbrev pub decreases-loop-taken : goal.decreases-loop-taken
decreases-loop-taken g l = length l.piece - l.taken
