use Rattle.std.specs.Io.KnownBytes.{Keeps}
use Rattle.outside.proofs.std_sink.write_again.Given as goal

-- so far only interruptions, which keep the bytes that are held
abbrev pub invariant-loop : goal.invariant-loop
invariant-loop g l = Keeps (g.W.Write.contents l.initial.writer) (g.W.Write.contents l.writer)
