use Rattle.std.specs.Io.KnownBytes.{Keeps}
use Rattle.outside.proofs.std_source.read_again.Given as goal

-- so far only interruptions, which keep the bytes that are left
abbrev pub invariant-loop : goal.invariant-loop
invariant-loop g l = Keeps (g.R.Read.remaining l.initial.reader) (g.R.Read.remaining l.reader)
