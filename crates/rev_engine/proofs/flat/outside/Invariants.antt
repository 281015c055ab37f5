use denote.Shadow.{shadow}
use denote.Text.{Utf8}
use Rattle.std.proofs.Common.{length}
use Rattle.std.specs.Str.{chars}
use Rattle.subset_runs.specs.Subset.{items_outside}
use Rattle.rev_engine.proofs.FlatLemmas.{IsPicking}
use Rattle.rev_engine.proofs.flat.outside.Given as goal

abbrev pub invariant-loop-rest : goal.invariant-loop-rest
invariant-loop-rest l = record {
  picking : IsPicking l.made (chars l.rest) l.walk (items_outside l.dead l.text);
  utf8 : shadow (Utf8 l.rest);
}

abbrev pub decreases-loop-rest : goal.decreases-loop-rest
decreases-loop-rest l = length l.walk
