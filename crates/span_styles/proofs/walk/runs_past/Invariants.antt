use Rattle.std.proofs.Common.{◌-◌, length, drop}
use Rattle.span_styles.specs.Inner.{layer_of}
use Rattle.span_styles.proofs.WalkLemmas.{IsPassing}
use Rattle.span_styles.proofs.walk.runs_past.Given as goal

abbrev pub invariant-loop-rest : goal.invariant-loop-rest
invariant-loop-rest l = IsPassing l.at (drop (l.at - l.from) (layer_of l.from l.runs)) l.rest

abbrev pub decreases-loop-rest : goal.decreases-loop-rest
decreases-loop-rest l = length l.rest
