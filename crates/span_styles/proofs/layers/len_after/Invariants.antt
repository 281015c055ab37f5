use Rattle.std.proofs.Common.{◌≡◌, ◌+◌, length}
use Rattle.span_styles.specs.Layers.{length_after}
use Rattle.span_styles.specs.Inner.{shown_count}
use Rattle.span_styles.proofs.layers.len_after.Given as goal

abbrev pub invariant-loop-walk : goal.invariant-loop-walk
invariant-loop-walk l = l.len + shown_count l.walk ≡ length_after l.units

abbrev pub decreases-loop-walk : goal.decreases-loop-walk
decreases-loop-walk l = length l.walk
