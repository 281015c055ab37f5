use Rattle.std.proofs.Common.{sym}
use Rattle.delta_core.proofs.WalkLemmas.{IsStretch-gap}
use Rattle.delta_core.proofs.unit_walk.next_stretch.Goals as goal

pub returns-in-Some-2 : goal.returns-in-Some-2
returns-in-Some-2 c =
    IsStretch-gap _ _ _ _ _ c.requires.rise (sym c.in-Some.ensures.value) c.if-run-at.false c.requires.more c.min-in-Some-2.ensures
