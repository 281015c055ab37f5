use Rattle.std.proofs.Common.{sym}
use Rattle.subset_runs.proofs.RunLemmas.{IsFront-gap, IsFront-run, IsFront-end, at_before}
use Rattle.subset_runs.proofs.walk.Walk.front.Goals as goal

pub returns-in-Some : goal.returns-in-Some
returns-in-Some c =
    rw (← c.self.view_is) (IsFront-gap _ _ _ _ c.self.invariant (sym c.in-Some.ensures.value) c.if-self-start.true)

pub returns-in-Some-2 : goal.returns-in-Some-2
returns-in-Some-2 c =
    rw (← c.self.view_is) (IsFront-run _ _ _ _ c.self.invariant (sym c.in-Some.ensures.value) c.if-self-start.false)

pub returns-in-None : goal.returns-in-None
returns-in-None c =
    rw (← c.self.view_is) (IsFront-end _ _ _ (sym c.in-None.ensures.value) (at_before _ _ _ _ c.self.view_is c.requires))
