use Rattle.delta_core.proofs.BuilderLemmas.{IsCanonical-closed}
use Rattle.delta_core.proofs.unit_builder.UnitBuilder.into_units.Goals as goal

pub returns-clause-canonical : goal.returns-clause-canonical
returns-clause-canonical c =
    rw (c.in_ok-push_run.ensures.pushed, c.in_ok-push_added.ensures.pushed) (IsCanonical-closed _ _ _ _ _ c.self.invariant)
