use Rattle.subset_runs.proofs.TransformLaws.{expand_as-expand_as, items_outside-items_outside}
use Rattle.subset_runs.proofs.laws.two_steps.Goals as goal

pub returns-clause-expand_expand : goal.returns-clause-expand_expand
returns-clause-expand_expand c = λ inside xs by more same. expand_as-expand_as inside xs by more same

pub returns-clause-shrink_shrink : goal.returns-clause-shrink_shrink
returns-clause-shrink_shrink c = λ xs by more same all. items_outside-items_outside by more xs same all
