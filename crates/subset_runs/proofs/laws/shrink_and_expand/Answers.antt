use Rattle.subset_runs.proofs.TransformLaws.{items_outside-expand_as, expand-shrink, expand_in-shrink, expand_in_by_union}
use Rattle.subset_runs.proofs.laws.shrink_and_expand.Goals as goal

pub returns-clause-shrink_expand : goal.returns-clause-shrink_expand
returns-clause-shrink_expand c = λ inside xs by same. items_outside-expand_as inside xs by same

pub returns-clause-expand_shrink : goal.returns-clause-expand_shrink
returns-clause-expand_shrink c = λ xs by same. expand-shrink xs by same

pub returns-clause-expand_in_shrink : goal.returns-clause-expand_in_shrink
returns-clause-expand_in_shrink c = λ xs by same. expand_in-shrink xs by same

pub returns-clause-expand_in_union : goal.returns-clause-expand_in_union
returns-clause-expand_in_union c = λ xs by same. expand_in_by_union xs by same
