use Rattle.subset_runs.proofs.TransformLaws.{complement-complement, minus_by_complement, complement-expand}
use Rattle.subset_runs.proofs.laws.complements.Goals as goal

pub returns-clause-twice : goal.returns-clause-twice
returns-clause-twice c = λ xs. complement-complement xs

pub returns-clause-minus : goal.returns-clause-minus
returns-clause-minus c = λ xs ys. minus_by_complement xs ys

pub returns-clause-expand : goal.returns-clause-expand
returns-clause-expand c = λ xs by same. complement-expand xs by same
