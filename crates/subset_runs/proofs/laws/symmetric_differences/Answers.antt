use Rattle.subset_runs.proofs.TransformLaws.{symmetric_difference-back, symmetric_difference_comm, symmetric_difference_by_minus, symmetric_difference-self}
use Rattle.subset_runs.proofs.laws.symmetric_differences.Goals as goal

pub returns-clause-back : goal.returns-clause-back
returns-clause-back c = λ xs ys same. symmetric_difference-back xs ys same

pub returns-clause-either : goal.returns-clause-either
returns-clause-either c = λ xs ys. symmetric_difference_comm xs ys

pub returns-clause-alone : goal.returns-clause-alone
returns-clause-alone c = λ xs ys. symmetric_difference_by_minus xs ys

pub returns-clause-none : goal.returns-clause-none
returns-clause-none c = λ xs. symmetric_difference-self xs
