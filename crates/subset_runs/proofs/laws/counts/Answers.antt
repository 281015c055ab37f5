use Rattle.subset_runs.proofs.TransformLaws.{count-union, count-expand, count-expand_in, count-shrink}
use Rattle.subset_runs.proofs.FlagLemmas.{count-complement}
use Rattle.subset_runs.proofs.laws.counts.Goals as goal

pub returns-clause-union : goal.returns-clause-union
returns-clause-union c = λ xs ys same. count-union xs ys same

pub returns-clause-complement : goal.returns-clause-complement
returns-clause-complement c = λ xs. count-complement xs

pub returns-clause-expand : goal.returns-clause-expand
returns-clause-expand c = λ xs by same. count-expand xs by same

pub returns-clause-expand_in : goal.returns-clause-expand_in
returns-clause-expand_in c = λ xs by same. count-expand_in xs by same

pub returns-clause-shrink : goal.returns-clause-shrink
returns-clause-shrink c = λ xs by same. count-shrink xs by same
