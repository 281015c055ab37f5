use Rattle.subset_runs.proofs.MemberLaws.{Renumbers-found, Renumbers-within, Renumbers-rise, members-expand}
use Rattle.subset_runs.proofs.laws.renumbering.Goals as goal

pub returns-clause-found : goal.returns-clause-found
returns-clause-found c = λ by i h. Renumbers-found by i h

pub returns-clause-within : goal.returns-clause-within
returns-clause-within c = λ by i p at. Renumbers-within by i p at

pub returns-clause-rises : goal.returns-clause-rises
returns-clause-rises c = λ by i j p q one other h. Renumbers-rise by i j p q one other h

pub returns-clause-members : goal.returns-clause-members
returns-clause-members c = λ xs by k same h. members-expand k xs by same h
