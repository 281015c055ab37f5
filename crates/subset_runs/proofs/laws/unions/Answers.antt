use Rattle.subset_runs.proofs.TransformLaws.{expand_as-union, expand-minus, items_outside-at_each}
use Rattle.std.specs.Prelude.{not, ◌&&◌, ◌||◌}
use Rattle.subset_runs.proofs.laws.unions.Goals as goal

pub returns-clause-expand_union : goal.returns-clause-expand_union
returns-clause-expand_union c = λ inside xs ys by same. expand_as-union inside xs ys by same

pub returns-clause-expand_minus : goal.returns-clause-expand_minus
returns-clause-expand_minus c = λ xs ys by same. expand-minus xs ys by same

pub returns-clause-shrink_union : goal.returns-clause-shrink_union
returns-clause-shrink_union c = λ xs ys by. items_outside-at_each (λ x y. x || y) by xs ys

pub returns-clause-shrink_minus : goal.returns-clause-shrink_minus
returns-clause-shrink_minus c = λ xs ys by. items_outside-at_each (λ x y. x && not y) by xs ys
