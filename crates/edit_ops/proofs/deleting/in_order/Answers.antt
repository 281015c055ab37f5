use Rattle.std.proofs.Common.{rules}
use Rattle.std.proofs.lemmas.List.Sorted.{IsNonDecreasingBy-from_sort, answers_always}
use Rattle.edit_ops.proofs.deleting.in_order.Goals as goal

pub returns-clause-same : goal.returns-clause-same
returns-clause-same c = rw (c.from_vec.ensures) (rw (c.into_vec-sorted.ensures) at c.sort_by_key.ensures.permutation)

pub returns-clause-order : goal.returns-clause-order
returns-clause-order c =
    rw (c.from_vec.ensures)
    (IsNonDecreasingBy-from_sort (λ range. range.start) _ (c.in_ok-sort_by_key.ensures.sorted (λ range. range.start) (answers_always _ _ _ (λ f a r g h. search rules))))
