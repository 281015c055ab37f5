use Rattle.std.proofs.Common.{length, ap, arith}
use Rattle.std.proofs.lemmas.List.{length-drop}
use Rattle.subset_runs.proofs.StretchLemmas.{expand_as_added_next, expand_as_moved_next, count_added_next, count_moved_next, front_len}
use Rattle.subset_runs.proofs.FlagLemmas.{count_le_length}
use Rattle.subset_runs.proofs.steps.next_expanded.Goals as goal

pub returns-then-gap-clause-next : goal.returns-then-gap-clause-next
returns-then-gap-clause-next c =
    rw c.skip.ensures (expand_as_added_next c.args.inside _ _ c.front-gap.result c.front-gap.ensures c.if-gap.true)

pub returns-then-gap-clause-same_outside : goal.returns-then-gap-clause-same_outside
returns-then-gap-clause-same_outside c =
    rw c.skip.ensures (omega (arith, count_added_next c.args.by.now c.front-gap.result c.front-gap.ensures c.if-gap.true, front_len c.args.by.now c.front-gap.result c.front-gap.ensures, length-drop c.front-gap.result.len c.args.by.now))

pub front-piece-requires : goal.front-piece-requires
front-piece-requires c = λ none.
    omega (arith, ap length none, count_moved_next c.args.by.now c.front-gap.result c.front-gap.result.len c.front-gap.ensures c.if-gap.false (omega arith), front_len c.args.by.now c.front-gap.result c.front-gap.ensures, c.front-gap.ensures.some, length-drop c.front-gap.result.len c.args.by.now, count_le_length)

pub returns-clause-next : goal.returns-clause-next
returns-clause-next c =
    rw (c.skip-2.ensures, c.skip-3.ensures) (expand_as_moved_next c.args.inside _ _ _ _ c.min-len.result c.front-piece.ensures c.front-gap.ensures c.if-gap.false (omega arith) (omega arith))

pub returns-clause-same_outside : goal.returns-clause-same_outside
returns-clause-same_outside c =
    rw (c.skip-2.ensures, c.skip-3.ensures)
    (omega (arith, count_moved_next c.args.by.now c.front-gap.result c.min-len.result c.front-gap.ensures c.if-gap.false (omega arith), front_len c.args.by.now c.front-gap.result c.front-gap.ensures, front_len c.args.flags.now c.front-piece.result c.front-piece.ensures, length-drop c.min-len.result c.args.by.now, length-drop c.min-len.result c.args.flags.now))
