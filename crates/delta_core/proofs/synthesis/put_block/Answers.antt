use Rattle.delta_core.proofs.AppearLemmas.{PutsBlock-kept, PutsBlock-passed, PutsBlock-added, PutsBlock-none}
use Rattle.delta_core.proofs.synthesis.put_block.Goals as goal

pub returns-in-true-true-clause-puts : goal.returns-in-true-true-clause-puts
returns-in-true-true-clause-puts c = rw (c.in-true-true.is-0, c.in-true-true.is-1) (PutsBlock-none _ c.args.block.len _)

pub returns-in_ok-add-in-true-false-clause-puts : goal.returns-in_ok-add-in-true-false-clause-puts
returns-in_ok-add-in-true-false-clause-puts c =
    rw (c.in-true-false.is-0, c.in-true-false.is-1, c.split_at_gap.ensures.back)
    (PutsBlock-added _ _ c.args.block.len _ _ c.split_at_gap.ensures.front c.in_ok-add-in-true-false.ensures.base
    c.in_ok-add-in-true-false.ensures.kept c.in_ok-add-in-true-false.ensures.added)

pub returns-in_ok-pass-in-false-true-clause-puts : goal.returns-in_ok-pass-in-false-true-clause-puts
returns-in_ok-pass-in-false-true-clause-puts c =
    rw (c.in-false-true.is-0, c.in-false-true.is-1)
    (PutsBlock-passed _ c.args.block.len _ _ c.in_ok-pass-in-false-true.ensures.base c.in_ok-pass-in-false-true.ensures.kept
    c.in_ok-pass-in-false-true.ensures.added)

pub returns-in_ok-keep-in-false-false-clause-puts : goal.returns-in_ok-keep-in-false-false-clause-puts
returns-in_ok-keep-in-false-false-clause-puts c =
    rw (c.in-false-false.is-0, c.in-false-false.is-1)
    (PutsBlock-kept _ c.args.block.len _ _ c.in_ok-keep-in-false-false.ensures.base c.in_ok-keep-in-false-false.ensures.kept
    c.in_ok-keep-in-false-false.ensures.added)
