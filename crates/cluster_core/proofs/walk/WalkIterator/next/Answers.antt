use Rattle.std.proofs.Common.{length, refl, ap, arith, rules}
use Rattle.cluster_core.specs.Walk.{walk_left, walk_tab}
use Rattle.cluster_core.proofs.WalkLemmas.{placed-step, placed-none}
use Rattle.cluster_core.proofs.walk.WalkIterator.next.Goals as goal

pub returns-in-Some-clause-steps : goal.returns-in-Some-clause-steps
unfolding walk_left walk_tab
returns-in-Some-clause-steps c =
    (placed-step _ _ _ _ _ _ _ _ c.in-Some.ensures.parts c.char_count.ensures.count c.column_after-self.ensures.value, refl)

pub returns-in-Some-clause-goes : goal.returns-in-Some-clause-goes
unfolding walk_left
returns-in-Some-clause-goes c =
    let shorter = ap length
    (placed-step c.args.self.now.tab c.args.self.now.gap c.args.self.now.column _ _ _ _ _ c.in-Some.ensures.parts c.char_count.ensures.count c.column_after-self.ensures.value) in
    search (rules, arith)

pub returns-in-None-clause-steps : goal.returns-in-None-clause-steps
unfolding walk_left walk_tab
returns-in-None-clause-steps c =
    let empty = placed-none c.args.self.now.tab c.args.self.now.gap c.args.self.now.column c.args.self.now.rest.now (c.in-None.ensures.none.0 refl) in
    ((empty, empty), refl)
