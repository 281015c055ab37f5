use Rattle.std.proofs.Common.{sym, ◌∙◌, arith}
use Rattle.rev_engine.proofs.FrozenLemmas.{AreAhead-next, found_frozen, none_frozen}
use Rattle.rev_engine.proofs.undo.frozen.Goals as goal

pub returns-then-is_collected-clause-some : goal.returns-then-is_collected-clause-some
returns-then-is_collected-clause-some c =
    found_frozen c.args.revs.now c.args.groups.now c.loop-group.group-index (rw c.undone-undone.ensures.groups at c.undone-undone.ensures.rising)
    c.requires c.loop-group-test.true (sym c.is_collected.ensures.collected ∙ c.if-is_collected.true) c.loop-group.invariant

pub loop-group-preserved : goal.loop-group-preserved
loop-group-preserved c =
    AreAhead-next c.args.revs.now c.args.groups.now c.loop-group.group-index c.loop-group-test.true
    (sym c.is_collected.ensures.collected ∙ c.if-is_collected.false) c.loop-group.invariant

pub returns-clause-none : goal.returns-clause-none
returns-clause-none c =
    none_frozen c.args.revs.now c.args.groups.now c.loop-group.group-index (rw c.undone-undone.ensures.groups at c.undone-undone.ensures.rising)
    c.requires (omega (arith, c.loop-group-test.false)) c.loop-group.invariant
