use Rattle.std.proofs.lemmas.Result.{IfOk-weaker}
use Rattle.rev_engine.proofs.DoneLemmas.{IsChangeBy-short, IsChangeBy-stale}
use Rattle.rev_engine.proofs.engine.Engine.units_to.Goals as goal

pub returns-then-is_live_head-clause-change : goal.returns-then-is_live_head-clause-change
returns-then-is_live_head-clause-change c = λ history is.
    IsChangeBy-short c.args.self.now.union c.args.self.now.revisions c.args.rev c.args.edit c.requires.base _ _ c.requires.put history is
    (c.is_live_head.ensures.is c.if-is_live_head.true) (c.is_live_head.ensures.live c.if-is_live_head.true) c.requires.canonical

pub returns-clause-change : goal.returns-clause-change
returns-clause-change c = λ history is.
    IfOk-weaker c.units_from.result _ _
    (λ units between.
    IsChangeBy-stale c.args.self.now.union c.args.self.now.revisions c.args.rev c.args.edit c.requires.base _ _ c.requires.put history is units _
    c.head-head.ensures.revisions between) c.units_from.ensures
