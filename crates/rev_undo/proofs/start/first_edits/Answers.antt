use Rattle.std.proofs.Common.{[], arith}
use Rattle.rev_undo.proofs.StartLemmas.{firsts_at_head, turns_done, turns_step}
use Rattle.rev_undo.proofs.start.first_edits.Goals as goal

pub loop-index-init : goal.loop-index-init
loop-index-init c = λ after rest. rw c.new-firsts.ensures at rest

pub loop-index-preserved : goal.loop-index-preserved
loop-index-preserved c =
    turns_step c.args.revs.now c.args.groups.now [] c.loop-index.firsts c.in_ok-firsts.firsts c.loop-index.index c.at.result c.at.result c.len-index-end.ensures.rising
    (omega (arith, c.len-index-end.ensures.len)) c.at.ensures c.in_ok-firsts.ensures c.loop-index.invariant

pub returns : goal.returns
returns c =
    firsts_at_head c.args.revs.now c.args.groups.now c.loop-index.firsts (rw c.undone-undone.ensures.groups at c.undone-undone.ensures.rising)
    c.len-index-end.ensures.rising
    (turns_done c.args.revs.now c.args.groups.now [] c.loop-index.firsts c.loop-index.index (omega (arith, c.len-index-end.ensures.len)) c.loop-index.invariant)
