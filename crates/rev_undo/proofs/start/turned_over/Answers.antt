use Rattle.std.proofs.Common.{refl, arith}
use Rattle.rev_undo.proofs.StartLemmas.{turns_done, turns_step}
use Rattle.rev_undo.proofs.start.turned_over.Goals as goal

pub loop-group-init : goal.loop-group-init
loop-group-init c = λ after rest. rest

pub loop-group-preserved : goal.loop-group-preserved
loop-group-preserved c =
    turns_step c.args.revs.now c.args.groups.now c.args.firsts c.loop-group.made c.in_ok-made.made c.loop-group.group-index _ 0 c.requires
    (omega (arith, c.loop-group-test.true)) refl c.in_ok-made.ensures c.loop-group.invariant

pub returns : goal.returns
returns c =
    turns_done c.args.revs.now c.args.groups.now c.args.firsts c.loop-group.made c.loop-group.group-index (omega arith) c.loop-group.invariant
