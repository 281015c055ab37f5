use Rattle.rev_collect.proofs.ChoiceLemmas.{nothing_collected}
use Rattle.rev_collect.proofs.choice.collectable.Goals as goal

pub returns-then-none_rests : goal.returns-then-none_rests
returns-then-none_rests c = nothing_collected c.args.revs.now c.args.retired.now.keys c.args.acknowledged (c.none_rests.ensures c.if-none_rests.true)
