use Rattle.std.proofs.lemmas.Bool.{both_ways}
use Rattle.rev_undo.proofs.AllowedLemmas.{agrees_back, agrees_from, agrees_there}
use Rattle.rev_undo.proofs.allowed.agrees_on_collected.Goals as goal

pub returns-then-all_undone : goal.returns-then-all_undone
returns-then-all_undone c = (
  λ is. agrees_from c.args.revs.now c.args.groups.now.keys (c.all_undone.ensures.0 c.if-all_undone.true) (c.all_in.ensures.0 is),
  λ agrees. c.all_in.ensures.1 (agrees_back c.args.revs.now c.args.groups.now.keys agrees),
)

pub returns-else-all_undone : goal.returns-else-all_undone
returns-else-all_undone c = (
  λ is. absurd (both_ways c.all_undone.result c.if-all_undone.false is),
  λ agrees. c.all_undone.ensures.1 (agrees_there c.args.revs.now c.args.groups.now.keys agrees),
)
