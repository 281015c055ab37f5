use Rattle.rev_engine.proofs.PlacedLemmas.{MayPush-placed, longer-placed, members-placed}
use Rattle.rev_engine.proofs.step.put_in.Goals as goal

pub with_put_in-requires-clause-longer : goal.with_put_in-requires-clause-longer
with_put_in-requires-clause-longer c = longer-placed _ _ c.args.rev c.args.edit.now c.requires.based _ c.in_ok-made.ensures.inserted

pub with_put_in-requires-clause-members : goal.with_put_in-requires-clause-members
with_put_in-requires-clause-members c =
    members-placed _ _ c.args.rev c.args.edit.now c.requires.based _ _ c.in_ok-made.ensures.inserted c.in_ok-made.ensures.text

pub push_edit-requires : goal.push_edit-requires
push_edit-requires c =
    rw c.in_ok-revs.ensures
    (MayPush-placed _ _ c.args.rev c.args.edit.now c.requires.based c.requires.may _ _ c.in_ok-made.ensures.inserted c.in_ok-made.ensures.deleted)
