use Rattle.session_step.proofs.DoneLemmas.{IsMade-after}
use Rattle.session_step.proofs.after.counted.Goals as goal

pub returns : goal.returns
returns g c =
    IsMade-after c.args.doc.now c.args.event c.after.result c.after.ensures.stands c.after.ensures.effects c.after.ensures.accepted c.after.ensures.refused
