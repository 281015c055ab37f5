use Rattle.session_by_hand.proofs.StageLemmas.{first_made}
use Rattle.session_by_hand.proofs.stage.first_call.Goals as goal

pub returns : goal.returns
returns c =
    first_made c.args.plugins c.args.shelf c.in_ok-hand.hand c.args.line.now c.played.result c.in_ok-hand.ensures.plugins c.in_ok-hand.ensures.first c.played.ensures
