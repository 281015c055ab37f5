use Rattle.doc_session.proofs.FitLemmas.{command_fits}
use Rattle.doc_session.proofs.laws.commands_fit.Goals as goal

pub returns : goal.returns
returns c = command_fits
