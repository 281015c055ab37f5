use Rattle.core_session.proofs.ForCallers.{sessions_of}
use Rattle.session_laws.proofs.laws.all_have_sessions.Goals as goal

pub returns : goal.returns
returns c = sessions_of
