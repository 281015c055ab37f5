use Rattle.session_laws.proofs.RowLemmas.{ends_stand_once}
use Rattle.session_laws.proofs.rows.ends_stand_once.Goals as goal

pub returns : goal.returns
returns c = ends_stand_once
