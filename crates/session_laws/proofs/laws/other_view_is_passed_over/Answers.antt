use Rattle.session_laws.proofs.LawLemmas.{other_view_is_passed_over}
use Rattle.session_laws.proofs.laws.other_view_is_passed_over.Goals as goal

pub returns : goal.returns
returns c = other_view_is_passed_over
