use Rattle.shipped_plugins.proofs.LawLemmas.{ids_come_once}
use Rattle.shipped_plugins.proofs.laws.ids_come_once.Goals as goal

pub returns : goal.returns
returns c = ids_come_once
