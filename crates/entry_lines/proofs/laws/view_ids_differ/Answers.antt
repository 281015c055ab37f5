use Rattle.entry_lines.proofs.ViewIds.{view_ids_differ}
use Rattle.entry_lines.proofs.laws.view_ids_differ.Goals as goal

pub returns : goal.returns
returns c = view_ids_differ
