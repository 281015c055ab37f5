use Rattle.plain_edits.proofs.callers.BlockLemmas.{characters-edited}
use Rattle.plain_laws.proofs.history_laws.edits_go_by_blocks.Goals as goal

pub returns : goal.returns
returns c = characters-edited
