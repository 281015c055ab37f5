use Rattle.plain_edits.proofs.callers.StyleLemmas.{mapped_layer-change}
use Rattle.plain_laws.proofs.history_laws.styles_follow_changes.Goals as goal

pub returns : goal.returns
returns c = mapped_layer-change
