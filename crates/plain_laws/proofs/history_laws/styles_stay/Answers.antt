use Rattle.plain_edits.proofs.callers.StyleLemmas.{style_of-after_steps}
use Rattle.plain_laws.proofs.history_laws.styles_stay.Goals as goal

pub returns : goal.returns
returns c = style_of-after_steps
