use Rattle.std.proofs.Common.{◌∙◌}
use Rattle.plain_edits.specs.History.{text_at}
use Rattle.plain_edits.specs.Change.{change_keeps, change_adds}
use Rattle.plain_edits.proofs.callers.ChangeLemmas.{applied-change}
use Rattle.delta_core.proofs.ForCallers.{Fits-wire, applied-wire}
use Rattle.doc_text.proofs.laws.notices_lead.Goals as goal

pub returns : goal.returns
returns c = λ history from to. (
  Fits-wire (change_keeps history from to) (change_adds history from to) (text_at history from),
  applied-wire (change_keeps history from to) (change_adds history from to) (text_at history from) ∙ applied-change history from to,
)
