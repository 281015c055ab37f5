use Rattle.plain_edits.proofs.callers.ChangeLemmas.{applied-change}
use Rattle.plain_laws.proofs.history_laws.changes_lead.Goals as goal

pub returns : goal.returns
returns c = applied-change
