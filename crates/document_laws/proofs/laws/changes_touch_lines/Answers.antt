use Rattle.doc_session.proofs.ForCallers.{AreTouched-change}
use Rattle.document_laws.proofs.laws.changes_touch_lines.Goals as goal

pub returns : goal.returns
returns c = AreTouched-change
