use Rattle.doc_session.proofs.RestLemmas.{rests-told}
use Rattle.doc_session.proofs.doc.Doc.rests.Goals as goal

pub returns-clause-rests : goal.returns-clause-rests
returns-clause-rests c = rests-told c.args.self.now c.is_resting.result c.is_resting.ensures
