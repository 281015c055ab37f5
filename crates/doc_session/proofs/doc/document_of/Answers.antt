use Rattle.doc_session.proofs.doc.document_of.Goals as goal

pub invariant_of-result : goal.invariant_of-result
invariant_of-result c = c.requires
