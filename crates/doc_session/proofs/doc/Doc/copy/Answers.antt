use Rattle.std.proofs.Common.{ap₂, ◌∙◌}
use Rattle.doc_text.specs.InMemory.{TextState}
use Rattle.doc_view.specs.View.{View}
use Rattle.doc_session.proofs.doc.Doc.copy.Goals as goal

pub invariant_of-result : goal.invariant_of-result
invariant_of-result c = rw (c.in_ok-copy.ensures, c.in_ok-copy-2.ensures) c.self.invariant

pub returns : goal.returns
returns c = ap₂ (λ (t : TextState) (v : View). record { text = t; view = v }) c.in_ok-copy.ensures c.in_ok-copy-2.ensures ∙ c.self.view_is
