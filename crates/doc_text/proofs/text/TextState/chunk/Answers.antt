use Rattle.std.proofs.Common.{Some, ap, sym, ◌∙◌, subst}
use Rattle.std.specs.Prelude.{IfErr}
use Rattle.std.proofs.lemmas.Result.{err_from_is_err_and}
use Rattle.plain_edits.specs.History.{text_at}
use Rattle.rev_engine.specs.Engine.{StandsFor}
use Rattle.rev_engine.specs.State.{State}
use Rattle.xi_plain.specs.Chunk.{chunk_at}
use Rattle.doc_text.specs.Asking.{misplaced_start, reading_refusal}
use Rattle.doc_text.specs.Fault.{DocRefuses}
use Rattle.doc_text.specs.InMemory.{TextState}
use Rattle.doc_text.proofs.FaultLemmas.{DocRefuses-first, reading_refusal-by}
use Rattle.doc_text.proofs.text.TextState.chunk.Goals as goal

pub returns-in_err-text-clause-refused : goal.returns-in_err-text-clause-refused
returns-in_err-text-clause-refused c = λ plain stands.
    let engine_is = c.deref.ensures ∙ ap (λ (t : TextState). t.engine) c.self.view_is in
    let history = plain.history in
    let was = subst (λ (e : State). StandsFor e history) (sym engine_is) stands.parts.state.stands in
    let refusal = reading_refusal history c.args.rev c.args.start in
    let p = err_from_is_err_and c.from_residual.result c.from_residual.ensures.1 in
    subst (λ r. IfErr r (DocRefuses refusal)) (sym p.1) (subst (DocRefuses refusal) (sym p.2)
    (DocRefuses-first history c.args.rev (misplaced_start (text_at history c.args.rev) c.args.start) c.in_err-text.field-0.0
    (c.in_err-text.ensures.refused history was)))

pub chunk_of-requires : goal.chunk_of-requires
chunk_of-requires c = sym c.in-Some.ensures

pub returns-clause-chunk : goal.returns-clause-chunk
returns-clause-chunk c = λ plain stands.
    let engine_is = c.deref.ensures ∙ ap (λ (t : TextState). t.engine) c.self.view_is in
    let history = plain.history in
    let was = subst (λ (e : State). StandsFor e history) (sym engine_is) stands.parts.state.stands in
    c.in_ok-chunk_of.ensures ∙ ap (λ t. chunk_at t c.args.start c.args.max) (c.in_ok-text.ensures.text history was)

pub returns-clause-accepted : goal.returns-clause-accepted
returns-clause-accepted c = λ plain stands.
    let engine_is = c.deref.ensures ∙ ap (λ (t : TextState). t.engine) c.self.view_is in
    let history = plain.history in
    let was = subst (λ (e : State). StandsFor e history) (sym engine_is) stands.parts.state.stands in
    reading_refusal-by history c.args.rev c.args.start c.in_ok-text.text (c.in_ok-text.ensures.accepted history was) (c.in_ok-text.ensures.text history was)
    (Some c.in-Some.gap) (sym c.in-Some.ensures)
