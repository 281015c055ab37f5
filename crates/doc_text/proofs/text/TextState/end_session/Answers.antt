use Rattle.std.proofs.Common.{◌≡◌, ℕ, List, None, Option, ap, sym, ◌∙◌, subst}
use Rattle.std.proofs.lemmas.Result.{IfOk-weaker}
use Rattle.doc_text.specs.Collecting.{ended_text, with_session}
use Rattle.doc_text.specs.InMemory.{TextState}
use Rattle.doc_text.specs.Stands.{IsTextOf}
use Rattle.doc_text.proofs.CollectLemmas.{IsTextOf-sessions}
use Rattle.doc_text.proofs.SessionLemmas.{AreAcknowledged-ended}
use Rattle.doc_text.proofs.text.TextState.end_session.Goals as goal

pub returns-clause-stands : goal.returns-clause-stands
returns-clause-stands c = λ plain stands.
    let was = stands.parts in
    let caller = c.args.caller in
    let now = c.args.self.now in
    let next : List (Option ℕ) → List (Option ℕ) = λ sessions. with_session sessions caller None in
    let is = IsTextOf-sessions now plain c.in_ok-sessions.sessions (next plain.sessions) was
    (c.in_ok-sessions.ensures ∙ ap next (ap (λ (t : TextState). t.sessions) c.self.view_is ∙ was.sessions))
    (AreAcknowledged-ended plain.history plain.sessions caller was.acknowledged) in
    IfOk-weaker c.with_sessions.result (λ (made : TextState). made ≡ record now { sessions = c.in_ok-sessions.sessions })
    (λ made. IsTextOf made (ended_text plain caller)) (λ made same. subst (λ (t : TextState). IsTextOf t (ended_text plain caller)) (sym same) is)
    c.with_sessions.ensures
