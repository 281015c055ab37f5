use Rattle.std.proofs.Common.{ℕ, List, Option, ap, sym, ◌∙◌, subst}
use Rattle.doc_text.specs.Collecting.{acknowledged_by, acknowledged_text, session_of, with_session}
use Rattle.doc_text.specs.InMemory.{TextState}
use Rattle.doc_text.specs.Stands.{IsTextOf}
use Rattle.doc_text.proofs.CollectLemmas.{IsTextOf-sessions}
use Rattle.doc_text.proofs.SessionLemmas.{AreAcknowledged-by}
use Rattle.doc_text.proofs.text.TextState.acknowledge.Goals as goal

pub returns-clause-stands : goal.returns-clause-stands
returns-clause-stands c = λ plain stands.
    let was = stands.parts in
    let caller = c.args.caller in
    let rev = c.args.rev in
    let next : List (Option ℕ) → List (Option ℕ) = λ sessions. with_session sessions caller (acknowledged_by rev (session_of sessions caller)) in
    subst (λ (t : TextState). IsTextOf t (acknowledged_text plain caller rev)) (sym c.in_ok-with_sessions.ensures)
    (IsTextOf-sessions c.args.self.now plain c.in_ok-sessions.sessions (next plain.sessions) was
    (c.in_ok-sessions.ensures ∙ ap next (ap (λ (t : TextState). t.sessions) c.self.view_is ∙ was.sessions))
    (AreAcknowledged-by plain.history plain.sessions caller rev (c.in_ok-check_acknowledged.ensures.accepted plain stands) was.acknowledged))

pub returns-clause-engine : goal.returns-clause-engine
returns-clause-engine c = ap (λ (t : TextState). t.engine) c.in_ok-with_sessions.ensures
