use Rattle.std.proofs.Common.{◌≡◌, ◌+◌, ℕ, List, Option, drop, ap, sym, ◌∙◌, arith}
use Rattle.edit_groups.specs.Sessions.{least_acknowledged}
use Rattle.edit_groups.proofs.LeastLemmas.{least-step}
use Rattle.edit_groups.proofs.sessions.Sessions.least.Goals as goal

pub loop-session-preserved : goal.loop-session-preserved
loop-session-preserved c =
    let items : List (Option ℕ) = c.deref-session-items.result.now in
    let at = c.loop-session.session-index in
    let same : items ≡ c.args.self.now = c.deref-session-items.ensures.value ∙ c.self.view_is in
    ap (λ sessions. least_acknowledged c.lesser-least.result (drop (at + 1) sessions)) (sym same) ∙
    least-step c.loop-session.least items at _ c.lesser-least.result (omega (arith, c.loop-session-test.true)) c.lesser-least.ensures ∙
    ap (λ sessions. least_acknowledged c.loop-session.least (drop at sessions)) same ∙ c.loop-session.invariant
