use Rattle.std.proofs.Common.{◌≡◌, ℕ, arith, subst}
use Rattle.std.specs.Prelude.{IfOk}
use Rattle.movement_core.proofs.BoundaryLemmas.{left_of-outward, left_of-start}
use Rattle.movement_core.proofs.places.left_of.Goals as goal

pub returns-then-gap-eq0 : goal.returns-then-gap-eq0
returns-then-gap-eq0 g c = left_of-start (g.T.TextView.text_of c.args.view.now) c.args.gap c.if-gap-eq0.true

pub returns : goal.returns
returns g c =
    subst (λ (wanted : ℕ). IfOk c.outward_left.result (λ place. place ≡ wanted))
    (left_of-outward (g.T.TextView.text_of c.args.view.now) c.args.gap (omega (arith, c.if-gap-eq0.false))) c.outward_left.ensures.value
