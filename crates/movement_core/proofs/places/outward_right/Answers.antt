use Rattle.std.proofs.Common.{◌≡◌, ℕ, arith, subst}
use Rattle.std.specs.Prelude.{IfOk}
use Rattle.movement_core.proofs.BoundaryLemmas.{outward_right-start, right_of-outward}
use Rattle.movement_core.proofs.places.outward_right.Goals as goal

pub returns-then-gap-eq0 : goal.returns-then-gap-eq0
returns-then-gap-eq0 g c = outward_right-start (g.T.TextView.text_of c.args.view.now) c.args.gap c.if-gap-eq0.true

pub returns : goal.returns
returns g c =
    subst (λ (wanted : ℕ). IfOk c.right_of.result (λ place. place ≡ wanted))
    (right_of-outward (g.T.TextView.text_of c.args.view.now) c.args.gap (omega (arith, c.if-gap-eq0.false))) c.right_of.ensures
