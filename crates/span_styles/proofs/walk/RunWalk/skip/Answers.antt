use Rattle.std.proofs.Common.{◌≡◌, ◌+◌, ◌-◌, length, drop, ap, ◌∙◌, arith}
use Rattle.span_styles.specs.Inner.{layer_of}
use Rattle.span_styles.proofs.WalkLemmas.{IsAhead-skip}
use Rattle.span_styles.proofs.walk.RunWalk.skip.Goals as goal

pub overflow_add-self : goal.overflow_add-self
overflow_add-self c = omega (arith, c.self.invariant.room, ap length c.self.view_is)

pub invariant_of-self : goal.invariant_of-self
invariant_of-self c =
    IsAhead-skip c.self.inside.at c.args.n c.self.inside.runs.now _ c.self.invariant (omega (arith, ap length c.self.view_is)) c.runs_past-self-inside.ensures

pub returns : goal.returns
returns c =
    let less : c.self.inside.at + c.args.n - c.self.inside.at ≡ c.args.n = omega arith in
    rw (← c.self.view_is) (c.runs_past-self-inside.ensures.is ∙ ap (λ n. drop n (layer_of c.self.inside.at c.self.inside.runs.now)) less)
