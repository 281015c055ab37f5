use Rattle.std.proofs.Common.{◌≡◌, ◌-◌, ◌++◌, ℕ, Bool, List, drop, replicate, sym, ap, subst, ◌∙◌}
use Rattle.std.proofs.lemmas.List.{take_rest}
use Rattle.delta_core.specs.UnitStep.{UnitStep}
use Rattle.delta_core.specs.Inner.{step_of, part_steps, steps_from}
use Rattle.plain_edits.specs.Delta.{is_in_runs, text_at_gap}
use Rattle.delta_core.specs.Inner.{IsStretch}
use Rattle.delta_core.proofs.WalkLemmas.{added_next, stretch_next}
use Rattle.delta_core.proofs.unit_walk.UnitWalk.next.Goals as goal
use Rattle.delta_core.proofs.unit_walk.UnitWalk.next.Goals.{then-kept, else-kept}

pub returns-in-Some-clause-next : goal.returns-in-Some-clause-next
returns-in-Some-clause-next c =
    let w = c.self.inside in
    rw (take_rest w.added.now 1)
    (sym c.self.view_is ∙
    added_next (is_in_runs w.kept.now) w.base w.at (w.base - w.at) c.in-Some.text.now w.added.now (drop 1 w.added.now) c.in-Some.ensures.some)

pub returns-after-kept-clause-next : goal.returns-after-kept-clause-next
returns-after-kept-clause-next c =
    let w = c.self.inside in
    let end = c.next_stretch-kept.result.1 in
    let kept = c.next_stretch-kept.result.0 in
    let rest = c.runs_after-self-inside.result.now in
    let stretch = subst (λ (stop : ℕ). IsStretch w.kept.now w.at stop end kept) c.next_gap.ensures c.next_stretch-kept.ensures in
    let part : part_steps c.if-kept.result ≡ replicate (end - w.at) (step_of kept) =
    elim c.if-kept.branch [
      | then-kept b ↦ ap part_steps b.result-is ∙ ap (λ (x : Bool). replicate (end - w.at) (step_of x)) (sym b.if-kept.true)
      | else-kept b ↦ ap part_steps b.result-is ∙ ap (λ (x : Bool). replicate (end - w.at) (step_of x)) (sym b.if-kept.false)
    ] in
    sym c.self.view_is ∙
    stretch_next w.base w.at end w.kept.now rest w.added.now kept c.self.invariant stretch c.runs_after-self-inside.ensures.rest ∙
    ap (λ (steps : List UnitStep). steps ++ steps_from (is_in_runs rest) (text_at_gap w.added.now) end (w.base - end)) (sym part)
