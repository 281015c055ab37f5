use Rattle.std.proofs.Common.{ℕ, ◌≡◌, ◌+◌, ◌-◌, ◌≤◌, ◌++◌, length, map, sym, ap, ap₂, subst, ◌∙◌, arith}
use Rattle.std.specs.List.{range_with_len}
use Rattle.plain_screen.specs.Plan.{Standing, standing}
use Rattle.line_cache.specs.Stays.{AreStays, if_true, partner_by}
use Rattle.line_cache.specs.Steps.{IsPlacedAt, lines_of}
use Rattle.line_cache.proofs.AheadLemmas.{later-ahead}
use Rattle.line_cache.proofs.FewLemmas.{plan-few}
use Rattle.line_cache.proofs.PlanLemmas.{range-more, standings-all}
use Rattle.line_cache.proofs.StayLemmas.{stays-fit}
use Rattle.line_cache.proofs.TakenLemmas.{plan-takes}
use Rattle.line_cache.proofs.plan.planned.Goals as goal

pub rest_past-rest-requires : goal.rest_past-rest-requires
rest_past-rest-requires c = stays-fit (length c.args.lines.now) c.args.total c.loop-at.rest.now c.ranges.total.fits c.loop-at.invariant.stays

pub partner_from-part-requires-clause-fits : goal.partner_from-part-requires-clause-fits
partner_from-part-requires-clause-fits c =
    omega (arith, c.loop-at.invariant.left.0, c.new-ahead.ensures.bound)

pub partner_from-part-requires-clause-partners : goal.partner_from-part-requires-clause-partners
partner_from-part-requires-clause-partners c =
    let total : c.args.total ≡ c.loop-at.at + (c.args.total - c.loop-at.at) = omega (arith, c.loop-at.invariant.within) in
    subst (λ n. AreStays n (c.loop-at.at + (c.args.total - c.loop-at.at)) c.rest_past-rest.result.now) (sym c.loop-at.invariant.left.0)
    (subst (λ n. AreStays (length c.args.lines.now) n c.rest_past-rest.result.now) total
    (c.rest_past-rest.ensures.stays (length c.args.lines.now) c.args.total c.loop-at.invariant.stays))

pub partner_from-part-requires-clause-behind : goal.partner_from-part-requires-clause-behind
partner_from-part-requires-clause-behind c = λ old same is.
    let before = c.loop-at.invariant in
    let le : c.loop-at.at ≤ c.loop-at.at = omega arith in
    before.behind c.loop-at.at le old same (sym (c.rest_past-rest.ensures.partners c.loop-at.at le ∙ before.partners c.loop-at.at le) ∙ is)

pub loop-at-preserved : goal.loop-at-preserved
loop-at-preserved c =
    let before = c.loop-at.invariant in
    let at = c.loop-at.at in
    let lines = c.args.lines.now in
    let step = c.step_at-step.result in
    let count = c.lines-at.ensures in
    let partners : ℕ → _ = λ index. if_true lines (partner_by c.args.stays.now index) in
    let stands : ℕ → Standing = λ index. standing c.args.window c.args.request index (partners index) in
    let same : (index : ℕ) → at ≤ index → _ = λ index le. c.rest_past-rest.ensures.partners index le ∙ before.partners index le in
    let own = c.step_at-step.ensures.standings partners
    (λ k lt. ap (if_true lines) (sym (same (at + k) (omega arith))) ∙ c.partner_from-part.ensures.partners lines before.left k lt) in
    record {
      within = omega (arith, count, c.step_at-step.ensures.within, c.partner_from-part.ensures.some.1, before.within);
      partners = λ index le. same index (omega arith);
      stays = c.rest_past-rest.ensures.stays (length lines) c.args.total before.stays;
      left = c.partner_from-part.ensures.left lines before.left;
      behind = λ index le.
          later-ahead c.args.stays.now c.rest_past-rest.result.now (length lines) c.args.total at c.loop-at.ahead.done c.partner_from-part.new.lines.done c.requires
          same before.behind c.partner_from-part.ensures.done index (omega (arith, le, count, c.step_at-step.ensures.some));
      standings =
          c.in_ok-put.ensures.standings ∙ ap₂ (λ xs ys. xs ++ ys) before.standings own ∙ range-more stands at (lines_of step) ∙
          ap (λ n. map stands (range_with_len 0 (at + n))) (sym count);
      count = c.in_ok-put.ensures.count ∙ ap₂ (λ a b. a + b) before.count (sym count);
      longest = c.in_ok-put.ensures.longest before.longest;
      placed = c.in_ok-put.ensures.placed before.placed (subst (λ n. IsPlacedAt n step) (sym before.count) c.step_at-step.ensures.placed);
    }

pub returns-clause-standings : goal.returns-clause-standings
returns-clause-standings c =
    let lines = c.args.lines.now in
    let stands : ℕ → Standing = λ index. standing c.args.window c.args.request index (if_true lines (partner_by c.args.stays.now index)) in
    c.loop-at.invariant.standings ∙
    ap (λ n. map stands (range_with_len 0 n)) (omega (arith, c.loop-at.invariant.within, c.loop-at-test.false)) ∙
    standings-all c.args.window c.args.request lines c.args.stays.now c.args.total

pub returns-clause-olds : goal.returns-clause-olds
returns-clause-olds c =
    plan-takes c.args.window c.args.request c.args.lines.now (length c.args.lines.now) c.args.total c.args.stays.now c.requires c.loop-at.plan c.loop-at.at
    c.loop-at.invariant.longest c.loop-at.invariant.standings

pub returns-clause-few : goal.returns-clause-few
returns-clause-few c =
    plan-few c.args.window c.args.request c.args.lines.now c.args.total c.args.stays.now c.loop-at.plan c.requires c.loop-at.invariant.longest
    c.loop-at.invariant.placed
    (c.loop-at.invariant.standings ∙
    ap (λ n. map (λ index. standing c.args.window c.args.request index (if_true c.args.lines.now (partner_by c.args.stays.now index))) (range_with_len 0 n))
    (omega (arith, c.loop-at.invariant.within, c.loop-at-test.false)))
