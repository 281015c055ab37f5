use Rattle.std.proofs.Common.{Some, sym, ap, ◌∙◌}
use Rattle.line_cache.specs.Inner.{kept_step, restyled_step}
use Rattle.line_cache.proofs.PlanLemmas.{stands-kept, stands-restyled, stands-sent}
use Rattle.line_cache.proofs.plan.step_at.Goals as goal

pub returns-in-Some-default-true-clause-standings : goal.returns-in-Some-default-true-clause-standings
returns-in-Some-default-true-clause-standings c = λ partner same.
    let part = c.args.part in
    let own = c.in-Some-default-true in
    stands-kept c.args.window c.args.request c.args.at c.alike-n.result part.n c.alike-n.ensures.alike c.alike-n.ensures.within partner part.partner same
    c.kept.result c.is_kept.result c.is_shown-shown.result own.old
    (c.kept.ensures ∙ ap (λ old. kept_step c.is_kept.result old c.is_shown-shown.result c.args.at c.alike-n.result) own.old-is) c.is_kept.ensures c.is_shown-shown.ensures
    (own.is ∙ ap (λ b. Some (own.old, b)) (sym own.field-0-1-is ∙ own.field-0-1-test))

pub returns-in-Some-default-false-clause-standings : goal.returns-in-Some-default-false-clause-standings
returns-in-Some-default-false-clause-standings c = λ partner same.
    let part = c.args.part in
    let own = c.in-Some-default-false in
    stands-restyled c.args.window c.args.request c.args.at c.alike-n.result part.n c.alike-n.ensures.alike c.alike-n.ensures.within partner part.partner same
    c.restyled.result c.is_shown-shown.result own.old
    (c.restyled.ensures ∙ ap (λ old. restyled_step c.is_shown-shown.result old c.args.at c.alike-n.result) own.old-is) c.is_shown-shown.ensures
    (own.is ∙ ap (λ b. Some (own.old, b)) (sym own.field-0-1-is ∙ own.field-0-1-test))

pub returns-in-None-clause-standings : goal.returns-in-None-clause-standings
returns-in-None-clause-standings c = λ partner same.
    let part = c.args.part in
    stands-sent c.args.window c.args.request c.args.at c.alike-n.result part.n c.alike-n.ensures.alike c.alike-n.ensures.within partner part.partner same
    c.sent.result c.is_shown-shown.result c.sent.ensures c.is_shown-shown.ensures c.in-None.is
