use Rattle.std.proofs.Common.{drop, ap, sym, ◌∙◌, subst, arith}
use Rattle.subset_runs.specs.Stretch.{IsFront}
use Rattle.line_cache.proofs.NextLemmas.{next-here, next-later, next-none}
use Rattle.line_cache.proofs.StayLemmas.{drop-some}
use Rattle.line_cache.proofs.next.next_run.Goals as goal

pub front-first-requires : goal.front-first-requires
front-first-requires c = λ none.
    let all = ap (drop c.args.from) c.walk-ahead.ensures.all in
    drop-some c.args.lines.now c.args.from (omega (arith, c.if-len-from.false, c.len.ensures)) (sym (c.skip.ensures ∙ all) ∙ none)

pub returns-then-first-clause-some : goal.returns-then-first-clause-some
returns-then-first-clause-some c =
    let all = ap (drop c.args.from) c.walk-ahead.ensures.all in
    next-here c.args.lines.now c.args.from c.front-first.result (subst (λ fs. IsFront fs c.front-first.result) (c.skip.ensures ∙ all) c.front-first.ensures)
    (omega (arith, c.if-len-from.false, c.len.ensures)) c.if-first.true

pub returns-then-is_empty-clause-none : goal.returns-then-is_empty-clause-none
returns-then-is_empty-clause-none c =
    let all = ap (drop c.args.from) c.walk-ahead.ensures.all in
    next-none c.args.lines.now c.args.from c.front-first.result (subst (λ fs. IsFront fs c.front-first.result) (c.skip.ensures ∙ all) c.front-first.ensures)
    (omega (arith, c.if-len-from.false, c.len.ensures)) c.if-first.false
    (ap (drop c.front-first.result.len) (sym (c.skip.ensures ∙ all)) ∙ sym c.skip-2.ensures ∙ c.is_empty.ensures.0 c.if-is_empty.true)

pub returns-clause-some : goal.returns-clause-some
returns-clause-some c =
    let all = ap (drop c.args.from) c.walk-ahead.ensures.all in
    next-later c.args.lines.now c.args.from c.front-first.result c.front.result
    (subst (λ fs. IsFront fs c.front-first.result) (c.skip.ensures ∙ all) c.front-first.ensures)
    (omega (arith, c.if-len-from.false, c.len.ensures)) c.if-first.false
    (subst (λ fs. IsFront fs c.front.result) (c.skip-2.ensures ∙ ap (drop c.front-first.result.len) (c.skip.ensures ∙ all)) c.front.ensures)
