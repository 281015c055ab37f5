use Rattle.std.proofs.Common.{◌≡◌, ◌+◌, ◌++◌, ◌∙◌, map, sym, ap, ap₂, subst, arith}
use Rattle.std.specs.Prelude.{IsTrue}
use Rattle.regex.specs.Patterns.{find_all_str, span}
use Rattle.regex.specs.Strings.{matcher_pattern, matches_haystack, placed_spans_left}
use Rattle.plain_text.specs.Text.{is_place, gap_of}
use Rattle.regex_find.specs.Spots.{run_between}
use Rattle.regex_find.proofs.SearchLemmas.{IsSoFar, IsSoFar-start, IsSoFar-next, IsSoFar-end, in_bytes}
use Rattle.regex_find.proofs.pattern.spots_by.Goals as goal

pub loop-found-init : goal.loop-found-init
loop-found-init c =
    let pattern = matcher_pattern c.args.matcher.now in
    let text = c.args.text.now in
    let items = c.find_iter-found-items.result in
    let utf8 = c.as_str.ensures.utf8 in
    subst (λ s. IsSoFar pattern text 0 0 c.new-runs.result (placed_spans_left s)) (sym c.into_iter-found-iterator.ensures.into_iter_gives)
    (IsSoFar-start pattern text (matches_haystack items) c.new-runs.result (placed_spans_left items) (c.find_iter-found-items.ensures.within ∙ utf8)
    c.new-runs.ensures
    (ap (in_bytes (matches_haystack items)) (c.find_iter-found-items.ensures.found ∙ ap (λ bytes. map span (find_all_str pattern bytes)) utf8)))

pub gaps_between-before-requires-clause-ordered : goal.gaps_between-before-requires-clause-ordered
gaps_between-before-requires-clause-ordered c =
    let next = IsSoFar-next _ _ _ _ _ c.as_str.ensures.scalars _ _ _ _ _ c.in-Some.ensures.steps c.loop-found.invariant c.in-Some.found.starts_cleanly c.in-Some.found.ends_cleanly in
    omega (arith, next.after, c.start-from.ensures)

pub gaps_between-before-requires-clause-start : goal.gaps_between-before-requires-clause-start
gaps_between-before-requires-clause-start c =
    (IsSoFar-next _ _ _ _ _ c.as_str.ensures.scalars _ _ _ _ _ c.in-Some.ensures.steps c.loop-found.invariant c.in-Some.found.starts_cleanly c.in-Some.found.ends_cleanly).here

pub gaps_between-before-requires-clause-end : goal.gaps_between-before-requires-clause-end
gaps_between-before-requires-clause-end c =
    let next = IsSoFar-next _ _ _ _ _ c.as_str.ensures.scalars _ _ _ _ _ c.in-Some.ensures.steps c.loop-found.invariant c.in-Some.found.starts_cleanly c.in-Some.found.ends_cleanly in
    subst (λ at. IsTrue (is_place c.args.text.now at)) (sym c.start-from.ensures) next.start

pub gaps_between-within-requires-clause-ordered : goal.gaps_between-within-requires-clause-ordered
gaps_between-within-requires-clause-ordered c = omega (arith, c.in-Some.found.ordered, c.start-from.ensures, c.end-to.ensures)

pub gaps_between-within-requires-clause-start : goal.gaps_between-within-requires-clause-start
gaps_between-within-requires-clause-start c =
    let next = IsSoFar-next _ _ _ _ _ c.as_str.ensures.scalars _ _ _ _ _ c.in-Some.ensures.steps c.loop-found.invariant c.in-Some.found.starts_cleanly c.in-Some.found.ends_cleanly in
    subst (λ at. IsTrue (is_place c.args.text.now at)) (sym c.start-from.ensures) next.start

pub gaps_between-within-requires-clause-end : goal.gaps_between-within-requires-clause-end
gaps_between-within-requires-clause-end c =
    let next = IsSoFar-next _ _ _ _ _ c.as_str.ensures.scalars _ _ _ _ _ c.in-Some.ensures.steps c.loop-found.invariant c.in-Some.found.starts_cleanly c.in-Some.found.ends_cleanly in
    subst (λ at. IsTrue (is_place c.args.text.now at)) (sym c.end-to.ensures) next.end

pub overflow_add-start : goal.overflow_add-start
overflow_add-start c =
    let next = IsSoFar-next _ _ _ _ _ c.as_str.ensures.scalars _ _ _ _ _ c.in-Some.ensures.steps c.loop-found.invariant c.in-Some.found.starts_cleanly c.in-Some.found.ends_cleanly in
    let to = ap (gap_of c.args.text.now) c.end-to.ensures in
    omega (arith, next.most, next.gap_here, c.gaps_between-before.ensures, c.gaps_between-within.ensures, to, c.end-to.ensures, c.end-to.type_inv)

pub overflow_add-end : goal.overflow_add-end
overflow_add-end c =
    let next = IsSoFar-next _ _ _ _ _ c.as_str.ensures.scalars _ _ _ _ _ c.in-Some.ensures.steps c.loop-found.invariant c.in-Some.found.starts_cleanly c.in-Some.found.ends_cleanly in
    let to = ap (gap_of c.args.text.now) c.end-to.ensures in
    omega (arith, next.most, next.gap_here, c.gaps_between-before.ensures, c.gaps_between-within.ensures, to, c.end-to.ensures, c.end-to.type_inv)

pub loop-found-preserved : goal.loop-found-preserved
loop-found-preserved c =
    let pattern = matcher_pattern c.args.matcher.now in
    let text = c.args.text.now in
    let left = placed_spans_left c.next.new.self in
    let from = c.in-Some.found.start in
    let to = c.in-Some.found.end in
    let next = IsSoFar-next pattern text c.loop-found.place c.loop-found.gap c.loop-found.runs c.as_str.ensures.scalars
    (placed_spans_left c.loop-found.found-iterator) left c.in-Some.found.haystack.now from to c.in-Some.ensures.steps c.loop-found.invariant
    c.in-Some.found.starts_cleanly c.in-Some.found.ends_cleanly in
    let start : c.loop-found.gap + c.gaps_between-before.result ≡ gap_of text from =
    omega (arith, next.gap_here, c.gaps_between-before.ensures, ap (gap_of text) c.start-from.ensures) in
    let end : c.loop-found.gap + c.gaps_between-before.result + c.gaps_between-within.result ≡ gap_of text to =
    omega (arith, start, c.gaps_between-within.ensures, ap (gap_of text) c.start-from.ensures, ap (gap_of text) c.end-to.ensures) in
    let pushed : c.push_between.new.runs ≡ c.loop-found.runs ++ run_between (gap_of text from) (gap_of text to) =
    c.in_ok-push_between.ensures ∙ ap₂ (λ first last. c.loop-found.runs ++ run_between first last) start end in
    subst (λ at. IsSoFar pattern text at (c.loop-found.gap + c.gaps_between-before.result + c.gaps_between-within.result) c.push_between.new.runs left) (sym c.end-to.ensures)
    (subst (λ gap. IsSoFar pattern text to gap c.push_between.new.runs left) (sym end)
    (subst (λ runs. IsSoFar pattern text to (gap_of text to) runs left) (sym pushed) next.so_far))

pub returns : goal.returns
returns c = IsSoFar-end _ _ _ _ _ _ c.loop-found.invariant c.in-None.ensures.steps.0
