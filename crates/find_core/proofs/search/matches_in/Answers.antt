use Rattle.std.proofs.Common.{◌≡◌, ◌+◌, ◌∙◌, sym, ap, ap₂, subst, arith, ◌++◌, ◌∷◌, [], length}
use Rattle.std.proofs.lemmas.Str.{length-le-encodes}
use Rattle.find_core.proofs.MatchLemmas.{run_at}
use Rattle.find_core.proofs.ByteLemmas.{IsSoFar, IsSoFar-start, IsSoFar-next}
use Rattle.find_core.proofs.search.matches_in.Goals as goal

pub loop-at-init : goal.loop-at-init
loop-at-init c =
    IsSoFar-start c.args.text.now c.args.chars.now c.as_bytes.result.now c.as_bytes-2.result.now c.new-found.result c.into_iter-at-iterator.result
    c.as_str.ensures.scalars c.as_str-2.ensures.scalars c.requires (c.as_bytes.ensures.value ∙ c.as_str.ensures.utf8)
    (c.as_bytes-2.ensures.value ∙ c.as_str-2.ensures.utf8) c.new-found.ensures (c.into_iter-at-iterator.ensures.into_iter_gives ∙ c.find_iter-at-items.ensures.value)

pub gaps_between-gap-requires-clause-ordered : goal.gaps_between-gap-requires-clause-ordered
gaps_between-gap-requires-clause-ordered c =
    (IsSoFar-next c.args.text.now c.args.chars.now c.loop-at.place c.loop-at.gap c.loop-at.found _ c.in-Some.at c.next.new.self c.in-Some.ensures.steps c.loop-at.invariant).1.ordered

pub gaps_between-gap-requires-clause-start : goal.gaps_between-gap-requires-clause-start
gaps_between-gap-requires-clause-start c =
    (IsSoFar-next c.args.text.now c.args.chars.now c.loop-at.place c.loop-at.gap c.loop-at.found _ c.in-Some.at c.next.new.self c.in-Some.ensures.steps c.loop-at.invariant).1.here

pub gaps_between-gap-requires-clause-end : goal.gaps_between-gap-requires-clause-end
gaps_between-gap-requires-clause-end c =
    (IsSoFar-next c.args.text.now c.args.chars.now c.loop-at.place c.loop-at.gap c.loop-at.found _ c.in-Some.at c.next.new.self c.in-Some.ensures.steps c.loop-at.invariant).1.there

pub overflow_add-gap : goal.overflow_add-gap
overflow_add-gap c =
    let next = IsSoFar-next c.args.text.now c.args.chars.now c.loop-at.place c.loop-at.gap c.loop-at.found _ c.in-Some.at c.next.new.self c.in-Some.ensures.steps c.loop-at.invariant in
    let bytes = ap length (c.as_bytes.ensures.value ∙ c.as_str.ensures.utf8) in
    omega (arith, next.1.inside, next.1.gap_here, next.1.gap_there, c.gaps_between-gap.ensures, length-le-encodes c.args.text.now, bytes)

pub overflow_add-gap-in-loop-at : goal.overflow_add-gap-in-loop-at
overflow_add-gap-in-loop-at c =
    let next = IsSoFar-next c.args.text.now c.args.chars.now c.loop-at.place c.loop-at.gap c.loop-at.found _ c.in-Some.at c.next.new.self c.in-Some.ensures.steps c.loop-at.invariant in
    let bytes = ap length (c.as_bytes.ensures.value ∙ c.as_str.ensures.utf8) in
    omega (arith, next.1.inside, next.1.gap_here, next.1.gap_there, c.gaps_between-gap.ensures, c.char_count-len.ensures, length-le-encodes c.args.text.now, bytes)

pub loop-at-preserved : goal.loop-at-preserved
loop-at-preserved c =
    let next = IsSoFar-next c.args.text.now c.args.chars.now c.loop-at.place c.loop-at.gap c.loop-at.found _ c.in-Some.at c.next.new.self c.in-Some.ensures.steps c.loop-at.invariant in
    let gap : c.loop-at.gap + c.gaps_between-gap.result ≡ next.0 = omega (arith, next.1.gap_here, next.1.gap_there, c.gaps_between-gap.ensures) in
    let end : c.loop-at.gap + c.gaps_between-gap.result + c.char_count-len.result ≡ next.0 + length c.args.chars.now = omega (arith, gap, c.char_count-len.ensures) in
    let pushed : c.push.new.self ≡ c.loop-at.found ++ run_at c.args.chars.now next.0 ∷ [] =
    c.in_ok-push.ensures.pushed ∙ ap₂ (λ n m. c.loop-at.found ++ (record { start = n; end = m }) ∷ []) gap end in
    subst (λ n. IsSoFar c.args.text.now c.args.chars.now c.in-Some.at n c.push.new.self c.next.new.self) (sym gap)
    (subst (λ found. IsSoFar c.args.text.now c.args.chars.now c.in-Some.at next.0 found c.next.new.self) (sym pushed) next.1.so_far)
