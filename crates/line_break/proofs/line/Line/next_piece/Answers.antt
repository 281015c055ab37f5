use Rattle.std.proofs.Common.{rules, ◌≡◌, ◌+◌, ◌<◌, ◌^◌, IsNone, IfSome, length, drop, sym, subst, refl, ap, ◌∙◌, arith}
use Rattle.std.specs.Str.{chars}
use Rattle.cluster_core.specs.Walk.{WalkBegins, walk_left}
use Rattle.cluster_core.proofs.ForCallers.{WalkBegins-take}
use Rattle.line_break.specs.Breaks.{piece_end}
use Rattle.line_break.specs.Inner.{IsAhead}
use Rattle.line_break.proofs.LookLemmas.{IsThrough-answers}
use Rattle.line_break.proofs.PlainEndLemmas.{plain-answers, plain-fits}
use Rattle.line_break.proofs.line.Line.next_piece.Goals as goal

pub overflow_add-result : goal.overflow_add-result
overflow_add-result c =
    let self = c.args.self.now in
    let fits = plain-fits self.width self.tab (chars self.text.now) c.args.from.now c.alone-run.result.now c.in-Some.len self.scalars c.requires
    c.alone-run.ensures.first c.in-Some.ensures in
    let bound : self.len < 2 ^ 64 = search rules in
    omega (arith, fits, self.counted, bound)

pub past-requires : goal.past-requires
past-requires c =
    subst (WalkBegins c.args.from.now.rest) (sym c.split_at.ensures.front)
    (WalkBegins-take c.args.from.now.rest c.alone-run.result.now c.in-Some.len c.alone-run.ensures.begins)

pub returns-in-Some-clause-end : goal.returns-in-Some-clause-end
returns-in-Some-clause-end c =
    let self = c.args.self.now in
    let from = c.args.from.now in
    let left = c.past.ensures.left ∙ ap (λ part. drop (length part) (walk_left from.rest)) c.split_at.ensures.front in
    (plain-answers self.width self.tab (chars self.text.now) from c.alone-run.result.now c.in-Some.len
    (record { end = from.end + c.in-Some.len; rest = c.past.result }) self.scalars c.requires c.alone-run.ensures.first c.in-Some.ensures refl left
    c.past.ensures.tab).end

pub returns-in-Some-clause-ahead : goal.returns-in-Some-clause-ahead
returns-in-Some-clause-ahead c =
    let self = c.args.self.now in
    let from = c.args.from.now in
    let left = c.past.ensures.left ∙ ap (λ part. drop (length part) (walk_left from.rest)) c.split_at.ensures.front in
    (plain-answers self.width self.tab (chars self.text.now) from c.alone-run.result.now c.in-Some.len
    (record { end = from.end + c.in-Some.len; rest = c.past.result }) self.scalars c.requires c.alone-run.ensures.first c.in-Some.ensures refl left
    c.past.ensures.tab).ahead

pub returns-in-Some-clause-none : goal.returns-in-Some-clause-none
returns-in-Some-clause-none c =
    let self = c.args.self.now in
    let from = c.args.from.now in
    let left = c.past.ensures.left ∙ ap (λ part. drop (length part) (walk_left from.rest)) c.split_at.ensures.front in
    let inside = (plain-answers self.width self.tab (chars self.text.now) from c.alone-run.result.now c.in-Some.len
    (record { end = from.end + c.in-Some.len; rest = c.past.result }) self.scalars c.requires c.alone-run.ensures.first c.in-Some.ensures refl left
    c.past.ensures.tab).inside in
    (λ none. absurd (let broken = none in cc), λ at_end. absurd (omega (arith, inside, at_end)))

pub returns-in-None-clause-none : goal.returns-in-None-clause-none
returns-in-None-clause-none c =
    let self = c.args.self.now in
    let text = chars self.text.now in
    let answers = IsThrough-answers self.width self.tab text c.args.from.now.end c.look_through-look.result self.scalars c.look_through-look.ensures in
    subst (λ o. (IsNone o → c.args.from.now.end ≡ length text) × (c.args.from.now.end ≡ length text → IsNone o)) (sym c.or.ensures) answers.none

pub returns-in-None-clause-end : goal.returns-in-None-clause-end
returns-in-None-clause-end c =
    let self = c.args.self.now in
    let text = chars self.text.now in
    let answers = IsThrough-answers self.width self.tab text c.args.from.now.end c.look_through-look.result self.scalars c.look_through-look.ensures in
    subst (λ o. IfSome o (λ p. p.end ≡ piece_end self.width self.tab text c.args.from.now.end)) (sym c.or.ensures) answers.end

pub returns-in-None-clause-ahead : goal.returns-in-None-clause-ahead
returns-in-None-clause-ahead c =
    let self = c.args.self.now in
    let text = chars self.text.now in
    let answers = IsThrough-answers self.width self.tab text c.args.from.now.end c.look_through-look.result self.scalars c.look_through-look.ensures in
    subst (λ o. IfSome o (IsAhead self.tab text c.args.from.now.end)) (sym c.or.ensures) answers.ahead
