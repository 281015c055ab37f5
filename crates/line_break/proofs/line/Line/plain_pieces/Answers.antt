use Rattle.std.proofs.Common.{rules, ◌≡◌, ◌+◌, ◌-◌, ◌<◌, ◌^◌, length, drop, sym, subst, refl, ap, ◌∙◌, arith}
use Rattle.std.specs.Str.{chars}
use Rattle.std.proofs.lemmas.List.{length-drop}
use Rattle.cluster_core.specs.Walk.{WalkBegins, walk_left}
use Rattle.cluster_core.proofs.ForCallers.{WalkBegins-take}
use Rattle.line_break.specs.Plain.{IsPlainEnd}
use Rattle.line_break.proofs.LookLemmas.{StandsAt-le}
use Rattle.line_break.proofs.PlainEndLemmas.{AddsPieces-more, AddsPieces-none, IsNext, StandsAt-past, plain-next}
use Rattle.line_break.proofs.line.Line.plain_pieces.Goals as goal

pub loop-next-init : goal.loop-next-init
loop-next-init c =
    let self = c.args.self.now in
    let same : c.args.from.end ≡ c.args.from.end + 0 = omega arith in
    record {
      few = omega arith;
      fits = omega (arith, self.counted, StandsAt-le self.tab (chars self.text.now) c.args.from self.scalars c.requires);
      pieces = AddsPieces-none self.width self.tab (chars self.text.now) c.args.from.end (c.args.from.end + 0) c.args.ends.now.items same;
    }

pub overflow_add-len : goal.overflow_add-len
overflow_add-len c =
    let self = c.args.self.now in
    let part = subst (λ run. IsPlainEnd self.width run c.in-Some.next) c.split_at.ensures.back c.in-Some.ensures in
    let next = plain-next self.width self.tab (chars self.text.now) c.args.from c.alone-run.result.now c.loop-next.len c.in-Some.next self.scalars c.requires
    c.alone-run.ensures.first c.loop-next.invariant.few part in
    let inside = next.inside in
    let bound : self.len < 2 ^ 64 = search rules in
    omega (arith, inside, self.counted, bound)

pub overflow_add-from : goal.overflow_add-from
overflow_add-from c =
    let self = c.args.self.now in
    let part = subst (λ run. IsPlainEnd self.width run c.in-Some.next) c.split_at.ensures.back c.in-Some.ensures in
    let next = plain-next self.width self.tab (chars self.text.now) c.args.from c.alone-run.result.now c.loop-next.len c.in-Some.next self.scalars c.requires
    c.alone-run.ensures.first c.loop-next.invariant.few part in
    let inside = next.inside in
    let bound : self.len < 2 ^ 64 = search rules in
    omega (arith, inside, self.counted, bound)

pub overflow_add-result : goal.overflow_add-result
overflow_add-result c =
    let bound : c.args.self.now.len < 2 ^ 64 = search rules in
    omega (arith, c.loop-next.invariant.fits, bound)

pub loop-next-preserved : goal.loop-next-preserved
loop-next-preserved c =
    let self = c.args.self.now in
    let run = c.alone-run.result.now in
    let len = c.loop-next.len in
    let text = chars self.text.now in
    let part = subst (λ run. IsPlainEnd self.width run c.in-Some.next) c.split_at.ensures.back c.in-Some.ensures in
    let next = plain-next self.width self.tab text c.args.from run len c.in-Some.next self.scalars c.requires c.alone-run.ensures.first c.loop-next.invariant.few part in
    let sum : c.args.from.end + len + c.in-Some.next ≡ c.args.from.end + (len + c.in-Some.next) = omega arith in
    let stops = part.shown.inside in
    let least = part.last.few in
    record {
      few = omega (arith, stops, least, length-drop len run, c.loop-next.invariant.few);
      fits = omega (arith, next.inside, self.counted);
      pieces = AddsPieces-more self.width self.tab text c.args.from.end (c.args.from.end + len) (c.args.from.end + (len + c.in-Some.next)) c.args.ends.now.items
          c.loop-next.ends.items _ self.scalars c.loop-next.invariant.pieces
          (subst (λ end. IsNext self.width self.tab text (c.args.from.end + len) end) sum next) c.in_ok-push.ensures.items;
    }

pub past-requires : goal.past-requires
past-requires c =
    subst (WalkBegins c.args.from.rest) (sym c.split_at-2.ensures.front)
    (WalkBegins-take c.args.from.rest c.alone-run.result.now c.loop-next.len c.alone-run.ensures.begins)

pub returns-clause-stands : goal.returns-clause-stands
returns-clause-stands c =
    let self = c.args.self.now in
    let from = c.args.from in
    let len = c.loop-next.len in
    StandsAt-past self.tab (chars self.text.now) from c.alone-run.result.now len (record { end = from.end + len; rest = c.past.result }) c.requires
    c.alone-run.ensures.first c.loop-next.invariant.few refl
    (c.past.ensures.left ∙ ap (λ part. drop (length part) (walk_left from.rest)) c.split_at-2.ensures.front) c.past.ensures.tab
