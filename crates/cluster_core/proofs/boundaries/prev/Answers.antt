use Rattle.std.proofs.Common.{refl, arith, Some, Ok, ap, length}
use Rattle.unicode_segmentation.proofs.CursorLemmas.{IsChunkOf-whole}
use Rattle.cluster_core.proofs.BoundaryLemmas.{IsBoundary-end, boundary-le-length}
use Rattle.cluster_core.proofs.CursorLemmas.{IsGreatestBelow-found, HasNoneBelow-found}
use Rattle.cluster_core.proofs.RisingLemmas.{prev_of-found}
use Rattle.cluster_core.proofs.boundaries.prev.Goals as goal

pub returns-then-at-line-clause-greatest : goal.returns-then-at-line-clause-greatest
returns-then-at-line-clause-greatest c = record {
  boundary = IsBoundary-end _ c.utf8.line;
  below = c.if-at-line.true;
  greatest = λ other is below. boundary-le-length _ c.utf8.line other is;
}

pub returns-then-at-line-clause-none : goal.returns-then-at-line-clause-none
returns-then-at-line-clause-none c =
    (λ none. cc, λ none. let low = none _ (IsBoundary-end _ c.utf8.line) in let past = c.if-at-line.true in absurd (omega arith))

pub returns-then-at-line-clause-value : goal.returns-then-at-line-clause-value
returns-then-at-line-clause-value c =
    prev_of-found _ _ (Some (length c.args.line.now)) (returns-then-at-line-clause-greatest c) (returns-then-at-line-clause-none c)

pub unreachable-requires : goal.unreachable-requires
unreachable-requires c =
    let made = c.new-cursor.ensures in
    let on = made.on _ c.utf8.line refl c.ceil_char_boundary.ensures.boundary in
    let ok = c.in-Err.ensures.whole _ on (IsChunkOf-whole _ c.utf8.line) refl refl made.fresh.1 in
    cc

pub returns-clause-greatest : goal.returns-clause-greatest
returns-clause-greatest c =
    let made = c.new-cursor.ensures in
    let ceil = c.ceil_char_boundary.ensures in
    let on = made.on _ c.utf8.line refl ceil.boundary in
    let whole = IsChunkOf-whole _ c.utf8.line in
    IsGreatestBelow-found _ c.utf8.line c.args.at _ ceil.boundary (ceil.bound c.if-at-line.false) ceil.nearest _ _ c.in-Ok.start
    (record { offset = made.offset; is_extended = made.is_extended; is_resuming = made.fresh.0 })
    (c.in-Ok.ensures.on _ on whole) (c.in-Ok.ensures.found _ on whole)

pub returns-clause-none : goal.returns-clause-none
returns-clause-none c =
    let made = c.new-cursor.ensures in
    let ceil = c.ceil_char_boundary.ensures in
    let start = rw made.offset at c.in-Ok.ensures.start in
    HasNoneBelow-found _ c.utf8.line c.args.at _ ceil.boundary (ceil.bound c.if-at-line.false) ceil.nearest c.in-Ok.start
    (λ none. start.0 (ap Ok none), λ first. let same = start.1 first in cc)

pub returns-clause-value : goal.returns-clause-value
returns-clause-value c = prev_of-found _ _ c.in-Ok.start (returns-clause-greatest c) (returns-clause-none c)
