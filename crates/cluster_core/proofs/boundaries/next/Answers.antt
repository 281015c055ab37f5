use Rattle.std.proofs.Common.{refl, Ok, ap}
use Rattle.unicode_segmentation.proofs.CursorLemmas.{IsChunkOf-whole}
use Rattle.cluster_core.proofs.CursorLemmas.{IsLeastAbove-found, HasNoneAbove-found}
use Rattle.cluster_core.proofs.RisingLemmas.{next_of-found}
use Rattle.cluster_core.proofs.boundaries.next.Goals as goal

pub unreachable-requires : goal.unreachable-requires
unreachable-requires c =
    let made = c.new-cursor.ensures in
    let on = made.on _ c.utf8.line refl c.floor_char_boundary.ensures.boundary in
    let ok = c.in-Err.ensures.whole _ on (IsChunkOf-whole _ c.utf8.line) refl refl made.fresh.1 in
    cc

pub returns-clause-least : goal.returns-clause-least
returns-clause-least c =
    let made = c.new-cursor.ensures in
    let floor = c.floor_char_boundary.ensures in
    let on = made.on _ c.utf8.line refl floor.boundary in
    let whole = IsChunkOf-whole _ c.utf8.line in
    IsLeastAbove-found _ c.utf8.line c.args.at _ floor.boundary floor.bound floor.nearest _ _ c.in-Ok.end
    (record { offset = made.offset; is_extended = made.is_extended; is_resuming = made.fresh.0 })
    (c.in-Ok.ensures.on _ on whole) (c.in-Ok.ensures.found _ on whole)

pub returns-clause-none : goal.returns-clause-none
returns-clause-none c =
    let made = c.new-cursor.ensures in
    let floor = c.floor_char_boundary.ensures in
    let end = rw (made.offset, made.len) at c.in-Ok.ensures.end in
    HasNoneAbove-found _ c.utf8.line c.args.at _ floor.boundary floor.bound floor.nearest c.in-Ok.end
    (λ none. end.0 (ap Ok none), λ last. let same = end.1 last in cc)

pub returns-clause-value : goal.returns-clause-value
returns-clause-value c = next_of-found _ _ c.in-Ok.end (returns-clause-least c) (returns-clause-none c)
