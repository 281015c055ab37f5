use Rattle.std.proofs.Common.{◌<◌, ℕ, arith, refl, subst, ◌∙◌, length}
use Rattle.cluster_core.specs.Boundaries.{HasNoneBelow, IsGreatestBelow}
use Rattle.movement_core.proofs.ByteLemmas.{below-next, none-next, up_to-end, up_to-found, up_to-place}
use Rattle.movement_core.proofs.places.boundary_up_to.Goals as goal

pub returns-then-gap-len : goal.returns-then-gap-len
returns-then-gap-len c =
    up_to-end c.args.line.now c.as_str-text.result.now c.args.gap c.as_str-text.ensures.utf8 c.as_str-text.ensures.scalars c.requires
    (c.if-gap-len.true ∙ c.char_count-len.ensures)

pub gap_of-requires : goal.gap_of-requires
gap_of-requires c =
    let line = c.args.line.now in
    let utf8 = c.as_str-text.ensures.utf8 in
    let scalars = c.as_str-text.ensures.scalars in
    let less : c.args.gap < length line = let le = c.requires in omega (arith, c.if-gap-len.false, c.char_count-len.ensures) in
    up_to-place line c.as_str-text.result.now c.args.gap utf8 scalars c.requires _
    (below-next line c.as_str-text.result.now c.args.gap utf8 scalars c.requires _ less
    (subst (λ (p : ℕ). IsGreatestBelow c.as_str-text.result.now p c.in-Some.found) c.place_of-place.ensures c.in-Some.ensures.greatest))

pub returns : goal.returns
returns c =
    let line = c.args.line.now in
    let utf8 = c.as_str-text.ensures.utf8 in
    let scalars = c.as_str-text.ensures.scalars in
    let less : c.args.gap < length line = let le = c.requires in omega (arith, c.if-gap-len.false, c.char_count-len.ensures) in
    up_to-found line c.as_str-text.result.now c.args.gap utf8 scalars c.requires c.in-Some.found c.gap_of.result
    (below-next line c.as_str-text.result.now c.args.gap utf8 scalars c.requires _ less
    (subst (λ (p : ℕ). IsGreatestBelow c.as_str-text.result.now p c.in-Some.found) c.place_of-place.ensures c.in-Some.ensures.greatest))
    c.gap_of.ensures

pub unreachable-requires : goal.unreachable-requires
unreachable-requires c =
    let line = c.args.line.now in
    let less : c.args.gap < length line = let le = c.requires in omega (arith, c.if-gap-len.false, c.char_count-len.ensures) in
    none-next line c.as_str-text.result.now c.args.gap c.as_str-text.ensures.utf8 c.as_str-text.ensures.scalars c.requires less
    (subst (λ (p : ℕ). HasNoneBelow c.as_str-text.result.now p) c.place_of-place.ensures (c.in-None.ensures.none.0 refl))
