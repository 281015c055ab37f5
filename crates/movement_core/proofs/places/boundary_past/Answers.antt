use Rattle.std.proofs.Common.{ℕ, arith, refl, subst}
use Rattle.cluster_core.specs.Boundaries.{HasNoneAbove, IsLeastAbove}
use Rattle.movement_core.proofs.ByteLemmas.{next-found, next-place, next-some}
use Rattle.movement_core.proofs.places.boundary_past.Goals as goal

pub gap_of-requires : goal.gap_of-requires
gap_of-requires c =
    next-place c.args.line.now c.as_str-text.result.now c.args.gap c.as_str-text.ensures.utf8 c.as_str-text.ensures.scalars (let lt = c.requires in omega arith) _
    (subst (λ (p : ℕ). IsLeastAbove c.as_str-text.result.now p c.in-Some.found) c.place_of-place.ensures c.in-Some.ensures.least)

pub returns : goal.returns
returns c =
    next-found c.args.line.now c.as_str-text.result.now c.args.gap c.as_str-text.ensures.utf8 c.as_str-text.ensures.scalars (let lt = c.requires in omega arith) c.in-Some.found c.gap_of.result
    (subst (λ (p : ℕ). IsLeastAbove c.as_str-text.result.now p c.in-Some.found) c.place_of-place.ensures c.in-Some.ensures.least) c.gap_of.ensures

pub unreachable-requires : goal.unreachable-requires
unreachable-requires c =
    next-some c.args.line.now c.as_str-text.result.now c.args.gap c.as_str-text.ensures.utf8 c.as_str-text.ensures.scalars (let lt = c.requires in omega arith) c.requires
    (subst (λ (p : ℕ). HasNoneAbove c.as_str-text.result.now p) c.place_of-place.ensures (c.in-None.ensures.none.0 refl))
