use Rattle.std.proofs.Common.{arith, ap, length, ltb, rules}
use Rattle.std.proofs.lemmas.List.{length-map}
use Rattle.std.proofs.lemmas.List.Sorted.{IsPartitionPoint-from_clause, IsPartitionedBy-ltb}
use Rattle.plain_text.specs.Text.{place_of}
use Rattle.span_runs.proofs.GapLemmas.{place_of-le}
use Rattle.span_runs.proofs.PlaceLemmas.{found-at, place-found}
use Rattle.span_runs.proofs.byte_triples.place_at.Goals as goal

pub bounds-places-at : goal.bounds-places-at
bounds-places-at c =
    let gaps = c.args.gaps.now in
    let at = c.partition_point-at.result in
    let point = IsPartitionPoint-from_clause (λ other. ltb other c.args.gap) _ _ c.partition_point-at.ensures.partitioned
    (IsPartitionedBy-ltb (λ other. other) gaps c.args.gap c.requires.rise) (λ a r q k. search rules) in
    let found = found-at gaps c.args.gap at c.requires.rise c.requires.has point in
    let inside = found.inside in
    omega (arith, inside, ap length c.requires.places, length-map gaps (place_of c.args.line.now))

pub returns-clause-place : goal.returns-clause-place
returns-clause-place c =
    let gaps = c.args.gaps.now in
    let at = c.partition_point-at.result in
    let point = IsPartitionPoint-from_clause (λ other. ltb other c.args.gap) _ _ c.partition_point-at.ensures.partitioned
    (IsPartitionedBy-ltb (λ other. other) gaps c.args.gap c.requires.rise) (λ a r q k. search rules) in
    place-found c.args.line.now gaps c.args.places.now c.args.gap at (found-at gaps c.args.gap at c.requires.rise c.requires.has point) c.requires.places

pub returns-clause-inside : goal.returns-clause-inside
returns-clause-inside c = omega (arith, returns-clause-place c, place_of-le c.args.line.now c.args.gap)
