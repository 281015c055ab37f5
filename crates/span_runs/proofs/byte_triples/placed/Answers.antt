use Rattle.std.proofs.Common.{rules, ◌<◌, ◌^◌, ap, arith, length, map, subst, sym, ◌∙◌}
use Rattle.std.specs.List.Sorted.{IsNonDecreasing}
use Rattle.plain_text.specs.Text.{place_of}
use Rattle.plain_text.proofs.callers.TextLemmas.{length-encodes}
use Rattle.span_runs.specs.Places.{HasEnds, RiseUpTo}
use Rattle.span_runs.proofs.PlaceLemmas.{HasEnds-sorted, RiseUpTo-sorted}
use Rattle.span_runs.proofs.byte_triples.placed.Goals as goal

pub places_of-requires-clause-len : goal.places_of-requires-clause-len
places_of-requires-clause-len c = c.char_count-len.ensures ∙ ap length (sym c.as_str.ensures.characters)

pub places_of-requires-clause-rise : goal.places_of-requires-clause-rise
places_of-requires-clause-rise c =
    let line = c.args.line.now in
    subst (λ len. RiseUpTo 0 len c.as_slice.result.now) (sym c.char_count-len.ensures)
    (subst (RiseUpTo 0 (length line)) (sym c.as_slice.ensures)
    (RiseUpTo-sorted (length line) c.in_ok-gaps.gaps c.args.sorted.now c.requires c.in_ok-gaps.ensures.same c.in_ok-gaps.ensures.rise))

pub in_sequence-requires-clause-rise : goal.in_sequence-requires-clause-rise
in_sequence-requires-clause-rise c = subst IsNonDecreasing (sym c.as_slice-2.ensures) c.in_ok-gaps.ensures.rise

pub in_sequence-requires-clause-ends : goal.in_sequence-requires-clause-ends
in_sequence-requires-clause-ends c =
    subst (λ gaps. HasEnds gaps c.args.sorted.now) (sym c.as_slice-2.ensures) (HasEnds-sorted c.in_ok-gaps.gaps c.args.sorted.now c.in_ok-gaps.ensures.same)

pub in_sequence-requires-clause-places : goal.in_sequence-requires-clause-places
in_sequence-requires-clause-places c =
    c.as_slice-3.ensures ∙ c.in_ok-places.ensures ∙
    ap (λ text. map (place_of text) c.as_slice.result.now) c.as_str.ensures.characters ∙
    ap (map (place_of c.args.line.now)) (c.as_slice.ensures ∙ sym c.as_slice-2.ensures)

pub in_sequence-requires-clause-small : goal.in_sequence-requires-clause-small
in_sequence-requires-clause-small c =
    let bound : length c.as_str.result.now < 2 ^ 63 = search rules in
    omega (arith, bound, ap length c.as_str.ensures.utf8, length-encodes c.args.line.now)
