use Rattle.std.proofs.Common.{◌≡◌, ℕ, List, ◌+◌, ◌-◌, ◌++◌, ◌∷◌, [], ap, ap₂, sym, ◌∙◌, arith, length, append_assoc, drop, get_or, pos, ◌-ℤ◌}
use Rattle.plain_text.proofs.callers.TextLemmas.{place_of-rises}
use Rattle.plain_edits.specs.declared.style.Span.{Span}
use Rattle.plain_screen.specs.declared.screen.Triple.{Triple}
use Rattle.span_runs.specs.Triples.{triples_after}
use Rattle.span_runs.proofs.PlaceLemmas.{triples_after-step, triple_of, HasEnds-at, LieInLine-at}
use Rattle.span_runs.proofs.byte_triples.in_sequence.Goals as goal

abbrev made_of : ℕ → ℕ → ℕ → ℕ → Triple
made_of end id start next = record { start = pos start -ℤ pos end; len = next - start; id = id }

abbrev nothing : Span
nothing = record { start = 0; end = 0; style = 0 }

pub place_at-start-requires-clause-has : goal.place_at-start-requires-clause-has
place_at-start-requires-clause-has c = (HasEnds-at c.args.gaps.now c.loop-span.span-index c.args.sorted.now nothing c.loop-span-test.true c.requires.ends).0

pub place_at-next-requires-clause-has : goal.place_at-next-requires-clause-has
place_at-next-requires-clause-has c = (HasEnds-at c.args.gaps.now c.loop-span.span-index c.args.sorted.now nothing c.loop-span-test.true c.requires.ends).1

pub triple-requires-clause-ordered : goal.triple-requires-clause-ordered
triple-requires-clause-ordered c =
    let at = LieInLine-at (length c.args.line.now) c.loop-span.span-index c.args.sorted.now nothing c.loop-span-test.true c.loop-span.invariant.inside in
    omega (arith, place_of-rises c.args.line.now (get_or c.args.sorted.now c.loop-span.span-index nothing).start (get_or c.args.sorted.now c.loop-span.span-index nothing).end at.0, c.place_at-start.ensures.place, c.place_at-next.ensures.place)

pub loop-span-preserved : goal.loop-span-preserved
loop-span-preserved c =
    let line = c.args.line.now in
    let i = c.loop-span.span-index in
    let span = get_or c.args.sorted.now i nothing in
    let at = LieInLine-at (length line) i c.args.sorted.now nothing c.loop-span-test.true c.loop-span.invariant.inside in
    let rest = triples_after line c.place_at-next.result (drop (i + 1) c.args.sorted.now) in
    let one : c.triple.result ≡ triple_of line c.loop-span.end span =
    c.triple.ensures ∙ ap₂ (λ (n m : ℕ). made_of c.loop-span.end span.style n m) c.place_at-start.ensures.place c.place_at-next.ensures.place in
    record {
      so_far =
          ap (λ (ts : List Triple). ts ++ rest) (c.in_ok-push.ensures.pushed ∙ ap (λ (t : Triple). c.loop-span.made ++ t ∷ []) one) ∙
          append_assoc c.loop-span.made (triple_of line c.loop-span.end span ∷ []) rest ∙
          ap (λ (n : ℕ). c.loop-span.made ++ (triple_of line c.loop-span.end span ∷ triples_after line n (drop (i + 1) c.args.sorted.now))) c.place_at-next.ensures.place ∙
          ap (λ (ts : List Triple). c.loop-span.made ++ ts) (sym (triples_after-step line c.loop-span.end i c.args.sorted.now nothing c.loop-span-test.true)) ∙
          c.loop-span.invariant.so_far;
      inside = at.2;
      low = c.place_at-next.ensures.inside;
      small = c.loop-span.invariant.small;
    }
