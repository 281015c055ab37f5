use Rattle.std.proofs.Common.{◌≡◌, ◌++◌, drop, map}
use Rattle.std.specs.List.{list_all}
use Rattle.stale_spans.specs.Places.{is_span_placed, meant_span}
use Rattle.stale_spans.proofs.places.placed_spans.Given as goal

abbrev pub invariant-loop-span : goal.invariant-loop-span
invariant-loop-span l = record {
  so_far : l.made ++ map (meant_span l.text l.from) (drop l.span-index l.spans) ≡ map (meant_span l.text l.from) l.spans;
  ahead : list_all (is_span_placed l.text l.from) (drop l.span-index l.spans) ≡ list_all (is_span_placed l.text l.from) l.spans;
}
