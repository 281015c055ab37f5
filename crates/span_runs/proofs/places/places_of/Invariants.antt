use Rattle.std.proofs.Common.{◌≡◌, ◌≤◌, ◌++◌, drop, map}
use Rattle.std.specs.Str.{IsUtf8, chars}
use Rattle.plain_text.specs.Text.{place_of}
use Rattle.span_runs.specs.Places.{RiseUpTo}
use Rattle.span_runs.proofs.places.places_of.Given as goal

abbrev pub invariant-loop-gap : goal.invariant-loop-gap
invariant-loop-gap l = record {
  shown : l.places ++ map (place_of (chars l.line)) (drop l.gap-index l.gaps) ≡ map (place_of (chars l.line)) l.gaps;
  utf8 : IsUtf8 l.rest;
  rest : chars l.rest ≡ drop l.at (chars l.line);
  place : l.place ≡ place_of (chars l.line) l.at;
  rise : RiseUpTo l.at l.len (drop l.gap-index l.gaps);
  inside : l.at ≤ l.len;
}
