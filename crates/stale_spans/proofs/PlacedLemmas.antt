-- Ranges and spans whose ends are places: their gaps stand in the order of their offsets.
use Rattle.std.proofs.Common.{◌≡◌, ℕ, ◌+◌, ◌<◌, ◌≤◌, Bool, true, false, ◌&&◌, List, [], ◌∷◌, length, map, Option, Some, None, refl, ap, arith}
use Rattle.std.specs.Prelude.{unwrap_or}
use Rattle.std.specs.List.{list_all}
use Rattle.std.proofs.Math.Seq.{take-length}
use Rattle.plain_text.specs.Text.{byte_len, gap_at, gap_of, is_place}
use Rattle.plain_text.proofs.callers.PlaceLemmas.{IsPlaced, IsPlaced-from, gaps_rise}
use Rattle.plain_text.proofs.callers.TextLemmas.{gap_at_iff, place_of-rises}
use Rattle.plain_edits.specs.declared.style.Span.{Span}
use Rattle.span_styles.specs.Layers.{LieIn}
use Rattle.stale_spans.specs.Places.{StandIn, is_span_placed, meant_span}

pub IsPlaced-at : (text : List ℕ) (at gap : ℕ) → gap_at text at ≡ Some gap → IsPlaced text at gap
IsPlaced-at text at gap is = record {
  within = ((gap_at_iff text at gap).0 is).0;
  place = ((gap_at_iff text at gap).0 is).1;
  of = ap (λ found. unwrap_or found 0) is;
}

-- past the end of a text there is no place
pub none-past : (text : List ℕ) (at : ℕ) → byte_len text < at → None ≡ gap_at text at
none-past text at past = go (gap_at text at) refl
  where
    go : (found : Option ℕ) → gap_at text at ≡ found → None ≡ found
    go None is = refl
    go (Some gap) is =
        let placed = IsPlaced-at text at gap is in
        absurd (omega (arith, past, placed.place, place_of-rises text gap (length text) placed.within, ap byte_len (take-length text)))

pub gaps-ordered : (text : List ℕ) (from to gap more : ℕ) → gap_at text from ≡ Some gap → gap_at text to ≡ Some more → from ≤ to → gap ≤ more
gaps-ordered text from to gap more one other = gaps_rise text from to gap more (IsPlaced-at text from gap one) (IsPlaced-at text to more other)

both : (a b : Bool) → (a && b) ≡ true → (a ≡ true) × (b ≡ true)
both true b is = (refl, is)
both false b is = absurd cc

module _ (text : List ℕ) (from len start end : ℕ) (one : gap_at text from ≡ Some start) (other : gap_at text (from + len) ≡ Some end) where
  LieIn-one : (span : Span) → span.start ≤ span.end → span.end ≤ len → is_span_placed text from span ≡ true →
      (start ≤ gap_of text (from + span.start)) × (gap_of text (from + span.start) ≤ gap_of text (from + span.end)) × (gap_of text (from + span.end) ≤ end)
  LieIn-one span rises within placed =
      let ends = both (is_place text (from + span.start)) (is_place text (from + span.end)) placed in
      let first = IsPlaced-from text (from + span.start) ends.0 in
      let last = IsPlaced-from text (from + span.end) ends.1 in
      let low = gaps_rise text from (from + span.start) start first.0 (IsPlaced-at text from start one) first.1 (omega arith) in
      let middle = gaps_rise text (from + span.start) (from + span.end) first.0 last.0 first.1 last.1 (omega (arith, rises)) in
      let high = gaps_rise text (from + span.end) (from + len) last.0 end last.1 (IsPlaced-at text (from + len) end other) (omega (arith, within)) in
      (omega (arith, low, first.1.of), omega (arith, middle, first.1.of, last.1.of), omega (arith, high, last.1.of))

  pub LieIn-meant : (spans : List Span) → StandIn len spans → list_all (is_span_placed text from) spans ≡ true →
      LieIn (record { start = start; end = end }) (map (meant_span text from) spans)
  LieIn-meant [] stand placed = tt
  LieIn-meant (span ∷ spans) stand placed =
      let parts = both (is_span_placed text from span) (list_all (is_span_placed text from) spans) placed in
      (LieIn-one span stand.0.0 stand.0.1 parts.0, LieIn-meant spans stand.1 parts.1)
