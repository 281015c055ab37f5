-- Where `TODO` stands in bytes: the places that memchr tells are those of the definition, and the spans stand at places of the text.
use Rattle.std.proofs.Common.{◌≡◌, inl, inr, ℕ, zero, suc, ◌+◌, ◌-◌, ◌<◌, ◌≤◌, false, List, [], ◌∷◌, ◌++◌, length, map, take, drop, refl, sym, ap, subst, ◌∙◌, arith, append_assoc, append-nil, length-append}
use Rattle.std.specs.Prelude.{nat_eq}
use Rattle.std.specs.List.{starts_with, AllByRecursion}
use Rattle.std.specs.Str.{encode_utf8_all}
use Rattle.std.proofs.lemmas.Bool.{cases_Bool, cond-true, cond-false}
use Rattle.std.proofs.lemmas.List.{drop_at, length-take}
use Rattle.std.proofs.lemmas.Slice.Eq.{bytes_eq-Decides}
use Rattle.memchr.specs.Find.{occurs_at, match_len, matches_from as places_from, matches as places}
use Rattle.memchr.proofs.lemmas.MatchLemmas.{OccursAt-part, OccursAt-from_part, OccursAt-true, occurs_at-true, matches-none}
use Rattle.plain_text.specs.declared.run.Run.{Run}
use Rattle.plain_text.proofs.callers.PlaceLemmas.{same_test}
use Rattle.find_core.specs.Matches.{matches_from}
use Rattle.find_core.proofs.ForCallers.{matches_of-inside}
use Rattle.xi_plain.specs.declared.span.WireSpan.{WireSpan}
use Rattle.shipped_plugins.specs.Marks.{mark, marks_of, mark_span, spans_of}

-- the run of so many bytes that begins at a place
abbrev pub run_at : ℕ → ℕ → Run
run_at len at = record { start = at; end = at + len }

next-len : (front : List ℕ) (c : ℕ) → length (front ++ c ∷ []) ≡ length front + 1
next-len front c = length-append front (c ∷ [])

module _ (hay needle : List ℕ) (some : 0 < length needle) where
  occurs-starts : (i : ℕ) (rest : List ℕ) → drop i hay ≡ rest → i + length rest ≡ length hay → occurs_at hay needle i ≡ starts_with nat_eq rest needle
  occurs-starts i rest is long =
      same_test (occurs_at hay needle i) (starts_with nat_eq rest needle)
      (λ yes.
      (bytes_eq-Decides needle (take (length needle) rest)).1
      (sym (ap (take (length needle)) (sym is) ∙ OccursAt-part hay needle i (OccursAt-true hay needle i yes))))
      (λ yes.
      let same : take (length needle) rest ≡ needle = sym ((bytes_eq-Decides needle (take (length needle) rest)).0 yes) in
      occurs_at-true hay needle i
      (OccursAt-from_part hay needle i (omega (arith, ap length same, length-take (length needle) rest, long)) (ap (take (length needle)) is ∙ same)))

  -- what the places from a byte on are to be, where the text goes on so
  abbrev Tells : List ℕ → ℕ → Type 0
  Tells rest skip = (front : List ℕ) → hay ≡ front ++ rest →
      map (run_at (length needle)) (places_from hay needle skip (length front) (suc (length rest))) ≡ matches_from needle (length front) skip rest

  -- the same a byte further
  told_next : (front : List ℕ) (c : ℕ) (rest : List ℕ) (skip : ℕ) → Tells rest skip → hay ≡ front ++ c ∷ rest →
      map (run_at (length needle)) (places_from hay needle skip (length front + 1) (suc (length rest))) ≡ matches_from needle (length front + 1) skip rest
  told_next front c rest skip tells parts =
      ap (λ n. map (run_at (length needle)) (places_from hay needle skip n (suc (length rest)))) (sym (next-len front c)) ∙
      tells (front ++ c ∷ []) (parts ∙ sym (append_assoc front (c ∷ []) rest)) ∙
      ap (λ n. matches_from needle n skip rest) (next-len front c)

  told : (rest : List ℕ) (skip : ℕ) → Tells rest skip
  unfolding places_from
  told [] zero front parts =
      let long : length front ≡ length hay = omega (arith, ap length parts, length-append front []) in
      let count : 1 ≡ length hay + 1 - length front = omega arith in
      ap (λ n. map (run_at (length needle)) (places_from hay needle 0 (length front) n)) count ∙
      ap (map (run_at (length needle))) (matches-none hay needle (length front) (λ k low high occurs. absurd (omega (arith, occurs.fits, some))))
  told [] (suc skip) front parts = refl
  told (c ∷ rest) (suc skip) front parts = told_next front c rest skip (told rest skip) parts
  told (c ∷ rest) zero front parts =
      let here : drop (length front) hay ≡ c ∷ rest = ap (drop (length front)) parts ∙ drop_at front (c ∷ rest) (length front) refl in
      let long : length front + length (c ∷ rest) ≡ length hay = omega (arith, ap length parts, length-append front (c ∷ rest)) in
      let same = occurs-starts (length front) (c ∷ rest) here long in
      let width : match_len needle - 1 ≡ length needle - 1 = omega arith in
      elim (cases_Bool (starts_with nat_eq (c ∷ rest) needle)) [
        | inl begins ↦
            ap (map (run_at (length needle))) (cond-true _ _ _ (same ∙ begins)) ∙
            ap (λ n. run_at (length needle) (length front) ∷ map (run_at (length needle)) (places_from hay needle n (length front + 1) (suc (length rest)))) width ∙
            ap (λ rs. run_at (length needle) (length front) ∷ rs) (told_next front c rest (length needle - 1) (told rest (length needle - 1)) parts) ∙
            sym (cond-true _ _ _ begins)
        | inr misses ↦
            ap (map (run_at (length needle))) (cond-false _ _ _ (same ∙ misses)) ∙ told_next front c rest 0 (told rest 0) parts ∙ sym (cond-false _ _ _ misses)
      ]

  -- THE PLACES ARE THOSE OF THE MATCHES
  pub places-matches : map (run_at (length needle)) (places hay needle 0) ≡ matches_from needle 0 0 hay
  places-matches =
      let count : length hay + 1 - 0 ≡ suc (length hay) = omega arith in
      ap (λ n. map (run_at (length needle)) (places_from hay needle 0 0 n)) count ∙ told hay 0 [] refl

-- ---- a search under way

-- the span at a place
abbrev pub span_at : ℕ → WireSpan
span_at at = mark_span (run_at 4 at)

-- these spans are made, the rest are those at these places, and all of these end inside the chunk
pub record MarkedSoFar (chunk : List ℕ) (made : List WireSpan) (left : List ℕ) : Type 0 where
  pub whole : made ++ map span_at left ≡ spans_of chunk
  pub inside : AllByRecursion (λ run. (run.start < run.end) × (run.end ≤ length (encode_utf8_all chunk))) (map (run_at 4) left)

map-map : (ats : List ℕ) → map span_at ats ≡ map mark_span (map (run_at 4) ats)
map-map [] = refl
map-map (at ∷ ats) = ap (λ spans. span_at at ∷ spans) (map-map ats)

pub MarkedSoFar-start : (chunk hay needle : List ℕ) (made : List WireSpan) (left : List ℕ) → hay ≡ encode_utf8_all chunk → needle ≡ mark → made ≡ [] → left ≡ places hay needle 0 →
    MarkedSoFar chunk made left
MarkedSoFar-start chunk hay needle made left spells is none are =
    let ats : left ≡ places (encode_utf8_all chunk) mark 0 = are ∙ ap (λ h. places h needle 0) spells ∙ ap (λ n. places (encode_utf8_all chunk) n 0) is in
    let runs : map (run_at 4) left ≡ marks_of chunk = ap (map (run_at 4)) ats ∙ places-matches (encode_utf8_all chunk) mark (omega arith) in
    record {
      whole = ap (λ spans. spans ++ map span_at left) none ∙ map-map left ∙ ap (map mark_span) runs;
      inside = subst (AllByRecursion (λ run. (run.start < run.end) × (run.end ≤ length (encode_utf8_all chunk)))) (sym runs) (matches_of-inside (encode_utf8_all chunk) mark false);
    }

pub MarkedSoFar-inside : (chunk : List ℕ) (made : List WireSpan) (left : List ℕ) (at : ℕ) (ats : List ℕ) → left ≡ at ∷ ats → MarkedSoFar chunk made left → at + 4 ≤ length (encode_utf8_all chunk)
MarkedSoFar-inside chunk made left at ats steps so =
    (subst (λ xs. AllByRecursion (λ run. (run.start < run.end) × (run.end ≤ length (encode_utf8_all chunk))) (map (run_at 4) xs)) steps so.inside).0.1

pub MarkedSoFar-next : (chunk : List ℕ) (made after : List WireSpan) (left : List ℕ) (at : ℕ) (ats : List ℕ) → left ≡ at ∷ ats → after ≡ made ++ span_at at ∷ [] → MarkedSoFar chunk made left →
    MarkedSoFar chunk after ats
MarkedSoFar-next chunk made after left at ats steps puts so = record {
  whole =
      ap (λ spans. spans ++ map span_at ats) puts ∙ append_assoc made (span_at at ∷ []) (map span_at ats) ∙ ap (λ xs. made ++ map span_at xs) (sym steps) ∙ so.whole;
  inside = (subst (λ xs. AllByRecursion (λ run. (run.start < run.end) × (run.end ≤ length (encode_utf8_all chunk))) (map (run_at 4) xs)) steps so.inside).1;
}

pub MarkedSoFar-end : (chunk : List ℕ) (made : List WireSpan) (left : List ℕ) → left ≡ [] → MarkedSoFar chunk made left → made ≡ spans_of chunk
MarkedSoFar-end chunk made left none so = sym (append-nil made) ∙ ap (λ xs. made ++ map span_at xs) (sym none) ∙ so.whole
