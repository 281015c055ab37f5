-- A search under way: what is found by then, in characters.
use Rattle.std.proofs.Common.{◌≡◌, ℕ, ◌≤◌, true, List, [], ◌∷◌, ◌++◌, map, take, refl, sym, ap, ap₂, subst, ◌∙◌, arith, append_assoc, append-nil, length-take-le}
use Rattle.std.specs.Prelude.{is_some}
use Rattle.std.specs.List.{flat_map}
use Rattle.std.specs.Str.{encode_utf8_all, all_scalars, IsCharBoundary}
use Rattle.std.proofs.lemmas.Str.{length-le-encodes}
use Rattle.plain_text.specs.declared.run.Run.{Run}
use Rattle.plain_text.specs.Text.{is_place, gap_of}
use Rattle.plain_text.proofs.callers.TextLemmas.{gap_from-place, length-encodes-take}
use Rattle.plain_text.proofs.callers.PlaceLemmas.{IsPlaced, IsPlaced-from, is_place-boundary}
use Rattle.regex.specs.Patterns.{Re}
use Rattle.regex_find.specs.Spots.{run_between}
use Rattle.regex_find.specs.Pattern.{byte_spans, spot_of, pattern_spots}
use Rattle.regex_find.specs.SpotLaws.{AreRising, spans-rise, start-placed}

-- the matches that are left, each with the bytes in which it was found
abbrev pub in_bytes : List ℕ → List (ℕ × ℕ) → List (List ℕ × (ℕ × ℕ))
in_bytes bytes spans = map (λ span. (bytes, span)) spans

-- these spots are found, the rest of the matches are left, and the last one ended at `place`, which is the place of `gap`
pub record IsSoFar (pattern : Re) (text : List ℕ) (place gap : ℕ) (found : List Run) (left : List (List ℕ × (ℕ × ℕ))) : Type 0 where
  pub spans : List (ℕ × ℕ)
  pub left_is : left ≡ in_bytes (encode_utf8_all text) spans
  pub whole : found ++ flat_map (spot_of text) spans ≡ pattern_spots pattern text
  pub rise : AreRising place spans
  pub placed : IsPlaced text place gap

pub IsSoFar-start : (pattern : Re) (text bytes : List ℕ) (found : List Run) (left : List (List ℕ × (ℕ × ℕ))) → bytes ≡ encode_utf8_all text → found ≡ [] →
    left ≡ in_bytes bytes (byte_spans pattern text) → IsSoFar pattern text 0 0 found left
IsSoFar-start pattern text bytes found left is none are = record {
  spans = byte_spans pattern text;
  left_is = are ∙ ap (λ b. in_bytes b (byte_spans pattern text)) is;
  whole = ap (λ f. f ++ pattern_spots pattern text) none;
  rise = spans-rise pattern (encode_utf8_all text);
  placed = start-placed text;
}

-- where nothing is left, all is found
pub IsSoFar-end : (pattern : Re) (text : List ℕ) (place gap : ℕ) (found : List Run) (left : List (List ℕ × (ℕ × ℕ))) → IsSoFar pattern text place gap found left →
    left ≡ [] → found ≡ pattern_spots pattern text
IsSoFar-end pattern text place gap found left so_far none =
    sym (append-nil found) ∙ ap (λ spans. found ++ flat_map (spot_of text) spans) (sym (no-spans so_far.spans (sym so_far.left_is ∙ none))) ∙ so_far.whole
  where
    no-spans : (spans : List (ℕ × ℕ)) → in_bytes (encode_utf8_all text) spans ≡ [] → spans ≡ []
    no-spans [] is = refl
    no-spans (span ∷ spans) is = absurd cc

is_place-placed : (text : List ℕ) (at gap : ℕ) → IsPlaced text at gap → is_place text at ≡ true
is_place-placed text at gap placed = subst (λ k. is_place text k ≡ true) placed.place (ap is_some (gap_from-place 0 text gap placed.within))

-- no gap is past its place
gap-most : (text : List ℕ) (at gap : ℕ) → IsPlaced text at gap → gap ≤ at
gap-most text at gap placed =
    omega (arith, placed.place, length-encodes-take text gap, length-le-encodes (take gap text), length-take-le gap text placed.within)

-- the next match: its ends are places behind what was found, and with its spot one more is found
pub record IsNext (pattern : Re) (text : List ℕ) (place gap : ℕ) (found : List Run) (from to : ℕ) (left : List (List ℕ × (ℕ × ℕ))) : Type 0 where
  pub after : place ≤ from
  pub ordered : from ≤ to
  pub here : is_place text place ≡ true
  pub start : is_place text from ≡ true
  pub end : is_place text to ≡ true
  pub gap_here : gap_of text place ≡ gap
  pub most : gap_of text to ≤ to
  pub so_far : IsSoFar pattern text to (gap_of text to) (found ++ run_between (gap_of text from) (gap_of text to)) left

module _ (pattern : Re) (text : List ℕ) (place gap : ℕ) (found : List Run) (scalars : all_scalars text ≡ true) where
  next-of : (spans : List (ℕ × ℕ)) (bytes : List ℕ) (from to : ℕ) (left : List (List ℕ × (ℕ × ℕ))) →
      (bytes, (from, to)) ∷ left ≡ in_bytes (encode_utf8_all text) spans → found ++ flat_map (spot_of text) spans ≡ pattern_spots pattern text →
      AreRising place spans → IsPlaced text place gap → IsCharBoundary bytes from → IsCharBoundary bytes to → IsNext pattern text place gap found from to left
  next-of [] bytes from to left are whole rise placed from_cut to_cut = absurd cc
  next-of (span ∷ spans) bytes from to left are whole rise placed from_cut to_cut =
      let hay = ap (λ (p : List ℕ × (ℕ × ℕ)). p.0) (cons-parts are).0 in
      let first = ap (λ (p : List ℕ × (ℕ × ℕ)). p.1.0) (cons-parts are).0 in
      let second = ap (λ (p : List ℕ × (ℕ × ℕ)). p.1.1) (cons-parts are).0 in
      let rest = (cons-parts are).1 in
      let start = is_place-boundary text from scalars (subst (λ b. IsCharBoundary b from) hay from_cut) in
      let end = is_place-boundary text to scalars (subst (λ b. IsCharBoundary b to) hay to_cut) in
      let spot : spot_of text span ≡ run_between (gap_of text from) (gap_of text to) =
      ap (spot_of text) (sym (same-pair first second)) ∙ both-places from to start end in
      let placed_end = IsPlaced-from text to end in
      record {
        after = omega (arith, rise.0, first);
        ordered = omega (arith, rise.1, first, second);
        here = is_place-placed text place gap placed;
        start = start;
        end = end;
        gap_here = placed.of;
        most = subst (λ k. k ≤ to) (sym placed_end.1.of) (gap-most text to placed_end.0 placed_end.1);
        so_far = record {
          spans = spans;
          left_is = rest;
          whole = append_assoc found _ (flat_map (spot_of text) spans) ∙ ap (λ f. found ++ (f ++ flat_map (spot_of text) spans)) (sym spot) ∙ whole;
          rise = subst (λ k. AreRising k spans) (sym second) rise.2;
          placed = subst (IsPlaced text to) (sym placed_end.1.of) placed_end.1;
        };
      }
    where
      cons-parts : {X : Type 0} {x y : X} {xs ys : List X} → x ∷ xs ≡ y ∷ ys → (x ≡ y) × (xs ≡ ys)
      cons-parts is = (cc, cc)

      same-pair : {a b : ℕ} {p : ℕ × ℕ} → a ≡ p.0 → b ≡ p.1 → (a, b) ≡ p
      same-pair one two = ap₂ (λ x y. (x, y)) one two

      both-places : (from to : ℕ) → is_place text from ≡ true → is_place text to ≡ true →
          spot_of text (from, to) ≡ run_between (gap_of text from) (gap_of text to)
      both-places from to one two = grind (arith, one, two)

  pub IsSoFar-next : (old new : List (List ℕ × (ℕ × ℕ))) (bytes : List ℕ) (from to : ℕ) → old ≡ (bytes, (from, to)) ∷ new → IsSoFar pattern text place gap found old →
      IsCharBoundary bytes from → IsCharBoundary bytes to → IsNext pattern text place gap found from to new
  IsSoFar-next old new bytes from to steps so_far from_cut to_cut =
      next-of so_far.spans bytes from to new (sym steps ∙ so_far.left_is) so_far.whole so_far.rise so_far.placed from_cut to_cut
