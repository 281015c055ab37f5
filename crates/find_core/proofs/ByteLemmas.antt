-- Lemmas on the bytes of a text: where those of some characters stand among them, the characters stand in the text.
use Rattle.std.proofs.Common.{◌≡◌, inl, inr, ⊎_elim, ℕ, zero, suc, ◌+◌, ◌-◌, ◌<◌, ◌≤◌, true, false, List, [], ◌∷◌, ◌++◌, length, take, drop, refl, sym, ap, ap₂, subst, ◌∙◌, arith, append_assoc, append-nil, length-append, length-drop, get_or, zero-add}
use Rattle.std.specs.Prelude.{nat_eq, unwrap_or, is_some}
use Rattle.std.proofs.Math.Seq.{take-nil}
use Rattle.std.specs.List.{starts_with}
use Rattle.std.specs.Str.{chars, encode_utf8_all, all_scalars, IsUtf8, IsCharBoundary}
use Rattle.std.proofs.lemmas.Bool.{cases_Bool, cases_order, cond-false, false≢true}
use Rattle.std.proofs.lemmas.Bool.Decides.{Decides-eqb}
use Rattle.std.proofs.lemmas.List.{take_all, take_at}
use Rattle.std.proofs.lemmas.Slice.Eq.{starts_is}
use Rattle.std.proofs.lemmas.Str.{chars-encodes, chars-append, encodes-append, length-le-encodes, IsCharBoundary-start}
use Rattle.memchr.specs.Find.{OccursAt, Nowhere, NoneBefore, match_len, matches_from as places_from, matches as places}
use Rattle.memchr.proofs.lemmas.MatchLemmas.{OccursAt-split, OccursAt-from_part, OccursAt-true, matches-none, matches-first}
use Rattle.plain_text.specs.Text.{byte_len, place_of, is_place, gap_of}
use Rattle.plain_text.specs.declared.run.Run.{Run}
use Rattle.plain_text.proofs.callers.TextLemmas.{length-encodes, all_scalars-drop, place_of-rises, gap_from-place}
use Rattle.plain_text.proofs.callers.PlaceLemmas.{IsPlaced, IsPlaced-from, is_place-boundary, place_of-rises_strictly, drop-place}
use Rattle.find_core.specs.Matches.{matches_from}
use Rattle.find_core.proofs.MatchLemmas.{run_at, here-is, next-parts, next-len, matches_from-hit, matches_from-miss}

-- ---- places in bytes, as memchr tells them

module _ (hay needle : List ℕ) where
  places_from-miss : (i n : ℕ) → ¬ OccursAt hay needle i → places_from hay needle 0 i (suc n) ≡ places_from hay needle 0 (i + 1) n
  unfolding places_from
  places_from-miss i n not = ⊎_elim (λ is. absurd (not (OccursAt-true hay needle i is))) (λ is. cond-false _ _ _ is) (cases_Bool _)

  places_from-over : (m i n : ℕ) → Nowhere (OccursAt hay needle) i (i + m) → places_from hay needle 0 i (m + n) ≡ places_from hay needle 0 (i + m) n
  places_from-over zero i n none =
      let count : 0 + n ≡ n = omega arith in
      let same : i ≡ i + 0 = omega arith in
      ap (places_from hay needle 0 i) count ∙ ap (λ k. places_from hay needle 0 k n) same
  places_from-over (suc m) i n none =
      let count : suc m + n ≡ suc (m + n) = omega arith in
      let place : i + 1 + m ≡ i + suc m = omega arith in
      ap (places_from hay needle 0 i) count ∙ places_from-miss i (m + n) (none i (omega arith) (omega arith)) ∙
      places_from-over m (i + 1) n (λ k low high. none k (omega arith) (omega arith)) ∙ ap (λ k. places_from hay needle 0 k n) place

  -- places where nothing begins are passed over
  places-over : (i j : ℕ) → i ≤ j → j ≤ length hay → Nowhere (OccursAt hay needle) i j → places hay needle i ≡ places hay needle j
  places-over i j rises within none =
      let count : length hay + 1 - i ≡ (j - i) + (length hay + 1 - j) = omega arith in
      let place : i + (j - i) ≡ j = omega arith in
      ap (places_from hay needle 0 i) count ∙
      places_from-over (j - i) i (length hay + 1 - j) (λ k low high. none k low (omega arith)) ∙ ap (λ k. places_from hay needle 0 k (length hay + 1 - j)) place

-- ---- what is known of the places that memchr tells

-- a place and the run that begins there, not before a gap
pub record IsTold (text : List ℕ) (len from at : ℕ) (run : Run) : Type 0 where
  pub after : from ≤ run.start
  pub end : run.end ≡ run.start + len
  pub inside : run.end ≤ length text
  pub place : at ≡ place_of text run.start

-- the places of these runs, of which the first is not before a gap
abbrev pub AreTold : List ℕ → ℕ → ℕ → List ℕ → List Run → Type 0
AreTold text len from [] [] = Unit {0}
AreTold text len from [] (run ∷ runs) = ⊥
AreTold text len from (at ∷ ats) [] = ⊥
AreTold text len from (at ∷ ats) (run ∷ runs) = IsTold text len from at run × AreTold text len run.start ats runs

pub AreTold-none : (text : List ℕ) (len from : ℕ) (runs : List Run) → AreTold text len from [] runs → runs ≡ []
AreTold-none text len from [] told = refl
AreTold-none text len from (run ∷ runs) told = absurd told

pub AreTold-some : (text : List ℕ) (len from at : ℕ) (ats : List ℕ) (runs : List Run) → AreTold text len from (at ∷ ats) runs →
    (run : Run) × (rest : List Run) × (runs ≡ run ∷ rest) × IsTold text len from at run × AreTold text len run.start ats rest
AreTold-some text len from at ats [] told = absurd told
AreTold-some text len from at ats (run ∷ runs) told = (run, runs, refl, told.0, told.1)

AreTold-earlier : (text : List ℕ) (len from to : ℕ) (ats : List ℕ) (runs : List Run) → from ≤ to → AreTold text len to ats runs → AreTold text len from ats runs
AreTold-earlier text len from to [] [] rises told = tt
AreTold-earlier text len from to [] (run ∷ runs) rises told = told
AreTold-earlier text len from to (at ∷ ats) [] rises told = told
AreTold-earlier text len from to (at ∷ ats) (run ∷ runs) rises told =
    (record { after = omega (arith, told.0.after); end = told.0.end; inside = told.0.inside; place = told.0.place }, told.1)

-- ---- the gap of a place

pub gap_of-place : (text : List ℕ) (gap : ℕ) → gap ≤ length text → gap_of text (place_of text gap) ≡ gap
gap_of-place text gap inside = ap (λ o. unwrap_or o 0) (gap_from-place 0 text gap inside) ∙ zero-add gap

pub is_place-place : (text : List ℕ) (gap : ℕ) → gap ≤ length text → is_place text (place_of text gap) ≡ true
is_place-place text gap inside = ap is_some (gap_from-place 0 text gap inside)

place_of-plus : (gap n : ℕ) (text : List ℕ) → place_of text (gap + n) ≡ place_of text gap + place_of (drop gap text) n
place_of-plus zero n text = let same : 0 + n ≡ n = omega arith in ap (place_of text) same ∙ sym (zero-add (place_of text n))
place_of-plus (suc gap) n [] = omega (arith, ap byte_len (take-nil {A = ℕ} (suc gap + n)), ap byte_len (take-nil {A = ℕ} n))
place_of-plus (suc gap) n (c ∷ text) =
    let sum : suc gap + n ≡ suc (gap + n) = omega arith in
    ap (place_of (c ∷ text)) sum ∙ omega (arith, place_of-plus gap n text)

-- ---- bytes and characters

ap₂-subst : {X Y : Type 0} (P : X → Y → Type 0) {x x' : X} {y y' : Y} → x ≡ x' → y ≡ y' → P x' y' → P x y
ap₂-subst P {x} {x'} {y} {y'} first second holds = subst (λ z. P z y) (sym first) (subst (P x') (sym second) holds)

module _ (text cs : List ℕ) (scalars : all_scalars text ≡ true) (cs_scalars : all_scalars cs ≡ true) (some : 0 < length cs) where
  utf8 : IsUtf8 (encode_utf8_all cs)
  utf8 = (cs, (cs_scalars, refl))

  long : 0 < length (encode_utf8_all cs)
  long = omega (arith, length-le-encodes cs)

  -- the bytes of the characters begin only where a character begins
  OccursAt-boundary : (at : ℕ) → OccursAt (encode_utf8_all text) (encode_utf8_all cs) at → IsCharBoundary (encode_utf8_all text) at
  OccursAt-boundary at occurs =
      let first : get_or (encode_utf8_all text) (at + 0) 0 ≡ get_or (encode_utf8_all cs) 0 0 = occurs.reads 0 long in
      let plus : at + 0 ≡ at = omega arith in
      let same : get_or (encode_utf8_all text) at 0 ≡ get_or (encode_utf8_all cs) 0 0 = ap (λ k. get_or (encode_utf8_all text) k 0) (sym plus) ∙ first in
      let start = IsCharBoundary-start (encode_utf8_all cs) utf8 in
      (omega (arith, occurs.fits), λ below high. subst (λ b. 192 ≤ b) (sym same) (start.1 long (subst (λ b. 128 ≤ b) same high)))

  OccursAt-gap : (at : ℕ) → OccursAt (encode_utf8_all text) (encode_utf8_all cs) at → (gap : ℕ) × IsPlaced text at gap
  OccursAt-gap at occurs = IsPlaced-from text at (is_place-boundary text at scalars (OccursAt-boundary at occurs))

  -- at a gap the bytes stand exactly where the characters do
  OccursAt-begins : (gap : ℕ) → OccursAt (encode_utf8_all text) (encode_utf8_all cs) (place_of text gap) → starts_with nat_eq (drop gap text) cs ≡ true
  OccursAt-begins gap occurs =
      let rest = drop (place_of text gap + length (encode_utf8_all cs)) (encode_utf8_all text) in
      let split : encode_utf8_all (drop gap text) ≡ encode_utf8_all cs ++ rest = sym (drop-place text gap) ∙ OccursAt-split (encode_utf8_all text) (encode_utf8_all cs) (place_of text gap) occurs in
      let front : chars (encode_utf8_all cs) ≡ cs = chars-encodes cs cs_scalars in
      let parts : drop gap text ≡ cs ++ chars rest =
      sym (chars-encodes (drop gap text) (all_scalars-drop gap text scalars)) ∙ ap chars split ∙ chars-append (encode_utf8_all cs) rest utf8 ∙
      ap (λ t. t ++ chars rest) front in
      (starts_is Decides-eqb (drop gap text) cs _ refl).1 (chars rest) parts

  begins-parts : (gap : ℕ) → starts_with nat_eq (drop gap text) cs ≡ true → drop gap text ≡ cs ++ drop (length cs) (drop gap text)
  begins-parts gap begins = (starts_is Decides-eqb (drop gap text) cs _ refl).0 begins

  begins-inside : (gap : ℕ) → gap ≤ length text → starts_with nat_eq (drop gap text) cs ≡ true → gap + length cs ≤ length text
  begins-inside gap inside begins =
      omega (arith, ap length (begins-parts gap begins), length-append cs (drop (length cs) (drop gap text)), length-drop gap text)

  place-inside : (gap : ℕ) → gap ≤ length text → place_of text gap ≤ length (encode_utf8_all text)
  place-inside gap inside =
      let all : place_of text (length text) ≡ length (encode_utf8_all text) = ap byte_len (take_all (length text) text (omega arith)) ∙ sym (length-encodes text) in
      omega (arith, place_of-rises text gap (length text) inside)

  begins-OccursAt : (gap : ℕ) → gap ≤ length text → starts_with nat_eq (drop gap text) cs ≡ true → OccursAt (encode_utf8_all text) (encode_utf8_all cs) (place_of text gap)
  begins-OccursAt gap inside begins =
      let more = drop (length cs) (drop gap text) in
      let split : drop (place_of text gap) (encode_utf8_all text) ≡ encode_utf8_all cs ++ encode_utf8_all more =
      drop-place text gap ∙ ap encode_utf8_all (begins-parts gap begins) ∙ encodes-append cs more in
      let lengths = ap length split in
      OccursAt-from_part (encode_utf8_all text) (encode_utf8_all cs) (place_of text gap)
      (omega (arith, lengths, length-append (encode_utf8_all cs) (encode_utf8_all more), length-drop (place_of text gap) (encode_utf8_all text), place-inside gap inside))
      (ap (take (length (encode_utf8_all cs))) split ∙ take_at (encode_utf8_all cs) (encode_utf8_all more) (length (encode_utf8_all cs)) refl)

  -- the place behind a match
  place-behind : (gap : ℕ) → starts_with nat_eq (drop gap text) cs ≡ true → place_of text gap + match_len (encode_utf8_all cs) ≡ place_of text (gap + length cs)
  place-behind gap begins =
      let part : take (length cs) (drop gap text) ≡ cs = ap (take (length cs)) (begins-parts gap begins) ∙ take_at cs (drop (length cs) (drop gap text)) (length cs) refl in
      omega (arith, place_of-plus gap (length cs) text, ap byte_len part, length-encodes cs, long)

  -- no match begins inside a character, or where the characters do not stand
  nothing-inside : (gap : ℕ) → gap < length text → starts_with nat_eq (drop gap text) cs ≡ false →
      Nowhere (OccursAt (encode_utf8_all text) (encode_utf8_all cs)) (place_of text gap) (place_of text (gap + 1))
  nothing-inside gap inside misses at low high occurs =
      let found = OccursAt-gap at occurs in
      let place = found.1.place in
      let within = found.1.within in
      elim (cases_order found.0 gap) [
        | inl same ↦
            let here : at ≡ place_of text gap = sym place ∙ ap (place_of text) same in
            false≢true (sym misses ∙ OccursAt-begins gap (subst (OccursAt (encode_utf8_all text) (encode_utf8_all cs)) here occurs))
        | inr (inl less) ↦ omega (arith, place_of-rises_strictly text found.0 gap less (omega arith))
        | inr (inr more) ↦ omega (arith, place_of-rises text (gap + 1) found.0 (omega arith))
      ]

  places-at_end : (gap : ℕ) → gap ≡ length text → places (encode_utf8_all text) (encode_utf8_all cs) (place_of text gap) ≡ []
  places-at_end gap end =
      let all : place_of text gap ≡ length (encode_utf8_all text) = ap byte_len (take_all gap text (omega arith)) ∙ sym (length-encodes text) in
      matches-none (encode_utf8_all text) (encode_utf8_all cs) (place_of text gap) (λ at low high occurs. absurd (omega (arith, occurs.fits, long)))

  places-hit : (gap : ℕ) → gap ≤ length text → starts_with nat_eq (drop gap text) cs ≡ true →
      places (encode_utf8_all text) (encode_utf8_all cs) (place_of text gap)
      ≡ place_of text gap ∷ places (encode_utf8_all text) (encode_utf8_all cs) (place_of text (gap + length cs))
  places-hit gap inside begins =
      let first : NoneBefore (OccursAt (encode_utf8_all text) (encode_utf8_all cs)) (place_of text gap) (length (encode_utf8_all text) + 1) (place_of text gap) =
      record { low = omega arith; high = omega (arith, place-inside gap inside); before = λ k low high. absurd (omega arith) } in
      matches-first (encode_utf8_all text) (encode_utf8_all cs) (place_of text gap) (place_of text gap) first (begins-OccursAt gap inside begins) ∙
      ap (λ n. place_of text gap ∷ places (encode_utf8_all text) (encode_utf8_all cs) n) (place-behind gap begins)

  places-miss : (gap : ℕ) → gap < length text → starts_with nat_eq (drop gap text) cs ≡ false →
      places (encode_utf8_all text) (encode_utf8_all cs) (place_of text gap) ≡ places (encode_utf8_all text) (encode_utf8_all cs) (place_of text (gap + 1))
  places-miss gap inside misses =
      places-over (encode_utf8_all text) (encode_utf8_all cs) (place_of text gap) (place_of text (gap + 1))
      (place_of-rises text gap (gap + 1) (omega arith)) (place-inside (gap + 1) (omega arith)) (nothing-inside gap inside misses)

  -- THE PLACES ARE THOSE OF THE MATCHES, from any gap on
  tells : (front rest : List ℕ) (from skip low : ℕ) → text ≡ front ++ rest → from ≡ length front + skip → from ≤ length text → low ≤ from →
      AreTold text (length cs) low (places (encode_utf8_all text) (encode_utf8_all cs) (place_of text from)) (matches_from cs (length front) skip rest)
  tells front [] from skip low parts at inside below =
      subst (λ ats. AreTold text (length cs) low ats []) (sym (places-at_end from (omega (arith, ap length parts, length-append front [])))) tt
  tells front (c ∷ rest) from (suc skip) low parts at inside below =
      subst (λ n. AreTold text (length cs) low (places (encode_utf8_all text) (encode_utf8_all cs) (place_of text from)) (matches_from cs n skip rest)) (next-len front c)
      (tells (front ++ c ∷ []) rest from skip low (next-parts text front c rest parts) (omega (arith, next-len front c)) inside below)
  tells front (c ∷ rest) from zero low parts at inside below =
      let begin : length front ≡ from = omega arith in
      let more = ap length parts in
      let sum = length-append front (c ∷ rest) in
      let here : c ∷ rest ≡ drop from text = sym (here-is text front (c ∷ rest) parts) ∙ ap (λ n. drop n text) begin in
      elim (cases_Bool (starts_with nat_eq (c ∷ rest) cs)) [
        | inl begins ↦
            let stands : starts_with nat_eq (drop from text) cs ≡ true = ap (λ t. starts_with nat_eq t cs) (sym here) ∙ begins in
            ap₂-subst (AreTold text (length cs) low) (places-hit from inside stands) (matches_from-hit cs (length front) c rest begins) (
              record { after = omega arith; end = refl; inside = omega (arith, begins-inside from inside stands); place = ap (place_of text) (sym begin) },
              subst (λ n. AreTold text (length cs) (length front) (places (encode_utf8_all text) (encode_utf8_all cs) (place_of text (from + length cs))) (matches_from cs n (length cs - 1) rest)) (next-len front c)
                  (tells (front ++ c ∷ []) rest (from + length cs) (length cs - 1) (length front) (next-parts text front c rest parts)
                  (omega (arith, next-len front c)) (begins-inside from inside stands) (omega arith)),
            )
        | inr misses ↦
            let stands : starts_with nat_eq (drop from text) cs ≡ false = ap (λ t. starts_with nat_eq t cs) (sym here) ∙ misses in
            ap₂-subst (AreTold text (length cs) low) (places-miss from (omega arith) stands) (matches_from-miss cs (length front) c rest misses)
            (subst (λ n. AreTold text (length cs) low (places (encode_utf8_all text) (encode_utf8_all cs) (place_of text (from + 1))) (matches_from cs n 0 rest)) (next-len front c)
            (tells (front ++ c ∷ []) rest (from + 1) 0 low (next-parts text front c rest parts) (omega (arith, next-len front c)) (omega arith) (omega arith)))
      ]

  pub tells-all : AreTold text (length cs) 0 (places (encode_utf8_all text) (encode_utf8_all cs) 0) (matches_from cs 0 0 text)
  tells-all = tells [] text 0 0 0 refl refl (omega arith) (omega arith)

-- ---- a search under way

-- these matches are found, and the rest begin at these places; the last one that was found begins at `gap`, whose place is `place`
pub record IsSoFar (text cs : List ℕ) (place gap : ℕ) (found : List Run) (ats : List ℕ) : Type 0 where
  pub rest : List Run
  pub whole : found ++ rest ≡ matches_from cs 0 0 text
  pub told : AreTold text (length cs) gap ats rest
  pub inside : gap ≤ length text
  pub at : place ≡ place_of text gap

-- the next match begins at this place, and at this gap
pub record IsFoundNext (text cs : List ℕ) (place gap : ℕ) (found : List Run) (at : ℕ) (ats : List ℕ) (next : ℕ) : Type 0 where
  pub ordered : place ≤ at
  pub here : is_place text place ≡ true
  pub there : is_place text at ≡ true
  pub gap_here : gap_of text place ≡ gap
  pub gap_there : gap_of text at ≡ next
  pub inside : next + length cs ≤ length text
  pub so_far : IsSoFar text cs at next (found ++ run_at cs next ∷ []) ats

pub IsSoFar-start : (text cs : List ℕ) (hay needle : List ℕ) (found : List Run) (ats : List ℕ) → all_scalars text ≡ true → all_scalars cs ≡ true → 0 < length cs →
    hay ≡ encode_utf8_all text → needle ≡ encode_utf8_all cs → found ≡ [] → ats ≡ places hay needle 0 → IsSoFar text cs 0 0 found ats
IsSoFar-start text cs hay needle found ats scalars cs_scalars some spells cs_spells none are =
    record {
      rest = matches_from cs 0 0 text;
      whole = ap (λ rs. rs ++ matches_from cs 0 0 text) none;
      told =
          subst (λ xs. AreTold text (length cs) 0 xs (matches_from cs 0 0 text)) (sym (are ∙ ap₂ (λ h n. places h n 0) spells cs_spells))
          (tells-all text cs scalars cs_scalars some);
      inside = omega arith;
      at = refl;
    }

pub IsSoFar-next : (text cs : List ℕ) (place gap : ℕ) (found : List Run) (left : List ℕ) (at : ℕ) (ats : List ℕ) → left ≡ at ∷ ats →
    IsSoFar text cs place gap found left → (next : ℕ) × IsFoundNext text cs place gap found at ats next
IsSoFar-next text cs place gap found left at ats steps so =
    let told-now = AreTold-some text (length cs) gap at ats so.rest (subst (λ xs. AreTold text (length cs) gap xs so.rest) steps so.told) in
    let run = told-now.0 in
    let rest = told-now.1 in
    let is = told-now.2 in
    let told = told-now.3 in
    let begins : run.start ≤ length text = omega (arith, told.end, told.inside) in
    let same : run ≡ run_at cs run.start = ap (λ end. record { start = run.start; end = end }) told.end in (
      run.start,
      record {
        ordered = omega (arith, so.at, told.place, place_of-rises text gap run.start told.after);
        here = ap (is_place text) so.at ∙ is_place-place text gap so.inside;
        there = ap (is_place text) told.place ∙ is_place-place text run.start begins;
        gap_here = ap (gap_of text) so.at ∙ gap_of-place text gap so.inside;
        gap_there = ap (gap_of text) told.place ∙ gap_of-place text run.start begins;
        inside = omega (arith, told.end, told.inside);
        so_far = record {
          rest = rest;
          whole =
              append_assoc found (run_at cs run.start ∷ []) rest ∙ ap (λ (r : Run). found ++ r ∷ rest) (sym same) ∙
              ap (λ rs. found ++ rs) (sym is) ∙ so.whole;
          told = told-now.4;
          inside = begins;
          at = told.place;
        };
      },
    )

pub IsSoFar-end : (text cs : List ℕ) (place gap : ℕ) (found : List Run) → IsSoFar text cs place gap found [] → found ≡ matches_from cs 0 0 text
IsSoFar-end text cs place gap found so =
    sym (append-nil found) ∙ ap (λ rs. found ++ rs) (sym (AreTold-none text (length cs) gap so.rest so.told)) ∙ so.whole
