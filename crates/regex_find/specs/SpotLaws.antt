-- The proofs that what looks for spots owes: matches of some characters, and those of a pattern, are spots of the text.
use Rattle.std.proofs.Common.{◌≡◌, inl, inr, ℕ, zero, suc, ◌+◌, ◌<◌, ◌≤◌, ◌==◌, Bool, true, false, Option, None, Some, List, [], ◌∷◌, ◌++◌, length, map, refl, sym, subst, ◌∙◌, arith}
use Rattle.std.specs.Prelude.{◌&&◌, nat_lt}
use Rattle.std.specs.List.{flat_map, AllByRecursion}
use Rattle.std.specs.Str.{encode_utf8_all}
use Rattle.std.proofs.lemmas.Bool.{cases_Bool, cond-true, cond-false, false≢true, ltb-true}
use Rattle.regex.specs.Patterns.{Re, Match, find_str, find_all_str, span}
use Rattle.regex_hir.specs.Find.{find_after, matches_from}
use Rattle.regex_hir.specs.Text.{is_some_and}
use Rattle.regex_hir.proofs.MatchesLemmas.{Matches-IsSpan}
use Rattle.regex.proofs.ForCallers.{find_str_sound}
use Rattle.plain_text.specs.declared.run.Run.{Run}
use Rattle.plain_text.specs.Text.{is_place, gap_of}
use Rattle.plain_text.proofs.callers.PlaceLemmas.{IsPlaced, IsPlaced-from, gaps_rise}
use Rattle.find_core.specs.Matches.{matches_of}
use Rattle.find_core.specs.Laws.{AreMatchesFrom}
use Rattle.find_core.proofs.ForCallers.{matches_of-are, matches_of-inside}
use Rattle.regex_find.specs.Spots.{AreSpots, AreSpotsOfTexts, run_between}
use Rattle.regex_find.specs.Pattern.{byte_spans, spot_of, spot_pattern, pattern_spots}

-- ---- spots from an earlier gap on

pub AreSpots-earlier : (len from to : ℕ) (runs : List Run) → from ≤ to → AreSpots len to runs → AreSpots len from runs
AreSpots-earlier len from to [] less are = omega (arith, are)
AreSpots-earlier len from to (run ∷ runs) less are = (omega (arith, are.0), are.1, are.2)

-- ---- the matches of some characters are spots

matches-spots : (chars text : List ℕ) (len from : ℕ) (runs : List Run) → from ≤ len → AreMatchesFrom chars text from runs →
    AllByRecursion (λ run. (run.start < run.end) × (run.end ≤ len)) runs → AreSpots len from runs
matches-spots chars text len from [] within are inside = within
matches-spots chars text len from (run ∷ runs) within are inside =
    (are.0.after, inside.0.0, matches-spots chars text len run.end runs inside.0.1 are.1 inside.1)

pub matches_of-spots : (text chars : List ℕ) → AreSpots (length text) 0 (matches_of text chars false)
matches_of-spots text [] = omega arith
matches_of-spots text (c ∷ chars) =
    matches-spots (c ∷ chars) text (length text) 0 (matches_of text (c ∷ chars) false) (omega arith)
    (matches_of-are text (c ∷ chars) false (omega arith)) (matches_of-inside text (c ∷ chars) false)

-- ---- the spans of a pattern's matches rise

-- each span is in order, and none starts before `from` or before the end of the one before
abbrev pub AreRising : ℕ → List (ℕ × ℕ) → Type 0
AreRising from [] = Unit {0}
AreRising from (span ∷ spans) = (from ≤ span.0) × (span.0 ≤ span.1) × AreRising span.1 spans

-- a search gives matches that begin where it starts or later, and end after their start
Searches : (ℕ → Option Match) → Type 0
Searches search_from = (i : ℕ) (m : Match) → search_from i ≡ Some m → (i ≤ m.start) × (m.start ≤ m.trace.end)

find_str-searches : (re : Re) (hay : List ℕ) → Searches (find_str re hay)
unfolding Searches
find_str-searches re hay i m is =
    let sound = find_str_sound re hay i m is in
    (sound.0, (Matches-IsSpan hay re m.start m.trace.end sound.1).0)

after-searches : (search_from : ℕ → Option Match) → Searches search_from → (i : ℕ) (m : Match) → find_after search_from i ≡ Some m →
    (i ≤ m.start) × (m.start ≤ m.trace.end)
unfolding Searches
after-searches search_from searches i m is =
    elim (cases_Bool (is_some_and (search_from i) (λ n. n.trace.end == i))) [
      | inl empty ↦
          let later = searches (i + 1) m (sym (cond-true _ _ _ empty) ∙ is) in
          (omega (arith, later.0), later.1)
      | inr full ↦ searches i m (sym (cond-false _ _ _ full) ∙ is)
    ]

rising-from : (search_from : ℕ → Option Match) → Searches search_from → (n from : ℕ) (found : Option Match) →
    ((m : Match) → found ≡ Some m → (from ≤ m.start) × (m.start ≤ m.trace.end)) → AreRising from (map span (matches_from search_from n found))
unfolding matches_from
rising-from search_from searches zero from found is = tt
rising-from search_from searches (suc n) from None is = tt
rising-from search_from searches (suc n) from (Some m) is =
    let here = is m refl in (
      here.0,
      here.1,
      rising-from search_from searches n m.trace.end (find_after search_from m.trace.end)
          (after-searches search_from searches m.trace.end),
    )

pub spans-rise : (re : Re) (hay : List ℕ) → AreRising 0 (map span (find_all_str re hay))
unfolding Searches
spans-rise re hay =
    rising-from (find_str re hay) (find_str-searches re hay) (length hay + 1) 0 (find_str re hay 0) (find_str-searches re hay 0)

-- ---- in characters they are spots

and-parts : (a b : Bool) → (a && b) ≡ true → (a ≡ true) × (b ≡ true)
and-parts true b is = (refl, is)
and-parts false b is = absurd (false≢true is)

between-spots : (len from start end : ℕ) (runs : List Run) → from ≤ start → start ≤ end → AreSpots len end runs → AreSpots len from (run_between start end ++ runs)
between-spots len from start end runs after ordered are =
    elim (cases_Bool (nat_lt start end)) [
      | inl less ↦
          subst (λ front. AreSpots len from (front ++ runs)) (sym (cond-true (nat_lt start end) _ _ less))
          (after, ltb-true start end less, are)
      | inr more ↦
          subst (λ front. AreSpots len from (front ++ runs)) (sym (cond-false (nat_lt start end) _ _ more))
          (AreSpots-earlier len from end runs (omega arith) are)
    ]

-- `from` is a place with this gap, and the spans rise from there
spans-spots : (text : List ℕ) (from gap : ℕ) (spans : List (ℕ × ℕ)) → IsPlaced text from gap → AreRising from spans →
    AreSpots (length text) gap (flat_map (spot_of text) spans)
spans-spots text from gap [] placed rise = placed.within
spans-spots text from gap (span ∷ spans) placed rise =
    elim (cases_Bool (is_place text span.0 && is_place text span.1)) [
      | inl places ↦
          let both = and-parts _ _ places in
          let start = IsPlaced-from text span.0 both.0 in
          let end = IsPlaced-from text span.1 both.1 in
          let first = gaps_rise text from span.0 gap start.0 placed start.1 rise.0 in
          let second = gaps_rise text span.0 span.1 start.0 end.0 start.1 end.1 rise.1 in
          subst (λ front. AreSpots (length text) gap (front ++ flat_map (spot_of text) spans)) (sym (cond-true _ _ _ places))
          (between-spots (length text) gap (gap_of text span.0) (gap_of text span.1) (flat_map (spot_of text) spans)
          (omega (arith, start.1.of, first)) (omega (arith, start.1.of, end.1.of, second))
          (subst (λ n. AreSpots (length text) n (flat_map (spot_of text) spans)) (sym end.1.of) (spans-spots text span.1 end.0 spans end.1 rise.2)))
      | inr not ↦
          subst (λ front. AreSpots (length text) gap (front ++ flat_map (spot_of text) spans)) (sym (cond-false _ _ _ not))
          (spans-spots text from gap spans placed (rising-earlier from span.1 spans (omega (arith, rise.0, rise.1)) rise.2))
    ]
  where
    rising-earlier : (from to : ℕ) (spans : List (ℕ × ℕ)) → from ≤ to → AreRising to spans → AreRising from spans
    rising-earlier from to [] less rise = tt
    rising-earlier from to (span ∷ spans) less rise = (omega (arith, rise.0), rise.1, rise.2)

pub start-placed : (text : List ℕ) → IsPlaced text 0 0
start-placed [] = record { within = omega arith; place = refl; of = refl }
start-placed (c ∷ text) = record { within = omega arith; place = refl; of = refl }

pub pattern_spots-spots : (pattern : Re) (text : List ℕ) → AreSpots (length text) 0 (pattern_spots pattern text)
pattern_spots-spots pattern text = spans-spots text 0 0 (byte_spans pattern text) (start-placed text) (spans-rise pattern (encode_utf8_all text))

pub literal_law : AreSpotsOfTexts (λ chars text. matches_of text chars false)
literal_law = record { stand = λ chars text. matches_of-spots text chars }

pub pattern_law : AreSpotsOfTexts (λ spot. pattern_spots (spot_pattern spot))
pattern_law = record { stand = λ spot. pattern_spots-spots (spot_pattern spot) }
