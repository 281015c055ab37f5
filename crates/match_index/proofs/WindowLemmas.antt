-- The matches of a part of a text among those of the whole.
use Rattle.std.proofs.Common.{◌≡◌, ◌⊎◌, inl, inr, ℕ, ◌+◌, ◌-◌, ◌^◌, ◌<◌, ◌≤◌, List, [], ◌∷◌, ◌++◌, length, map, take, drop, refl, ap, ap₂, sym, subst, ◌∙◌, arith, IsTrue, length-append, length-drop, length-take, take-append-drop}
use Rattle.std.specs.Prelude.{max, min}
use Rattle.std.proofs.lemmas.Bool.{cases_lt, lt-ltb}
use Rattle.std.proofs.lemmas.List.{drop-drop}
use Rattle.plain_text.specs.declared.run.Run.{Run}
use Rattle.find_core.specs.Matches.{folded, matches_of}
use Rattle.find_core.specs.Laws.{further, AreMatchesFrom, IsMatchAt, IsNextMatch}
use Rattle.find_core.proofs.ForCallers.{matches_of-are}
use Rattle.match_index.specs.declared.search.Walked.{Walked}
use Rattle.match_index.specs.Found.{Found}
use Rattle.match_index.specs.Strides.{reach_of, is_countable, runs_behind, span}
use Rattle.match_index.specs.Inner.{strides_from, strides_under, window_end, AreMatchesUpTo, EndsRise, HasRuns, IsWalked}
use Rattle.match_index.proofs.MatchLemmas.{before-match, behind-match, folded-append, folded-len, has-all, match-before, match-behind, match-inside, up-append, up-long}
use Rattle.match_index.proofs.StrideLemmas.{few-strides, runs_behind-append}

-- where the last of some runs ends; the gap where there is none
abbrev pub end_of : ℕ → List Run → ℕ
end_of gap [] = gap
end_of gap (run ∷ runs) = end_of run.end runs

module _ (chars : List ℕ) (some : 0 < length chars) where
  -- ---- a part of a text: `whole` is what stands in it

  module _ (front part back : List ℕ) where
    abbrev pub whole : List ℕ
    whole = front ++ (part ++ back)

    into : (gap : ℕ) → length front ≤ gap → gap - length front + length chars ≤ length part → IsMatchAt chars whole gap → IsMatchAt chars part (gap - length front)
    into gap le inside is =
        let same : gap ≡ gap - length front + length front = omega arith in
        before-match chars part back (gap - length front) inside
        (behind-match chars front (part ++ back) (gap - length front) (subst (IsMatchAt chars whole) same is))

    out : (gap : ℕ) → IsMatchAt chars part gap → IsMatchAt chars whole (gap + length front)
    out gap is =
        match-behind chars front (part ++ back) gap (match-before chars part back gap (match-inside chars part gap some is) is)

    next-out : (from : ℕ) (run : Run) → IsNextMatch chars part from run → IsNextMatch chars whole (from + length front) (further (length front) run)
    next-out from run next = record {
      after = omega (arith, next.after);
      end = omega (arith, next.end);
      is = out run.start next.is;
      first = λ gap after before is.
          next.first (gap - length front) (omega arith) (omega arith)
          (into gap (omega arith) (omega (arith, match-inside chars part run.start some next.is)) is);
    }

    -- the matches of the part are those of the whole, up to where a match would end behind the part
    pub up-part : (from to stop : ℕ) (runs : List Run) → length front + length part ≡ min (to + (length chars - 1)) (length whole) →
        end_of from runs + length front ≤ stop → (stop ≤ to) ⊎ (stop ≡ end_of from runs + length front) → AreMatchesFrom chars part from runs →
        AreMatchesUpTo chars whole (from + length front) (map (further (length front)) runs) stop
    up-part from to stop [] covers le which are = (
      omega arith,
      λ gap after before is. elim which [
        | inl early ↦
            are (gap - length front) (omega arith)
            (into gap (omega arith) (omega (arith, covers, match-inside chars whole gap some is)) is)
        | inr here ↦ omega arith
      ],
    )
    up-part from to stop (run ∷ runs) covers le which are = (next-out from run are.0, up-part run.end to stop runs covers le which are.1)

  -- ---- its strides

  pub ends-rise : (part : List ℕ) (ahead last from : ℕ) (runs : List Run) → AreMatchesFrom chars part from runs → last ≤ from + ahead →
      length part + ahead < 2 ^ 64 → EndsRise ahead last runs
  ends-rise part ahead last from [] are le room = tt
  ends-rise part ahead last from (run ∷ runs) are le room =
      let inside = match-inside chars part run.start some are.0.is in (
        omega (arith, are.0.after, are.0.end),
        omega (arith, are.0.end, inside),
        ends-rise part ahead (run.end + ahead) run.end runs are.1 (omega arith) room,
      )

  pub runs-said : (part : List ℕ) (len base ahead last from : ℕ) (runs : List Run) → len ≡ length chars → AreMatchesFrom chars part from runs → last ≤ from + ahead →
      runs_behind len (base + last) (strides_from last (map (further ahead) runs)) ≡ map (further (ahead + base)) runs
  runs-said part len base ahead last from [] same are le = refl
  runs-said part len base ahead last from (run ∷ runs) same are le =
      let end : base + last + (run.end + ahead - last) ≡ run.end + (ahead + base) = omega (arith, are.0.after, are.0.end) in
      let next : base + last + (run.end + ahead - last) ≡ base + (run.end + ahead) = omega (arith, are.0.after, are.0.end) in
      let start : base + last + (run.end + ahead - last) - len ≡ run.start + (ahead + base) = omega (arith, are.0.after, are.0.end) in
      ap₂ (λ (s e : ℕ). (let one : Run = record { start = s; end = e } in one) ∷ runs_behind len (base + last + (run.end + ahead - last)) (strides_from (run.end + ahead) (map (further ahead) runs))) start end ∙
      ap (λ (rest : List Run). further (ahead + base) run ∷ rest)
      (ap (λ (n : ℕ). runs_behind len n (strides_from (run.end + ahead) (map (further ahead) runs))) next ∙
      runs-said part len base ahead (run.end + ahead) run.end runs same are.1 (omega arith))

  span-said : (part : List ℕ) (ahead last from : ℕ) (runs : List Run) → AreMatchesFrom chars part from runs → last ≡ from + ahead →
      last + span (strides_from last (map (further ahead) runs)) ≡ end_of from runs + ahead
  span-said part ahead last from [] are at = omega arith
  span-said part ahead last from (run ∷ runs) are at =
      omega (arith, are.0.after, are.0.end, span-said part ahead (run.end + ahead) run.end runs are.1 refl)

  span-first : (part : List ℕ) (ahead last from : ℕ) (run : Run) (runs : List Run) → AreMatchesFrom chars part from (run ∷ runs) → last ≤ from + ahead →
      last + span (strides_from last (map (further ahead) (run ∷ runs))) ≡ end_of run.end runs + ahead
  span-first part ahead last from run runs are le =
      omega (arith, are.0.after, are.0.end, span-said part ahead (run.end + ahead) run.end runs are.1 refl)

  end-inside : (part : List ℕ) (from : ℕ) (runs : List Run) → AreMatchesFrom chars part from runs → from ≤ length part → end_of from runs ≤ length part
  end-inside part from [] are inside = inside
  end-inside part from (run ∷ runs) are inside =
      end-inside part run.end runs are.1 (omega (arith, are.0.end, match-inside chars part run.start some are.0.is))

  -- A SEARCH OF A PART: the strides that it adds behind a match, and the gap up to which it tells
  module _ (front part back : List ℕ) (len last ahead to : ℕ) (same : len ≡ length chars) (at : ahead + last ≡ length front) (ahead_of : length front < to)
      (fits : to ≤ length (whole front part back)) (covers : length front + length part ≡ min (to + (length chars - 1)) (length (whole front part back))) where
    -- the strides of these runs
    abbrev pub numbers : List Run → List ℕ
    numbers runs = strides_from 0 (map (further ahead) runs)

    abbrev pub stop : List Run → ℕ
    stop runs = max to (last + span (numbers runs))

    up-stop : (runs : List Run) → AreMatchesFrom chars part 0 runs → end_of 0 runs + length front ≤ stop runs →
        (stop runs ≤ to) ⊎ (stop runs ≡ end_of 0 runs + length front) →
        AreMatchesUpTo chars (whole front part back) (length front) (runs_behind len last (numbers runs)) (stop runs)
    up-stop runs are le which =
        let zero_plus : 0 + length front ≡ length front = omega arith in
        let begin : last + 0 ≡ last = omega arith in
        let said : runs_behind len last (numbers runs) ≡ map (further (length front)) runs =
        ap (λ (n : ℕ). runs_behind len n (numbers runs)) (sym begin) ∙ runs-said part len last ahead 0 0 runs same are (omega arith) ∙
        ap (λ (n : ℕ). map (further n) runs) at in
        subst (λ (n : ℕ). AreMatchesUpTo chars (whole front part back) n (runs_behind len last (numbers runs)) (stop runs)) zero_plus
        (subst (λ (xs : List Run). AreMatchesUpTo chars (whole front part back) (0 + length front) xs (stop runs)) (sym said)
        (up-part front part back 0 to (stop runs) runs covers le which are))

    pub looked-up : (runs : List Run) → AreMatchesFrom chars part 0 runs →
        AreMatchesUpTo chars (whole front part back) (length front) (runs_behind len last (numbers runs)) (stop runs) × (stop runs ≤ length (whole front part back))
    looked-up [] are = (up-stop [] are (omega (arith, at)) (inl (omega (arith, at))), omega (arith, at, fits))
    looked-up (run ∷ runs) are =
        let end = span-first part ahead 0 0 run runs are (omega arith) in
        let inside = end-inside part 0 (run ∷ runs) are (omega arith) in
        let long = length-whole in (
          up-stop (run ∷ runs) are (omega (arith, at, end)) (elim (cases_lt to (last + span (numbers (run ∷ runs)))) [
            | inl less ↦ inr (omega (arith, at, end))
            | inr past ↦ inl (omega arith)
          ]),
          omega (arith, at, end, inside, fits, long),
        )
      where
        length-whole : length (whole front part back) ≡ length front + (length part + length back)
        length-whole = omega (arith, length-append front (part ++ back), length-append part back)

-- ---- a window of a text as it is compared

in-parts : (text : List ℕ) (from to : ℕ) → from ≤ to → text ≡ take from text ++ (take (to - from) (drop from text) ++ drop to text)
in-parts text from to ordered =
    let sum : from + (to - from) ≡ to = omega arith in
    sym (take-append-drop from text) ∙
    ap (λ (rest : List ℕ). take from text ++ rest)
    (sym (take-append-drop (to - from) (drop from text)) ∙
    ap (λ (rest : List ℕ). take (to - from) (drop from text) ++ rest) (drop-drop (to - from) from text ∙ ap (λ (n : ℕ). drop n text) sum))

module _ (found : Found) (at to last : ℕ) (window : List ℕ) (runs : List Run) (some : 0 < length found.chars) (ahead_of : at < to) (fits : to ≤ length found.text)
    (by_then : last ≤ at) (is : window ≡ take (window_end found to - at) (drop at found.text)) (are : runs ≡ matches_of window found.chars found.fold) where
  abbrev pub cs : List ℕ
  cs = folded found.fold found.chars

  some-folded : 0 < length cs
  some-folded = omega (arith, some, folded-len found.fold found.chars)

  abbrev pub front : List ℕ
  front = folded found.fold (take at found.text)

  abbrev pub part : List ℕ
  part = folded found.fold window

  abbrev pub back : List ℕ
  back = folded found.fold (drop (window_end found to) found.text)

  pub window-long : length window ≡ window_end found to - at
  window-long =
      omega (arith, ap length is, length-take (window_end found to - at) (drop at found.text), length-drop at found.text)

  parted : folded found.fold found.text ≡ front ++ (part ++ back)
  parted =
      ap (folded found.fold) (in-parts found.text at (window_end found to) (omega (arith, some, ahead_of, fits))) ∙
      folded-append found.fold (take at found.text) (take (window_end found to - at) (drop at found.text) ++ drop (window_end found to) found.text) ∙
      ap (λ (rest : List ℕ). front ++ rest)
      (folded-append found.fold (take (window_end found to - at) (drop at found.text)) (drop (window_end found to) found.text) ∙
      ap (λ (w : List ℕ). folded found.fold w ++ back) (sym is))

  front-long : length front ≡ at
  front-long = omega (arith, folded-len found.fold (take at found.text), length-take at found.text, ahead_of, fits)

  pub matches-are : AreMatchesFrom cs part 0 runs
  matches-are = subst (AreMatchesFrom cs part 0) (sym are) (matches_of-are window found.chars found.fold some)

  pub rising : length found.text < 2 ^ 64 → EndsRise (at - last) 0 runs
  rising small =
      ends-rise cs some-folded part (at - last) 0 0 runs matches-are (omega arith)
      (omega (arith, folded-len found.fold window, window-long, small, ahead_of, fits, some))

  pub looked : (numbers : List ℕ) → numbers ≡ strides_from 0 (map (further (at - last)) runs) →
      AreMatchesUpTo cs (folded found.fold found.text) at (runs_behind (length found.chars) last numbers) (max to (last + span numbers)) ×
      (max to (last + span numbers) ≤ length found.text)
  looked numbers made =
      let long = folded-len found.fold found.text in
      let all = looked-up cs some-folded front part back (length found.chars) last (at - last) to (sym (folded-len found.fold found.chars))
      (omega (arith, front-long, by_then)) (omega (arith, front-long, ahead_of)) (omega (arith, ap length parted, long, fits))
      (omega (arith, front-long, folded-len found.fold window, window-long, ap length parted, long, folded-len found.fold found.chars, some, ahead_of, fits)) runs matches-are in
      rw made (
        subst (λ (n : ℕ). AreMatchesUpTo cs (folded found.fold found.text) n (runs_behind (length found.chars) last (strides_from 0 (map (further (at - last)) runs))) (max to (last + span (strides_from 0 (map (further (at - last)) runs))))) front-long
            (subst (λ (t : List ℕ). AreMatchesUpTo cs t (length front) (runs_behind (length found.chars) last (strides_from 0 (map (further (at - last)) runs))) (max to (last + span (strides_from 0 (map (further (at - last)) runs))))) (sym parted) all.0),
        omega (arith, all.1, ap length parted, long),
      )

-- ---- a search that goes on

pub next-are : (found : Found) (from start at stop : ℕ) (strides numbers : List ℕ) →
    AreMatchesUpTo (folded found.fold found.chars) (folded found.fold found.text) start (runs_behind (length found.chars) from strides) at →
    AreMatchesUpTo (folded found.fold found.chars) (folded found.fold found.text) at (runs_behind (length found.chars) (from + span strides) numbers) stop →
    AreMatchesUpTo (folded found.fold found.chars) (folded found.fold found.text) start (runs_behind (length found.chars) from (strides ++ numbers)) stop
next-are found from start at stop strides numbers are be =
    subst (λ (runs : List Run). AreMatchesUpTo (folded found.fold found.chars) (folded found.fold found.text) start runs stop)
    (sym (runs_behind-append (length found.chars) from strides numbers))
    (up-append (folded found.fold found.chars) (folded found.fold found.text) start at stop (runs_behind (length found.chars) from strides)
    (runs_behind (length found.chars) (from + span strides) numbers) are be)

-- where the last match of a search ends
pub last-by_then : (found : Found) (from start at : ℕ) (strides : List ℕ) → from ≤ start →
    AreMatchesUpTo (folded found.fold found.chars) (folded found.fold found.text) start (runs_behind (length found.chars) from strides) at → from + span strides ≤ at
last-by_then found from start at strides before are =
    (up-long (folded found.fold found.chars) (folded found.fold found.text) (length found.chars) from start at strides (sym (folded-len found.fold found.chars)) before are).1

pub walked-fits : (found : Found) (from start at : ℕ) (strides : List ℕ) → 0 < length found.chars → from ≤ start → at < 2 ^ 64 →
    AreMatchesUpTo (folded found.fold found.chars) (folded found.fold found.text) start (runs_behind (length found.chars) from strides) at →
    IsTrue (is_countable (reach_of strides))
walked-fits found from start at strides some before small are =
    let long = up-long (folded found.fold found.chars) (folded found.fold found.text) (length found.chars) from start at strides (sym (folded-len found.fold found.chars)) before are in
    lt-ltb _ _ (omega (arith, long.1, small, few-strides (length found.chars) strides some long.0))

-- ---- a look at what stands before a gap

pub last-by : (found : Found) (walked : Walked) → IsWalked found walked → walked.from + span (strides_under walked.strides) ≤ walked.at
last-by found walked is = last-by_then found walked.from walked.start walked.at (strides_under walked.strides) is.before is.are

-- the search with the strides of a look, where the last match before it ends at `last`
pub record Looked (found : Found) (walked : Walked) (to last : ℕ) (numbers : List ℕ) : Type 0 where
  pub are : AreMatchesUpTo (folded found.fold found.chars) (folded found.fold found.text) walked.start
      (runs_behind (length found.chars) walked.from (strides_under walked.strides ++ numbers)) (max to (last + span numbers))
  pub before : walked.from ≤ walked.start
  pub inside : max to (last + span numbers) ≤ length found.text

module _ (found : Found) (walked : Walked) (to last end : ℕ) (window : List ℕ) (runs : List Run) (is : IsWalked found walked) (some : 0 < length found.chars)
    (ahead_of : walked.at < to) (fits : to ≤ length found.text) (last_is : last ≡ walked.from + span (strides_under walked.strides))
    (end_is : end ≡ window_end found to) (shown : window ≡ take (end - walked.at) (drop walked.at found.text))
    (are : runs ≡ matches_of window found.chars found.fold) where
  by_then : last ≤ walked.at
  by_then = omega (arith, last_is, last-by found walked is)

  window_is : window ≡ take (window_end found to - walked.at) (drop walked.at found.text)
  window_is = shown ∙ ap (λ (n : ℕ). take (n - walked.at) (drop walked.at found.text)) end_is

  pub look-rises : length found.text < 2 ^ 64 → EndsRise (walked.at - last) 0 runs
  look-rises small = rising found walked.at to last window runs some ahead_of fits by_then window_is are small

  pub look-goes : (numbers : List ℕ) → numbers ≡ strides_from 0 (map (further (walked.at - last)) runs) → Looked found walked to last numbers
  look-goes numbers made =
      let all = looked found walked.at to last window runs some ahead_of fits by_then window_is are numbers made in
      record {
        are =
            next-are found walked.from walked.start walked.at (max to (last + span numbers)) (strides_under walked.strides) numbers is.are
            (subst (λ (n : ℕ). AreMatchesUpTo (folded found.fold found.chars) (folded found.fold found.text) walked.at (runs_behind (length found.chars) n numbers) (max to (last + span numbers))) last_is all.0);
        before = is.before;
        inside = all.1;
      }

pub looked-fits : (found : Found) (walked : Walked) (to last : ℕ) (numbers : List ℕ) → Looked found walked to last numbers → 0 < length found.chars →
    length found.text < 2 ^ 64 → IsTrue (is_countable (reach_of (strides_under walked.strides ++ numbers)))
looked-fits found walked to last numbers is some small =
    let inside = is.inside in
    walked-fits found walked.from walked.start (max to (last + span numbers)) (strides_under walked.strides ++ numbers) some is.before (omega arith) is.are

-- the search after it
pub looked-is : (found : Found) (walked next : Walked) (to last : ℕ) (numbers : List ℕ) → Looked found walked to last numbers →
    strides_under next.strides ≡ strides_under walked.strides ++ numbers → next.from ≡ walked.from → next.start ≡ walked.start →
    next.at ≡ max to (last + span numbers) → IsWalked found next
looked-is found walked next to last numbers is strides from start at = record {
  are = rw (strides, from, start, at) is.are;
  before = omega (arith, from, start, is.before);
  inside = omega (arith, at, is.inside);
}

-- a search of the whole text
pub has-walked : (found : Found) (walked : Walked) → IsWalked found walked → walked.from ≡ 0 → walked.start ≡ 0 → 0 < length found.chars →
    length found.text ≤ walked.at → HasRuns found (strides_under walked.strides)
has-walked found walked is from start some all =
    has-all found (strides_under walked.strides) walked.at some all
    (subst (λ (n : ℕ). AreMatchesUpTo (folded found.fold found.chars) (folded found.fold found.text) n (runs_behind (length found.chars) 0 (strides_under walked.strides)) walked.at) start
    (subst (λ (n : ℕ). AreMatchesUpTo (folded found.fold found.chars) (folded found.fold found.text) walked.start (runs_behind (length found.chars) n (strides_under walked.strides)) walked.at) from is.are))
