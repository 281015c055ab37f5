-- Lemmas on the matches of characters: they are the first ones from the left, and a search may begin anew at the end of any.
use Rattle.std.proofs.Common.{◌≡◌, inl, inr, ℕ, zero, suc, ◌+◌, ◌-◌, ◌<◌, ◌≤◌, Bool, true, false, List, [], ◌∷◌, ◌++◌, length, map, take, drop, refl, sym, ap, ap₂, subst, ◌∙◌, arith, append_assoc, length-append}
use Rattle.std.specs.Prelude.{nat_eq}
use Rattle.std.specs.List.{starts_with}
use Rattle.std.specs.Char.{to_ascii_lowercase}
use Rattle.std.proofs.Math.Seq.{take-nil}
use Rattle.std.proofs.lemmas.Bool.{cases_Bool, cases_order, cond-true, cond-false, false≢true}
use Rattle.std.proofs.lemmas.List.{drop-map, drop_all, drop_at, length-map}
use Rattle.std.proofs.lemmas.Slice.Eq.{bytes_eq-Decides}
use Rattle.plain_text.specs.declared.run.Run.{Run}
use Rattle.find_core.specs.Matches.{folded, matches_from, matches_of}
use Rattle.find_core.specs.Laws.{IsMatchAt, IsNextMatch, AreMatchesFrom, further}

tail-same : {X : Type 0} {x y : X} {xs ys : List X} → x ∷ xs ≡ y ∷ ys → (x ≡ y) × (xs ≡ ys)
tail-same same = (cc, cc)

no-items : {X : Type 0} (before : List X) (x : X) (after : List X) → [] ≡ before ++ x ∷ after → ⊥
no-items [] x after same = let long = ap length same in absurd (omega arith)
no-items (y ∷ before) x after same = let long = ap length same in absurd (omega arith)

-- ---- a character further

pub here-is : (whole front rest : List ℕ) → whole ≡ front ++ rest → drop (length front) whole ≡ rest
here-is whole front rest parts = ap (drop (length front)) parts ∙ drop_at front rest (length front) refl

pub next-parts : (whole front : List ℕ) (c : ℕ) (rest : List ℕ) → whole ≡ front ++ c ∷ rest → whole ≡ (front ++ c ∷ []) ++ rest
next-parts whole front c rest parts = parts ∙ sym (append_assoc front (c ∷ []) rest)

pub next-len : (front : List ℕ) (c : ℕ) → length (front ++ c ∷ []) ≡ length front + 1
next-len front c = length-append front (c ∷ [])

module _ (chars : List ℕ) where
  -- the run of a match that begins at a gap
  abbrev pub run_at : ℕ → Run
  run_at gap = record { start = gap; end = gap + length chars }

  -- ---- where the characters stand, and where a text begins with them

  begins-take : (text : List ℕ) → starts_with nat_eq text chars ≡ true → take (length chars) text ≡ chars
  begins-take text begins = sym ((bytes_eq-Decides chars (take (length chars) text)).0 begins)

  take-begins : (text : List ℕ) → take (length chars) text ≡ chars → starts_with nat_eq text chars ≡ true
  take-begins text is = (bytes_eq-Decides chars (take (length chars) text)).1 (sym is)

  count : (gap : ℕ) → gap + length chars - gap ≡ length chars
  count gap = omega arith

  pub IsMatchAt-begins : (text : List ℕ) (gap : ℕ) → IsMatchAt chars text gap → starts_with nat_eq (drop gap text) chars ≡ true
  IsMatchAt-begins text gap is = take-begins (drop gap text) (ap (λ n. take n (drop gap text)) (sym (count gap)) ∙ is)

  pub begins-IsMatchAt : (text : List ℕ) (gap : ℕ) → starts_with nat_eq (drop gap text) chars ≡ true → IsMatchAt chars text gap
  begins-IsMatchAt text gap begins = ap (λ n. take n (drop gap text)) (count gap) ∙ begins-take (drop gap text) begins

  -- ---- the matches, by the first character

  pub matches_from-hit : (gap c : ℕ) (text : List ℕ) → starts_with nat_eq (c ∷ text) chars ≡ true →
      matches_from chars gap 0 (c ∷ text) ≡ run_at gap ∷ matches_from chars (gap + 1) (length chars - 1) text
  matches_from-hit gap c text begins = cond-true _ _ _ begins

  pub matches_from-miss : (gap c : ℕ) (text : List ℕ) → starts_with nat_eq (c ∷ text) chars ≡ false →
      matches_from chars gap 0 (c ∷ text) ≡ matches_from chars (gap + 1) 0 text
  matches_from-miss gap c text misses = cond-false _ _ _ misses

  pub matches_from-skip : (gap skip : ℕ) (text : List ℕ) → matches_from chars gap skip text ≡ matches_from chars (gap + skip) 0 (drop skip text)
  matches_from-skip gap zero text = let same : gap ≡ gap + 0 = omega arith in ap (λ n. matches_from chars n 0 text) same
  matches_from-skip gap (suc skip) [] = refl
  matches_from-skip gap (suc skip) (c ∷ text) =
      let sum : gap + 1 + skip ≡ gap + suc skip = omega arith in
      matches_from-skip (gap + 1) skip text ∙ ap (λ n. matches_from chars n 0 (drop skip text)) sum

  -- ---- they are the first ones from the left

  none-past : 0 < length chars → (text : List ℕ) (from : ℕ) → length text ≤ from → (gap : ℕ) → from ≤ gap → ¬ IsMatchAt chars text gap
  none-past some text from past gap after is =
      let nothing : drop gap text ≡ [] = drop_all gap text (omega arith) in
      let short = ap length (sym is ∙ ap (take (gap + length chars - gap)) nothing ∙ take-nil (gap + length chars - gap)) in
      absurd (omega arith)

  earlier : (text : List ℕ) (from : ℕ) (runs : List Run) → ¬ IsMatchAt chars text from → AreMatchesFrom chars text (from + 1) runs → AreMatchesFrom chars text from runs
  earlier text from [] not are = λ gap after is. elim (cases_order from gap) [
    | inl same ↦ not (subst (IsMatchAt chars text) (sym same) is)
    | inr (inl less) ↦ are gap (omega arith) is
    | inr (inr more) ↦ omega arith
  ]
  earlier text from (run ∷ runs) not are = (
    record {
      after = omega (arith, are.0.after);
      end = are.0.end;
      is = are.0.is;
      first = λ gap after before is. elim (cases_order from gap) [
        | inl same ↦ not (subst (IsMatchAt chars text) (sym same) is)
        | inr (inl less) ↦ are.0.first gap (omega arith) before is
        | inr (inr more) ↦ omega arith
      ];
    },
    are.1,
  )

  pub are-matches : 0 < length chars → (whole front rest : List ℕ) (from skip : ℕ) → whole ≡ front ++ rest → from ≡ length front + skip →
      AreMatchesFrom chars whole from (matches_from chars (length front) skip rest)
  are-matches some whole front [] from skip parts at =
      none-past some whole from (omega (arith, ap length parts, length-append front []))
  are-matches some whole front (c ∷ rest) from (suc skip) parts at =
      subst (λ n. AreMatchesFrom chars whole from (matches_from chars n skip rest)) (next-len front c)
      (are-matches some whole (front ++ c ∷ []) rest from skip (next-parts whole front c rest parts) (omega (arith, next-len front c)))
  are-matches some whole front (c ∷ rest) from zero parts at =
      let begin : from ≡ length front = omega arith in
      subst (λ n. AreMatchesFrom chars whole n (matches_from chars (length front) 0 (c ∷ rest))) (sym begin)
      (elim (cases_Bool (starts_with nat_eq (c ∷ rest) chars)) [
        | inl begins ↦
            subst (AreMatchesFrom chars whole (length front)) (sym (matches_from-hit (length front) c rest begins)) (
              record {
                after = omega arith;
                end = refl;
                is = begins-IsMatchAt whole (length front) (ap (λ t. starts_with nat_eq t chars) (here-is whole front (c ∷ rest) parts) ∙ begins);
                first = λ gap after before. absurd (omega arith);
              },
              subst (λ n. AreMatchesFrom chars whole (length front + length chars) (matches_from chars n (length chars - 1) rest)) (next-len front c)
                  (are-matches some whole (front ++ c ∷ []) rest (length front + length chars) (length chars - 1) (next-parts whole front c rest parts)
                  (omega (arith, next-len front c))),
            )
        | inr misses ↦
            subst (AreMatchesFrom chars whole (length front)) (sym (matches_from-miss (length front) c rest misses))
            (earlier whole (length front) (matches_from chars (length front + 1) 0 rest)
            (λ is. false≢true (sym misses ∙ ap (λ t. starts_with nat_eq t chars) (sym (here-is whole front (c ∷ rest) parts)) ∙ IsMatchAt-begins whole (length front) is))
            (subst (λ n. AreMatchesFrom chars whole (length front + 1) (matches_from chars n 0 rest)) (next-len front c)
            (are-matches some whole (front ++ c ∷ []) rest (length front + 1) 0 (next-parts whole front c rest parts) (omega (arith, next-len front c)))))
      ])

  -- ---- and no other runs are

  is-run_at : (text : List ℕ) (from : ℕ) (run : Run) → IsNextMatch chars text from run → run ≡ run_at run.start
  is-run_at text from run next = ap (λ end. record { start = run.start; end = end }) next.end

  same-start : (text : List ℕ) (from : ℕ) (run other : Run) → IsNextMatch chars text from run → IsNextMatch chars text from other → run.start ≡ other.start
  same-start text from run other one two =
      elim (cases_order run.start other.start) [
        | inl same ↦ same
        | inr (inl less) ↦ absurd (two.first run.start one.after less one.is)
        | inr (inr more) ↦ absurd (one.first other.start two.after more two.is)
      ]

  same-run : (text : List ℕ) (from : ℕ) (run other : Run) → IsNextMatch chars text from run → IsNextMatch chars text from other → run ≡ other
  same-run text from run other one two =
      is-run_at text from run one ∙ ap run_at (same-start text from run other one two) ∙ sym (is-run_at text from other two)

  pub AreMatchesFrom-same : (text : List ℕ) (from : ℕ) (runs others : List Run) →
      AreMatchesFrom chars text from runs → AreMatchesFrom chars text from others → runs ≡ others
  AreMatchesFrom-same text from [] [] are be = refl
  AreMatchesFrom-same text from [] (other ∷ others) are be = absurd (are other.start be.0.after be.0.is)
  AreMatchesFrom-same text from (run ∷ runs) [] are be = absurd (be run.start are.0.after are.0.is)
  AreMatchesFrom-same text from (run ∷ runs) (other ∷ others) are be =
      let same = same-run text from run other are.0 be.0 in
      ap₂ (λ (r : Run) (rs : List Run). r ∷ rs) same
      (AreMatchesFrom-same text run.end runs others are.1 (subst (λ (r : Run). AreMatchesFrom chars text r.end others) (sym same) be.1))

  -- ---- from the end of a match on

  pub matches_from-further : (by gap skip : ℕ) (text : List ℕ) → matches_from chars (gap + by) skip text ≡ map (further by) (matches_from chars gap skip text)
  matches_from-further by gap zero [] = refl
  matches_from-further by gap (suc skip) [] = refl
  matches_from-further by gap (suc skip) (c ∷ text) =
      let sum : gap + by + 1 ≡ gap + 1 + by = omega arith in
      ap (λ n. matches_from chars n skip text) sum ∙ matches_from-further by (gap + 1) skip text
  matches_from-further by gap zero (c ∷ text) =
      let sum : gap + by + 1 ≡ gap + 1 + by = omega arith in
      let end : gap + by + length chars ≡ gap + length chars + by = omega arith in
      elim (cases_Bool (starts_with nat_eq (c ∷ text) chars)) [
        | inl begins ↦
            matches_from-hit (gap + by) c text begins ∙
            ap₂ (λ (e : ℕ) (runs : List Run). record { start = gap + by; end = e } ∷ runs) end
            (ap (λ n. matches_from chars n (length chars - 1) text) sum ∙ matches_from-further by (gap + 1) (length chars - 1) text) ∙
            ap (map (further by)) (sym (matches_from-hit gap c text begins))
        | inr misses ↦
            matches_from-miss (gap + by) c text misses ∙ ap (λ n. matches_from chars n 0 text) sum ∙
            matches_from-further by (gap + 1) 0 text ∙ ap (map (further by)) (sym (matches_from-miss gap c text misses))
      ]

  -- what is left of the matches behind one of them
  GoesOn : ℕ → List ℕ → Run → List Run → Type 0
  GoesOn gap text run after = (gap ≤ run.end) × (after ≡ matches_from chars run.end 0 (drop (run.end - gap) text))

  one-more : (gap c : ℕ) (text : List ℕ) (run : Run) (after : List Run) → GoesOn (gap + 1) text run after → GoesOn gap (c ∷ text) run after
  unfolding GoesOn
  one-more gap c text run after on =
      let less : suc (run.end - (gap + 1)) ≡ run.end - gap = omega (arith, on.0) in
      (omega (arith, on.0), on.1 ∙ ap (λ n. matches_from chars run.end 0 (drop n (c ∷ text))) less)

  behind-first : 0 < length chars → (gap c : ℕ) (text : List ℕ) (run : Run) (after : List Run) → run_at gap ≡ run →
      matches_from chars (gap + 1) (length chars - 1) text ≡ after → GoesOn gap (c ∷ text) run after
  unfolding GoesOn
  behind-first some gap c text run after is rest =
      let end : gap + length chars ≡ run.end = ap (λ (r : Run). r.end) is in
      let sum : gap + 1 + (length chars - 1) ≡ run.end = omega arith in
      let less : suc (length chars - 1) ≡ run.end - gap = omega arith in (
        omega arith,
        sym rest ∙ matches_from-skip (gap + 1) (length chars - 1) text ∙
            ap₂ (λ n m. matches_from chars n 0 (drop m (c ∷ text))) sum less,
      )

  go-on : 0 < length chars → (gap skip : ℕ) (text : List ℕ) (before : List Run) (run : Run) (after : List Run) →
      matches_from chars gap skip text ≡ before ++ run ∷ after → GoesOn gap text run after
  go-on some gap zero [] before run after is = absurd (no-items before run after is)
  go-on some gap (suc skip) [] before run after is = absurd (no-items before run after is)
  go-on some gap (suc skip) (c ∷ text) before run after is = one-more gap c text run after (go-on some (gap + 1) skip text before run after is)
  go-on some gap zero (c ∷ text) before run after is =
      elim (cases_Bool (starts_with nat_eq (c ∷ text) chars)) [
        | inl begins ↦
            past (λ front. go-on some (gap + 1) (length chars - 1) text front run after) before (sym (matches_from-hit gap c text begins) ∙ is)
        | inr misses ↦ one-more gap c text run after (go-on some (gap + 1) 0 text before run after (sym (matches_from-miss gap c text misses) ∙ is))
      ]
    where
      past : ((front : List Run) → matches_from chars (gap + 1) (length chars - 1) text ≡ front ++ run ∷ after → GoesOn (gap + 1) text run after) →
          (front : List Run) → run_at gap ∷ matches_from chars (gap + 1) (length chars - 1) text ≡ front ++ run ∷ after → GoesOn gap (c ∷ text) run after
      past again [] same = behind-first some gap c text run after (tail-same same).0 (tail-same same).1
      past again (first ∷ front) same = one-more gap c text run after (again front (tail-same same).1)

  pub matches_from-after : 0 < length chars → (text : List ℕ) (before : List Run) (run : Run) (after : List Run) →
      matches_from chars 0 0 text ≡ before ++ run ∷ after → after ≡ map (further run.end) (matches_from chars 0 0 (drop run.end text))
  unfolding GoesOn
  matches_from-after some text before run after is =
      let on = go-on some 0 0 text before run after is in
      let zero_plus : run.end ≡ 0 + run.end = omega arith in
      let whole : run.end - 0 ≡ run.end = omega arith in
      on.1 ∙ ap₂ (λ n m. matches_from chars n 0 (drop m text)) zero_plus whole ∙ matches_from-further run.end 0 0 (drop run.end text)

-- ---- the same of texts as they are compared

folded-len : (fold : Bool) (text : List ℕ) → length (folded fold text) ≡ length text
folded-len true text = length-map text to_ascii_lowercase
folded-len false text = refl

folded-drop : (fold : Bool) (n : ℕ) (text : List ℕ) → drop n (folded fold text) ≡ folded fold (drop n text)
folded-drop true n text = drop-map to_ascii_lowercase n text
folded-drop false n text = refl

pub matches_of-is : (text chars : List ℕ) (fold : Bool) → 0 < length chars → matches_of text chars fold ≡ matches_from (folded fold chars) 0 0 (folded fold text)
matches_of-is text [] fold some = absurd (omega arith)
matches_of-is text (c ∷ chars) fold some = refl

pub matches_of-are : (text chars : List ℕ) (fold : Bool) → 0 < length chars →
    AreMatchesFrom (folded fold chars) (folded fold text) 0 (matches_of text chars fold)
matches_of-are text chars fold some =
    subst (AreMatchesFrom (folded fold chars) (folded fold text) 0) (sym (matches_of-is text chars fold some))
    (are-matches (folded fold chars) (omega (arith, folded-len fold chars)) (folded fold text) [] (folded fold text) 0 0 refl refl)

pub matches_of-after : (text chars : List ℕ) (fold : Bool) (before : List Run) (run : Run) (after : List Run) →
    matches_of text chars fold ≡ before ++ run ∷ after → after ≡ map (further run.end) (matches_of (drop run.end text) chars fold)
matches_of-after text [] fold before run after is = absurd (no-items before run after is)
matches_of-after text (c ∷ chars) fold before run after is =
    matches_from-after (folded fold (c ∷ chars)) (omega (arith, folded-len fold (c ∷ chars))) (folded fold text) before run after is ∙
    ap (λ t. map (further run.end) (matches_from (folded fold (c ∷ chars)) 0 0 t)) (folded-drop fold run.end text)
