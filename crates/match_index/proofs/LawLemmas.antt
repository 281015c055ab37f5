-- What stands left of a gap, or right of it, and the matches on its other side.
use Rattle.std.proofs.Common.{◌≡◌, inl, inr, ℕ, ◌+◌, ◌-◌, ◌<◌, ◌≤◌, Bool, true, false, List, [], ◌∷◌, ◌++◌, length, map, take, drop, refl, ap, ap₂, sym, subst, ◌∙◌, arith, length-take, take-append-drop}
use Rattle.std.specs.Prelude.{nat_le}
use Rattle.std.specs.List.{filter, AllByRecursion}
use Rattle.std.proofs.lemmas.Bool.{cases_lt, cases_order, cond-true, cond-false, le-leb, lt-leb}
use Rattle.std.proofs.lemmas.List.{drop_all}
use Rattle.plain_text.specs.declared.run.Run.{Run}
use Rattle.find_core.specs.Matches.{folded, matches_of}
use Rattle.find_core.specs.Laws.{further, AreMatchesFrom, IsMatchAt, IsNextMatch}
use Rattle.find_core.proofs.ForCallers.{AreMatchesFrom-same, matches_of-are}
use Rattle.match_index.specs.Laws.{FrontsStay, MatchingGoesOn}
use Rattle.match_index.proofs.MatchLemmas.{before-match, behind-match, folded-append, folded-len, match-before, match-behind, match-inside}

module _ (chars : List ℕ) (some : 0 < length chars) where
  -- ---- what stands left of a gap

  -- matches from a gap on, where those before end by it
  from-gap : (text : List ℕ) (from gap : ℕ) (before after : List Run) → AreMatchesFrom chars text from (before ++ after) → from ≤ gap →
      AllByRecursion (λ run. run.end ≤ gap) before → AllByRecursion (λ run. gap ≤ run.start) after → AreMatchesFrom chars text gap after
  from-gap text from gap [] [] are le left right = λ at past. are at (omega arith)
  from-gap text from gap [] (run ∷ after) are le left right = (
    record { after = right.0; end = are.0.end; is = are.0.is; first = λ at past before. are.0.first at (omega arith) before },
    are.1,
  )
  from-gap text from gap (run ∷ before) after are le left right = from-gap text run.end gap before after are.1 left.0 left.1 right

  -- matches behind a front
  from-behind : (front back : List ℕ) (from : ℕ) (runs : List Run) → AreMatchesFrom chars back from runs →
      AreMatchesFrom chars (front ++ back) (from + length front) (map (further (length front)) runs)
  from-behind front back from [] are = λ gap past is.
      let same : gap ≡ gap - length front + length front = omega arith in
      are (gap - length front) (omega arith)
      (behind-match chars front back (gap - length front) (subst (IsMatchAt chars (front ++ back)) same is))
  from-behind front back from (run ∷ runs) are = (
    record {
      after = omega (arith, are.0.after);
      end = omega (arith, are.0.end);
      is = match-behind chars front back run.start are.0.is;
      first = λ gap past before is.
          let same : gap ≡ gap - length front + length front = omega arith in
          are.0.first (gap - length front) (omega arith) (omega arith)
          (behind-match chars front back (gap - length front) (subst (IsMatchAt chars (front ++ back)) same is));
    },
    from-behind front back run.end runs are.1,
  )

  none-past : (text : List ℕ) (gap : ℕ) (runs : List Run) → length text < gap → AreMatchesFrom chars text gap runs → runs ≡ []
  none-past text gap [] past are = refl
  none-past text gap (run ∷ runs) past are =
      absurd (omega (arith, are.0.after, match-inside chars text run.start some are.0.is))

  -- ---- what stands right of a gap

  late : (text : List ℕ) (n from : ℕ) (runs : List Run) → n < from → AreMatchesFrom chars text from runs → filter (λ (run : Run). nat_le run.end n) runs ≡ []
  late text n from [] past are = refl
  late text n from (run ∷ runs) past are =
      let behind : n < run.end = omega (arith, are.0.after, are.0.end) in
      cond-false _ _ _ (lt-leb run.end n behind) ∙ late text n run.end runs behind are.1

  late-first : (text : List ℕ) (n from : ℕ) (run : Run) (runs : List Run) → n < run.end → AreMatchesFrom chars text from (run ∷ runs) →
      filter (λ (own : Run). nat_le own.end n) (run ∷ runs) ≡ []
  late-first text n from run runs past are = cond-false _ _ _ (lt-leb run.end n past) ∙ late text n run.end runs past are.1

  same-start : (text : List ℕ) (from : ℕ) (run other : Run) → IsNextMatch chars text from run → IsNextMatch chars text from other → run.start ≡ other.start
  same-start text from run other one two =
      elim (cases_order run.start other.start) [
        | inl same ↦ same
        | inr (inl less) ↦ absurd (two.first run.start one.after less one.is)
        | inr (inr more) ↦ absurd (one.first other.start two.after more two.is)
      ]

  same-run : (text : List ℕ) (from : ℕ) (run other : Run) → IsNextMatch chars text from run → IsNextMatch chars text from other → run ≡ other
  same-run text from run other one two =
      let start = same-start text from run other one two in
      let end : run.end ≡ other.end = omega (arith, start, one.end, two.end) in
      ap₂ (λ (s e : ℕ). (let one : Run = record { start = s; end = e } in one)) start end

  module _ (front : List ℕ) where
    in-front : (back other : List ℕ) (from : ℕ) (run : Run) → run.end ≤ length front → IsNextMatch chars (front ++ back) from run → IsNextMatch chars (front ++ other) from run
    in-front back other from run inside next = record {
      after = next.after;
      end = next.end;
      is = match-before chars front other run.start (omega (arith, next.end)) (before-match chars front back run.start (omega (arith, next.end)) next.is);
      first = λ at after before is.
          next.first at after before
          (match-before chars front back at (omega (arith, next.end)) (before-match chars front other at (omega (arith, next.end)) is));
    }

    fronts : (back other : List ℕ) (from : ℕ) (runs others : List Run) → AreMatchesFrom chars (front ++ back) from runs → AreMatchesFrom chars (front ++ other) from others →
        filter (λ (run : Run). nat_le run.end (length front)) runs ≡ filter (λ (run : Run). nat_le run.end (length front)) others
    fronts back other from [] [] are be = refl
    fronts back other from [] (own ∷ others) are be =
        elim (cases_lt (length front) own.end) [
          | inl past ↦ sym (late-first (front ++ other) (length front) from own others past be)
          | inr inside ↦
              let next = in-front other back from own inside be.0 in absurd (are own.start next.after next.is)
        ]
    fronts back other from (run ∷ runs) [] are be =
        elim (cases_lt (length front) run.end) [
          | inl past ↦ late-first (front ++ back) (length front) from run runs past are
          | inr inside ↦
              let next = in-front back other from run inside are.0 in absurd (be run.start next.after next.is)
        ]
    fronts back other from (run ∷ runs) (own ∷ others) are be =
        elim (cases_lt (length front) run.end) [
          | inl past ↦ elim (cases_lt (length front) own.end) [
            | inl past_too ↦
                late-first (front ++ back) (length front) from run runs past are ∙ sym (late-first (front ++ other) (length front) from own others past_too be)
            | inr inside ↦
                let same = same-run (front ++ back) from run own are.0 (in-front other back from own inside be.0) in
                let end : run.end ≡ own.end = ap (λ (r : Run). r.end) same in absurd (omega arith)
          ]
          | inr inside ↦
              let same = same-run (front ++ other) from run own (in-front back other from run inside are.0) be.0 in
              let end : run.end ≡ own.end = ap (λ (r : Run). r.end) same in
              let rest = fronts back other run.end runs others are.1 (subst (λ (n : ℕ). AreMatchesFrom chars (front ++ other) n others) (sym end) be.1) in
              cond-true _ _ _ (le-leb run.end (length front) inside) ∙
              ap₂ (λ (r : Run) (rs : List Run). r ∷ rs) same rest ∙
              sym (cond-true _ _ _ (le-leb own.end (length front) (omega (arith, end))))
        ]

-- ---- the laws

goes-on : (text chars : List ℕ) (fold : Bool) (gap : ℕ) (before after : List Run) → 0 < length chars → matches_of text chars fold ≡ before ++ after →
    AllByRecursion (λ run. run.end ≤ gap) before → AllByRecursion (λ run. gap ≤ run.start) after → after ≡ map (further gap) (matches_of (drop gap text) chars fold)
goes-on text chars fold gap before after some is left right =
    let cs : List ℕ = folded fold chars in
    let many : 0 < length (folded fold chars) = omega (arith, folded-len fold chars) in
    let all = subst (AreMatchesFrom (folded fold chars) (folded fold text) 0) is (matches_of-are text chars fold some) in
    let from = from-gap (folded fold chars) many (folded fold text) 0 gap before after all (omega arith) left right in
    elim (cases_lt (length text) gap) [
      | inl past ↦
          none-past (folded fold chars) many (folded fold text) gap after (omega (arith, folded-len fold text)) from ∙
          sym (ap (λ (t : List ℕ). map (further gap) (matches_of t chars fold)) (drop_all gap text (omega arith)) ∙ none-in chars)
      | inr inside ↦
          let long : length (folded fold (take gap text)) ≡ gap = omega (arith, folded-len fold (take gap text), length-take gap text) in
          let zero_plus : 0 + length (folded fold (take gap text)) ≡ gap = omega (arith, long) in
          let parts : folded fold text ≡ folded fold (take gap text) ++ folded fold (drop gap text) =
          ap (folded fold) (sym (take-append-drop gap text)) ∙ folded-append fold (take gap text) (drop gap text) in
          let behind =
          from-behind (folded fold chars) many (folded fold (take gap text)) (folded fold (drop gap text)) 0 (matches_of (drop gap text) chars fold)
          (matches_of-are (drop gap text) chars fold some) in
          AreMatchesFrom-same (folded fold chars) (folded fold text) gap after (map (further gap) (matches_of (drop gap text) chars fold)) from
          (subst (λ (n : ℕ). AreMatchesFrom (folded fold chars) (folded fold text) gap (map (further n) (matches_of (drop gap text) chars fold))) long
          (subst (λ (n : ℕ). AreMatchesFrom (folded fold chars) (folded fold text) n (map (further (length (folded fold (take gap text)))) (matches_of (drop gap text) chars fold))) zero_plus
          (subst (λ (t : List ℕ). AreMatchesFrom (folded fold chars) t (0 + length (folded fold (take gap text))) (map (further (length (folded fold (take gap text)))) (matches_of (drop gap text) chars fold))) (sym parts) behind)))
    ]
  where
    none-in : (chars : List ℕ) → map (further gap) (matches_of [] chars fold) ≡ []
    none-in [] = refl
    none-in (c ∷ chars) = none-folded fold (c ∷ chars)
      where
        none-folded : (fold : Bool) (chars : List ℕ) → map (further gap) (matches_of [] chars fold) ≡ []
        none-folded fold [] = refl
        none-folded true (c ∷ chars) = refl
        none-folded false (c ∷ chars) = refl

no-items : (before after : List Run) → [] ≡ before ++ after → after ≡ []
no-items [] after same = sym same
no-items (run ∷ before) after same = absurd cc

pub MatchingGoesOn-all : MatchingGoesOn
MatchingGoesOn-all text [] fold gap before after is left right = no-items before after is
MatchingGoesOn-all text (c ∷ chars) fold gap before after is left right =
    goes-on text (c ∷ chars) fold gap before after (omega arith) is left right

pub FrontsStay-all : FrontsStay
FrontsStay-all front one other [] fold = refl
FrontsStay-all front one other (c ∷ chars) fold =
    let some : 0 < length (c ∷ chars) = omega arith in
    let many : 0 < length (folded fold (c ∷ chars)) = omega (arith, folded-len fold (c ∷ chars)) in
    let are = subst (λ (t : List ℕ). AreMatchesFrom (folded fold (c ∷ chars)) t 0 (matches_of (front ++ one) (c ∷ chars) fold)) (folded-append fold front one)
    (matches_of-are (front ++ one) (c ∷ chars) fold some) in
    let be = subst (λ (t : List ℕ). AreMatchesFrom (folded fold (c ∷ chars)) t 0 (matches_of (front ++ other) (c ∷ chars) fold)) (folded-append fold front other)
    (matches_of-are (front ++ other) (c ∷ chars) fold some) in
    subst (λ (n : ℕ). filter (λ (run : Run). nat_le run.end n) (matches_of (front ++ one) (c ∷ chars) fold) ≡ filter (λ (run : Run). nat_le run.end n) (matches_of (front ++ other) (c ∷ chars) fold)) (folded-len fold front)
    (fronts (folded fold (c ∷ chars)) many (folded fold front) (folded fold one) (folded fold other) 0 (matches_of (front ++ one) (c ∷ chars) fold) (matches_of (front ++ other) (c ∷ chars) fold) are be)
