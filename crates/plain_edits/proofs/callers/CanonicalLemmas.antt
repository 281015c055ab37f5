-- Two canonical deltas of one meaning are one.
use Rattle.std.proofs.Common.{◌≡◌, ℕ, ◌+◌, ◌<◌, ◌≤◌, true, false, ◌&&◌, ◌||◌, if◌then◌else◌, nat_lt, nat_le, List, [], ◌∷◌, ◌++◌, refl, ap, ap₂, subst, sym, ◌∙◌, inl, inr, arith, append-nil}
use Rattle.std.proofs.lemmas.Bool.{both_ways, and_left, and_right, and_from, or_left, cases_order, cases_lt, le-leb, lt-leb, lt-ltb, le-ltb, eq-eqb, ne_eqb}
use Rattle.plain_text.specs.declared.run.Run.{Run}
use Rattle.plain_edits.specs.declared.delta.Added.{Added}
use Rattle.plain_edits.specs.declared.delta.UnitDelta.{UnitDelta}
use Rattle.plain_edits.specs.Delta.{is_in_runs, text_at_gap}
use Rattle.plain_edits.specs.UnitDelta.{AreAdds, AreApart, IsCanonical, unit_keeps, unit_adds}

-- ---- runs

abbrev run_of : ℕ → ℕ → Run
run_of start end = record { start = start; end = end }

in_run : (run : Run) (i : ℕ) → run.start ≤ i → i < run.end → (nat_le run.start i && nat_lt i run.end) ≡ true
in_run run i low high = and_from _ _ (le-leb run.start i low) (lt-ltb i run.end high)

left_of_run : (run : Run) (i : ℕ) → i < run.start → (nat_le run.start i && nat_lt i run.end) ≡ false
left_of_run run i before = and_left _ _ (lt-leb run.start i before)

past_run : (run : Run) (i : ℕ) → run.end ≤ i → (nat_le run.start i && nat_lt i run.end) ≡ false
past_run run i past = and_right _ _ (le-ltb i run.end past)

none_in_runs : (from : ℕ) (runs : List Run) (i : ℕ) → AreApart from runs → i < from → is_in_runs runs i ≡ false
none_in_runs from [] i apart before = refl
none_in_runs from (run ∷ runs) i apart before =
    ap₂ (λ a b. a || b) (left_of_run run i (omega (arith, before, apart.0)))
    (none_in_runs (run.end + 1) runs i apart.2 (omega (arith, before, apart.0, apart.1)))

first_in_runs : (run : Run) (runs : List Run) (i : ℕ) → run.start ≤ i → i < run.end → is_in_runs (run ∷ runs) i ≡ true
first_in_runs run runs i low high = or_left _ _ (in_run run i low high)

-- the run that begins first, or ends first, would tell two lists apart
starts_not_before : (from : ℕ) (run other : Run) (runs others : List Run) → AreApart from (run ∷ runs) → AreApart from (other ∷ others) →
    ((i : ℕ) → is_in_runs (run ∷ runs) i ≡ is_in_runs (other ∷ others) i) → run.start < other.start → ⊥
starts_not_before from run other runs others apart others_apart same before =
    both_ways (is_in_runs (other ∷ others) run.start)
    (none_in_runs other.start (other ∷ others) run.start (omega arith, others_apart.1, others_apart.2) before)
    (sym (same run.start) ∙ first_in_runs run runs run.start (omega arith) (omega (arith, apart.1)))

ends_not_before : (from : ℕ) (run other : Run) (runs others : List Run) → AreApart from (run ∷ runs) → AreApart from (other ∷ others) →
    ((i : ℕ) → is_in_runs (run ∷ runs) i ≡ is_in_runs (other ∷ others) i) → run.start ≡ other.start → run.end < other.end → ⊥
ends_not_before from run other runs others apart others_apart same starts before =
    both_ways (is_in_runs (run ∷ runs) run.end)
    (ap₂ (λ a b. a || b) (past_run run run.end (omega arith)) (none_in_runs (run.end + 1) runs run.end apart.2 (omega arith)))
    (same run.end ∙ first_in_runs other others run.end (omega (arith, starts, apart.1)) before)

runs_same : (from : ℕ) (runs others : List Run) → AreApart from runs → AreApart from others →
    ((i : ℕ) → is_in_runs runs i ≡ is_in_runs others i) → runs ≡ others
runs_same from [] [] apart others_apart same = refl
runs_same from [] (other ∷ others) apart others_apart same =
    absurd (both_ways false refl (same other.start ∙ first_in_runs other others other.start (omega arith) (omega (arith, others_apart.1))))
runs_same from (run ∷ runs) [] apart others_apart same =
    absurd (both_ways false refl (sym (same run.start) ∙ first_in_runs run runs run.start (omega arith) (omega (arith, apart.1))))
runs_same from (run ∷ runs) (other ∷ others) apart others_apart same =
    ap₂ (λ r rs. r ∷ rs) alike (runs_same (run.end + 1) runs others apart.2 (subst (λ n. AreApart (n + 1) others) (sym ends) others_apart.2) rest)
  where
    starts : run.start ≡ other.start
    starts =
        elim (cases_order run.start other.start) [
          | inl is ↦ is
          | inr (inl below) ↦ absurd (starts_not_before from run other runs others apart others_apart same below)
          | inr (inr above) ↦ absurd (starts_not_before from other run others runs others_apart apart (λ i. sym (same i)) above)
        ]

    ends : run.end ≡ other.end
    ends =
        elim (cases_order run.end other.end) [
          | inl is ↦ is
          | inr (inl below) ↦ absurd (ends_not_before from run other runs others apart others_apart same starts below)
          | inr (inr above) ↦ absurd (ends_not_before from other run others runs others_apart apart (λ i. sym (same i)) (sym starts) above)
        ]

    alike : run ≡ other
    alike = ap₂ run_of starts ends

    rest : (i : ℕ) → is_in_runs runs i ≡ is_in_runs others i
    rest i =
        elim (cases_lt i (run.end + 1)) [
          | inl before ↦
              none_in_runs (run.end + 1) runs i apart.2 before ∙
              sym (none_in_runs (other.end + 1) others i others_apart.2 (omega (arith, before, ends)))
          | inr past ↦
              ap (λ b. b || is_in_runs runs i) (sym (past_run run i (omega (arith, past)))) ∙ same i ∙
              ap (λ b. b || is_in_runs others i) (past_run other i (omega (arith, past, ends)))
        ]

-- ---- texts at gaps

abbrev added_of : ℕ → List ℕ → Added
added_of gap text = record { gap = gap; text = text }

no_text_at : (base from : ℕ) (adds : List Added) (gap : ℕ) → AreAdds base from adds → gap < from → text_at_gap adds gap ≡ []
no_text_at base from [] gap are before = refl
no_text_at base from (added ∷ adds) gap are before =
    ap₂ (λ b text. (if b then added.text else []) ++ text) (ne_eqb added.gap gap (λ same. omega (arith, same, before, are.0)))
    (no_text_at base (added.gap + 1) adds gap are.3 (omega (arith, before, are.0)))

first_text_at : (base from : ℕ) (added : Added) (adds : List Added) → AreAdds base from (added ∷ adds) → text_at_gap (added ∷ adds) added.gap ≡ added.text
first_text_at base from added adds are =
    ap₂ (λ b text. (if b then added.text else []) ++ text) (eq-eqb added.gap added.gap refl)
    (no_text_at base (added.gap + 1) adds added.gap are.3 (omega arith)) ∙ append-nil added.text

gaps_not_before : (base from : ℕ) (added other : Added) (adds others : List Added) → AreAdds base from (added ∷ adds) → AreAdds base from (other ∷ others) →
    ((g : ℕ) → text_at_gap (added ∷ adds) g ≡ text_at_gap (other ∷ others) g) → added.gap < other.gap → ⊥
gaps_not_before base from added other adds others are others_are same before =
    are.2 (sym (first_text_at base from added adds are) ∙ same added.gap ∙
    no_text_at base other.gap (other ∷ others) added.gap (omega arith, others_are.1, others_are.2, others_are.3) before)

adds_same : (base from : ℕ) (adds others : List Added) → AreAdds base from adds → AreAdds base from others →
    ((g : ℕ) → text_at_gap adds g ≡ text_at_gap others g) → adds ≡ others
adds_same base from [] [] are others_are same = refl
adds_same base from [] (other ∷ others) are others_are same =
    absurd (others_are.2 (sym (first_text_at base from other others others_are) ∙ sym (same other.gap)))
adds_same base from (added ∷ adds) [] are others_are same =
    absurd (are.2 (sym (first_text_at base from added adds are) ∙ same added.gap))
adds_same base from (added ∷ adds) (other ∷ others) are others_are same =
    ap₂ (λ a more. a ∷ more) alike
    (adds_same base (added.gap + 1) adds others are.3 (subst (λ n. AreAdds base (n + 1) others) (sym gaps) others_are.3) rest)
  where
    gaps : added.gap ≡ other.gap
    gaps =
        elim (cases_order added.gap other.gap) [
          | inl is ↦ is
          | inr (inl below) ↦ absurd (gaps_not_before base from added other adds others are others_are same below)
          | inr (inr above) ↦ absurd (gaps_not_before base from other added others adds others_are are (λ g. sym (same g)) above)
        ]

    texts : added.text ≡ other.text
    texts =
        sym (first_text_at base from added adds are) ∙ same added.gap ∙ ap (text_at_gap (other ∷ others)) gaps ∙
        first_text_at base from other others others_are

    alike : added ≡ other
    alike = ap₂ added_of gaps texts

    rest : (g : ℕ) → text_at_gap adds g ≡ text_at_gap others g
    rest g =
        elim (cases_lt g (added.gap + 1)) [
          | inl before ↦
              no_text_at base (added.gap + 1) adds g are.3 before ∙
              sym (no_text_at base (other.gap + 1) others g others_are.3 (omega (arith, before, gaps)))
          | inr past ↦
              ap (λ b. (if b then added.text else []) ++ text_at_gap adds g) (sym (ne_eqb added.gap g (λ is. omega (arith, is, past)))) ∙ same g ∙
              ap (λ b. (if b then other.text else []) ++ text_at_gap others g) (ne_eqb other.gap g (λ is. omega (arith, is, past, gaps)))
        ]

abbrev units_of : ℕ → List Run → List Added → UnitDelta
units_of base kept added = record { base = base; kept = kept; added = added }

-- A CANONICAL DELTA is the only one of its meaning
pub canonical_same : (units others : UnitDelta) → IsCanonical units → IsCanonical others → units.base ≡ others.base →
    ((index : ℕ) → unit_keeps units index ≡ unit_keeps others index) → ((gap : ℕ) → unit_adds units gap ≡ unit_adds others gap) → units ≡ others
canonical_same units others is others_is bases keeps adds =
    ap (λ base. units_of base units.kept units.added) bases ∙
    ap₂ (units_of others.base) (runs_same 0 units.kept others.kept is.apart others_is.apart keeps)
    (adds_same units.base 0 units.added others.added is.well_formed.adds
    (subst (λ n. AreAdds n 0 others.added) (sym bases) others_is.well_formed.adds) adds)
