-- What a search found that touches a run: these results rise, and find the same characters of the run.
use Rattle.std.proofs.Common.{◌≡◌, inl, inr, ℕ, ◌<◌, ◌≤◌, Bool, true, false, List, [], ◌∷◌, length, refl, ap, ap₂, sym, ◌∙◌, arith}
use Rattle.std.specs.Prelude.{◌&&◌, ◌||◌, ◌==◌, if◌then◌else◌, nat_le, nat_lt}
use Rattle.std.specs.List.{filter}
use Rattle.std.proofs.lemmas.Bool.{cases_lt, eqb-true, le-leb, le-ltb, lt-leb, lt-ltb}
use Rattle.plain_text.specs.declared.run.Run.{Run}
use Rattle.plain_screen.specs.Plan.{is_within}
use Rattle.match_index.specs.Found.{Found, joined, joined_onto, runs_in, shares, touching}
use Rattle.doc_layout.specs.Found.{RiseApart, is_found}
use Rattle.doc_layout.proofs.ForCallers.{RiseApart-filter, RiseApart-matches, found-shared}

or-assoc : (a b c : Bool) → ((a || b) || c) ≡ (a || (b || c))
or-assoc true b c = refl
or-assoc false b c = refl

-- two runs of which one starts where the other ends have the characters of both
within-joined : (run next : Run) (i : ℕ) → run.start ≤ run.end → next.start ≤ next.end → run.end ≡ next.start →
    is_within (record { start = run.start; end = next.end }) i ≡ (is_within run i || is_within next i)
within-joined run next i one two same = elim (cases_lt i run.end) [
  | inl before ↦
      ap (λ b. nat_le run.start i && b) (lt-ltb i next.end (omega (arith, before, two, same))) ∙ left (nat_le run.start i) (nat_lt i next.end) ∙
      sym (ap₂ (λ a b. (nat_le run.start i && a) || (b && nat_lt i next.end)) (lt-ltb i run.end before) (lt-leb next.start i (omega (arith, before, same))))
  | inr past ↦
      ap (λ b. b && nat_lt i next.end) (le-leb run.start i (omega (arith, one, past))) ∙ right (nat_le run.start i) (nat_lt i next.end) ∙
      sym (ap₂ (λ a b. (nat_le run.start i && a) || (b && nat_lt i next.end)) (le-ltb i run.end past) (le-leb next.start i (omega (arith, past, same))))
]
  where
    left : (a b : Bool) → (a && true) ≡ ((a && true) || (false && b))
    left true b = refl
    left false b = refl

    right : (a b : Bool) → (true && b) ≡ ((a && false) || (true && b))
    right true b = refl
    right false b = refl

found-onto : (len from : ℕ) (run : Run) (results : List Run) (i : ℕ) → RiseApart len from (run ∷ results) →
    is_found (joined_onto run results) i ≡ is_found (run ∷ results) i
found-onto len from run [] i rise = refl
found-onto len from run (next ∷ results) i rise =
    by (λ joined rises. found-onto len from joined results i rises) (found-onto len run.end next results i rise.3) (run.end == next.start) refl
  where
    later : RiseApart len run.end (next ∷ results)
    later = rise.3

    by : ((joined : Run) → RiseApart len from (joined ∷ results) → is_found (joined_onto joined results) i ≡ is_found (joined ∷ results) i) →
        is_found (joined_onto next results) i ≡ is_found (next ∷ results) i → (b : Bool) → (run.end == next.start) ≡ b →
        is_found (if b then joined_onto (record { start = run.start; end = next.end }) results else run ∷ joined_onto next results) i ≡
        is_found (run ∷ next ∷ results) i
    by whole apart true is =
        let same = eqb-true run.end next.start is in
        whole (record { start = run.start; end = next.end })
        (rise.0, omega (arith, rise.1, later.0, later.1), later.2, later.3) ∙
        ap (λ b. b || is_found results i) (within-joined run next i (omega (arith, rise.1)) (omega (arith, later.1)) same) ∙
        or-assoc (is_within run i) (is_within next i) (is_found results i)
    by whole apart false is = ap (λ b. is_within run i || b) apart

rise-onto : (len from : ℕ) (run : Run) (results : List Run) → RiseApart len from (run ∷ results) → RiseApart len from (joined_onto run results)
rise-onto len from run [] rise = rise
rise-onto len from run (next ∷ results) rise =
    by (λ joined rises. rise-onto len from joined results rises) (rise-onto len run.end next results rise.3) (run.end == next.start)
  where
    later : RiseApart len run.end (next ∷ results)
    later = rise.3

    by : ((joined : Run) → RiseApart len from (joined ∷ results) → RiseApart len from (joined_onto joined results)) →
        RiseApart len run.end (joined_onto next results) → (b : Bool) → RiseApart len from (if b then joined_onto (record { start = run.start; end = next.end }) results else run ∷ joined_onto next results)
    by whole apart true =
        whole (record { start = run.start; end = next.end }) (rise.0, omega (arith, rise.1, later.0, later.1), later.2, later.3)
    by whole apart false = (rise.0, rise.1, rise.2, apart)

found-joined : (len from : ℕ) (results : List Run) (i : ℕ) → RiseApart len from results → is_found (joined results) i ≡ is_found results i
found-joined len from [] i rise = refl
found-joined len from (run ∷ results) i rise = found-onto len from run results i rise

rise-joined : (len from : ℕ) (results : List Run) → RiseApart len from results → RiseApart len from (joined results)
rise-joined len from [] rise = tt
rise-joined len from (run ∷ results) rise = rise-onto len from run results rise

-- results that touch a run rise in the text
pub touching-rise : (range : Run) (found : Found) → RiseApart (length found.text) 0 (touching range (runs_in found))
touching-rise range found =
    rise-joined (length found.text) 0 (filter (shares range) (runs_in found))
    (RiseApart-filter (shares range) (length found.text) 0 (runs_in found) (RiseApart-matches found.text found.chars found.fold))

-- and find the same characters of it
pub touching-found : (range : Run) (found : Found) (i : ℕ) → range.start ≤ i → i < range.end →
    is_found (touching range (runs_in found)) i ≡ is_found (runs_in found) i
touching-found range found i low high =
    found-joined (length found.text) 0 (filter (shares range) (runs_in found)) i
    (RiseApart-filter (shares range) (length found.text) 0 (runs_in found) (RiseApart-matches found.text found.chars found.fold)) ∙
    found-shared range (runs_in found) i low high
