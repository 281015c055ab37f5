-- Lemmas on a walk over old lines.
use Rattle.std.proofs.Common.{◌≡◌, ◌⊎◌, inl, inr, ℕ, ◌+◌, ◌-◌, ◌<◌, ◌≤◌, Bool, false, List, ◌∷◌, drop, replicate, Some, sym, ap, ◌∙◌, arith}
use Rattle.std.proofs.lemmas.Bool.{cases_lt}
use Rattle.std.proofs.lemmas.List.{drop-drop, get_or-drop, get_or-replicate, get_or_append_left, length-replicate}
use Rattle.subset_runs.specs.Stretch.{IsFront}
use Rattle.subset_runs.specs.Subset.{contains}
use Rattle.subset_runs.specs.declared.stretch.Stretch.{Stretch}
use Rattle.line_cache.specs.Ahead.{IsAheadOf}
use Rattle.line_cache.specs.Stays.{AreStays, partner_by}
use Rattle.line_cache.specs.declared.stay.Stay.{Stay}
use Rattle.line_cache.proofs.StayLemmas.{partner-in}
use Rattle.line_cache.proofs.TakenLemmas.{partner-rises}

-- what is left of all lines, further on
pub drop-further : (all truths flags : List Bool) (done old : ℕ) → done ≤ old → drop done all ≡ truths → flags ≡ drop (old - done) truths → drop old all ≡ flags
drop-further all truths flags done old le left is =
    let sum : old ≡ done + (old - done) = omega arith in
    ap (λ n. drop n all) sum ∙ sym (drop-drop (old - done) done all) ∙ ap (drop (old - done)) left ∙ sym is

-- the lines at the front of what is left stand alike
pub alike-ahead : (all flags : List Bool) (old : ℕ) (s : Stretch) → drop old all ≡ flags → IsFront flags s →
    (k : ℕ) → k < s.len → contains all (old + k) ≡ s.member
alike-ahead all flags old s is front k lt =
    let len = length-replicate s.len s.member in
    sym (get_or-drop old all k false) ∙ ap (λ xs. contains xs k) (is ∙ front.same) ∙
    get_or_append_left (replicate s.len s.member) (drop s.len flags) false k (omega (arith, len, lt)) ∙ get_or-replicate s.len k s.member false lt

-- the partner of a line in the first run, or before it
pub first-ahead : (stay : Stay) (rest : List Stay) (at done : ℕ) → at < stay.new + stay.n → IsAheadOf (stay ∷ rest) at done → stay.new ≤ at →
    done ≤ stay.old + (at - stay.new)
first-ahead stay rest at done lt ahead le = ahead (stay.old + (at - stay.new)) stay.same (partner-in stay rest at le lt)

-- what is done with after a look at a line: no more than before, or what stands before its partner
pub first-done : (stay : Stay) (rest : List Stay) (at done next : ℕ) → at < stay.new + stay.n → (at < stay.new → next ≡ done) →
    (stay.new ≤ at → next ≡ stay.old + (at - stay.new)) → (next ≡ done) ⊎ ((same : Bool) × (partner_by (stay ∷ rest) at ≡ Some (next, same)))
first-done stay rest at done next lt before inside = by (cases_lt at stay.new)
  where
    by : (at < stay.new) ⊎ (stay.new ≤ at) → (next ≡ done) ⊎ ((same : Bool) × (partner_by (stay ∷ rest) at ≡ Some (next, same)))
    by (inl less) = inl (before less)
    by (inr le) = inr (stay.same, partner-in stay rest at le lt ∙ ap (λ old. Some (old, stay.same)) (sym (inside le)))

-- so it is for each later line
pub later-ahead : (stays rest : List Stay) (count total at done next : ℕ) → AreStays count total stays →
    ((index : ℕ) → at ≤ index → partner_by rest index ≡ partner_by stays index) → ((index : ℕ) → at ≤ index → IsAheadOf stays index done) →
    (next ≡ done) ⊎ ((same : Bool) × (partner_by rest at ≡ Some (next, same))) → (index : ℕ) → at < index → IsAheadOf stays index next
later-ahead stays rest count total at done next are same behind (inl stands) index lt old alike is =
    let le = behind index (omega (arith, lt)) old alike is in omega (arith, le, stands)
later-ahead stays rest count total at done next are same behind (inr (kind, found)) index lt old alike is =
    let less = partner-rises 0 0 count total stays at index next old kind alike are lt (sym (same at (omega arith)) ∙ found) is in omega (arith, less)
