-- A command that does nothing leaves the text as it is.
use Rattle.std.proofs.Common.{◌≡◌, ◌≢◌, ℕ, zero, suc, ◌+◌, ◌<◌, ◌≤◌, Bool, true, false, cond, List, [], ◌∷◌, ◌++◌, length, map, refl, ap, ap₂, sym, ◌∙◌, subst, arith, inl, inr}
use Rattle.std.specs.Prelude.{if◌then◌else◌, ◌==◌, ◌&&◌}
use Rattle.std.specs.List.{count_by, list_all, range_with_len, sum_by}
use Rattle.std.proofs.lemmas.Bool.{cases_lt, eq-eqb, eqb-true}
use Rattle.std.proofs.lemmas.List.Sums.{sum_by-cons}
use Rattle.plain_text.specs.declared.selection.Region.{Region}
use Rattle.plain_text.specs.Woven.{woven}
use Rattle.plain_edits.specs.declared.delta.UnitDelta.{UnitDelta}
use Rattle.edit_ops.specs.declared.replacement.Replacement.{Replacement}
use Rattle.edit_ops.specs.Commands.{Effect, IsEffect}
use Rattle.edit_ops.specs.Replacements.{IsEditOf, added_by, carets_with, gap_with, kept_by, replaced_by, text_with}
use Rattle.movement_core.proofs.ForCallers.{AreWithin-selection}
use Rattle.selection_core.specs.Mapped.{AreWithin}
use Rattle.selection_core.specs.Selection.{caret_of, lesser_end}
use Rattle.doc_view.specs.Idle.{do_nothing}

both-true : (a b : Bool) → (a && b) ≡ true → (a ≡ true) × (b ≡ true)
both-true true b is = (refl, is)
both-true false b is = absurd cc

all-each : (p : ℕ → Bool) (from count at : ℕ) → list_all p (range_with_len from count) ≡ true → from ≤ at → at < from + count → p at ≡ true
all-each p from zero at all low high = absurd (omega (arith, low, high))
all-each p from (suc count) at all low high =
    let parts = both-true (p from) (list_all p (range_with_len (from + 1) count)) all in
    elim (cases_lt from at) [
      | inl less ↦ all-each p (from + 1) count at parts.1 (omega (arith, less)) (omega (arith, high))
      | inr more ↦ let same : at ≡ from = omega (arith, low, more) in ap p same ∙ parts.0
    ]

none : (text : List ℕ) → (length text == 0) ≡ true → text ≡ []
none [] is = refl
none (c ∷ text) is = absurd (let empty = eqb-true (length (c ∷ text)) 0 is in omega (arith, empty))

woven-idle : (k : ℕ → Bool) (f : ℕ → List ℕ) (from : ℕ) (text : List ℕ) → ((j : ℕ) → from ≤ j → j < from + length text → k j ≡ true) →
    ((gap : ℕ) → from ≤ gap → gap ≤ from + length text → f gap ≡ []) → woven f (λ index c. if k index then c ∷ [] else []) from text ≡ text
woven-idle k f from [] keeps adds = adds from (omega arith) (omega arith)
woven-idle k f from (c ∷ text) keeps adds =
    ap₂ (λ xs ys. xs ++ ys) (adds from (omega arith) (omega arith))
    (ap₂ (λ b ys. (if b then c ∷ [] else []) ++ ys) (keeps from (omega arith) (omega arith))
    (woven-idle k f (from + 1) text (λ j low high. keeps j (omega (arith, low)) (omega (arith, high))) (λ gap low high. adds gap (omega (arith, low)) (omega (arith, high)))))

pub text-idle : (text : List ℕ) (replacements : List Replacement) → do_nothing (length text) replacements ≡ true → text_with replacements text ≡ text
text-idle text replacements idle =
    let parts = both-true (list_all (kept_by replacements) (range_with_len 0 (length text))) _ idle in
    woven-idle (kept_by replacements) (added_by replacements) 0 text
    (λ j low high. all-each (kept_by replacements) 0 (length text) j parts.0 low high)
    (λ gap low high. none (added_by replacements gap)
    (all-each (λ g. length (added_by replacements g) == 0) 0 (length text + 1) gap parts.1 low (omega (arith, high))))

pub length-idle : (text : List ℕ) (effect : Effect) (units : UnitDelta) (after : List Region) (idle : Bool) → IsEffect text effect units after →
    ((replacements : List Replacement) → IsEditOf units.base replacements units → idle ≡ do_nothing units.base replacements) → idle ≡ true →
    length (text_with effect.replacements text) ≡ length text
length-idle text effect units after idle is each idle_is =
    let told = each effect.replacements (subst (λ n. IsEditOf n effect.replacements units) (sym is.edit.of) is.edit) in
    ap length (text-idle text effect.replacements (ap (λ n. do_nothing n effect.replacements) (sym is.edit.of) ∙ sym told ∙ idle_is))

-- ---- characters that are typed into regions

longer : (chars more : List ℕ) → chars ≢ [] → chars ++ more ≢ []
longer [] more filled = absurd (filled refl)
longer (c ∷ chars) more filled = λ empty. cc

-- some characters are an edit
pub typing-some : (text chars : List ℕ) (regions : List Region) → chars ≢ [] → regions ≢ [] → AreWithin (length text) regions →
    do_nothing (length text) (map (replaced_by chars) regions) ≡ true → ⊥
typing-some text chars [] filled some within idle = some refl
typing-some text chars (region ∷ regions) filled some within idle =
    let all = map (replaced_by chars) (region ∷ regions) in
    let gap = lesser_end region in
    let parts = both-true (list_all (kept_by all) (range_with_len 0 (length text))) _ idle in
    let inside : gap ≤ length text = omega (arith, within.0) in
    let told = all-each (λ g. length (added_by all g) == 0) 0 (length text + 1) gap parts.1 (omega arith) (omega (arith, inside)) in
    let here : added_by all gap ≡ chars ++ added_by (map (replaced_by chars) regions) gap =
    ap (λ b. (if b then chars else []) ++ added_by (map (replaced_by chars) regions) gap) (eq-eqb gap gap refl) in
    longer chars (added_by (map (replaced_by chars) regions) gap) filled (sym here ∙ none (added_by all gap) told)

count-le : (p : ℕ → Bool) (from n : ℕ) → count_by p (range_with_len from n) ≤ n
count-le p from zero = omega arith
count-le p from (suc n) = omega (arith, sum_by-cons (λ k. cond (p k) 1 0) from (range_with_len (from + 1) n), one (p from), count-le p (from + 1) n)
  where
    one : (b : Bool) → cond b 1 0 ≤ 1
    one true = omega arith
    one false = omega arith

sum-zero : (f : ℕ → ℕ) (from n : ℕ) → ((k : ℕ) → from ≤ k → k < from + n → f k ≡ 0) → sum_by f (range_with_len from n) ≡ 0
sum-zero f from zero each = refl
sum-zero f from (suc n) each =
    omega (
      arith,
      sum_by-cons f from (range_with_len (from + 1) n),
      each from (omega arith) (omega arith),
      sum-zero f (from + 1) n (λ k low high. each k (omega (arith, low)) (omega (arith, high))),
    )

-- where nothing is done no gap goes further right
gap-idle : (text : List ℕ) (replacements : List Replacement) (gap : ℕ) → do_nothing (length text) replacements ≡ true → gap ≤ length text →
    gap_with replacements gap ≤ length text
gap-idle text replacements gap idle inside =
    let parts = both-true (list_all (kept_by replacements) (range_with_len 0 (length text))) _ idle in
    omega (
      arith,
      count-le (kept_by replacements) 0 gap,
      sum-zero (λ left. length (added_by replacements left)) 0 (gap + 1) (λ k low high.
          ap length (none (added_by replacements k)
          (all-each (λ g. length (added_by replacements g) == 0) 0 (length text + 1) k parts.1 low (omega (arith, high, inside))))),
    )

-- and regions into which nothing is typed lie in the text then
pub typing-within : (text chars : List ℕ) (regions : List Region) → AreWithin (length text) regions →
    do_nothing (length text) (map (replaced_by chars) regions) ≡ true → AreWithin (length text) (carets_with (map (replaced_by chars) regions))
typing-within text chars regions within idle =
    AreWithin-selection (length text) (map (λ r. caret_of (gap_with all r.range.start)) all) (each regions within)
  where
    all : List Replacement
    all = map (replaced_by chars) regions

    each : (rs : List Region) → AreWithin (length text) rs → AreWithin (length text) (map (λ r. caret_of (gap_with all r.range.start)) (map (replaced_by chars) rs))
    each [] inside = tt
    each (region ∷ rs) inside =
        let start : lesser_end region ≤ length text = omega (arith, inside.0) in
        let gap = gap-idle text all (lesser_end region) idle start in
        (omega (arith, gap), each rs inside.1)
