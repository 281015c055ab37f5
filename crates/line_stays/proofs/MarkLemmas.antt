-- Where no mark stands, the same is shown on both sides.
use Rattle.std.proofs.Common.{◌≡◌, ℕ, zero, suc, ◌+◌, ◌-◌, ◌<◌, Bool, true, false, List, [], ◌∷◌, ◌++◌, length, map, replicate, refl, ap, ap₂, sym, ◌∙◌, arith}
use Rattle.std.specs.Prelude.{◌&&◌, ◌||◌, not, min, nat_le}
use Rattle.std.specs.List.{range_with_len}
use Rattle.std.proofs.lemmas.Bool.{le-leb, lt-leb}
use Rattle.std.proofs.lemmas.List.FromFn.{length-map-range_with_len}
use Rattle.std.proofs.lemmas.List.{length-replicate}
use Rattle.plain_text.specs.declared.run.Run.{Run}
use Rattle.plain_text.specs.declared.selection.Region.{Region}
use Rattle.plain_text.specs.Numbers.{has}
use Rattle.subset_runs.specs.Subset.{at_each, contains, symmetric_difference, union}
use Rattle.subset_runs.proofs.ForCallers.{length-at_each}
use Rattle.line_render.specs.Rendered.{carets_of, is_selected}
use Rattle.doc_layout.specs.Found.{is_found}
use Rattle.line_stays.specs.Change.{may_differ}
use Rattle.line_stays.specs.declared.change.Change.{Change}
use Rattle.line_stays.specs.Inner.{AreAlikeAt, flags_by}
use Rattle.line_stays.proofs.FlagLemmas.{flags-put}

-- ---- one flag

at-each : (f : Bool → Bool → Bool) (xs ys : List Bool) (k : ℕ) → length xs ≡ length ys → k < length xs →
    contains (at_each f xs ys) k ≡ f (contains xs k) (contains ys k)
at-each f [] ys k same less = absurd (omega (arith, less))
at-each f (x ∷ xs) [] k same less = absurd (omega (arith, same))
at-each f (x ∷ xs) (y ∷ ys) zero same less = refl
at-each f (x ∷ xs) (y ∷ ys) (suc k) same less = at-each f xs ys k (omega (arith, same)) (omega (arith, less))

flag-from : (test : ℕ → Bool) (from at n k : ℕ) → k < n → contains (map (λ i. test (from + i)) (range_with_len at n)) k ≡ test (from + (at + k))
flag-from test from at zero k less = absurd (omega (arith, less))
flag-from test from at (suc n) zero less = ap (λ i. test (from + i)) (let here : at ≡ at + 0 = omega arith in here)
flag-from test from at (suc n) (suc k) less =
    flag-from test from (at + 1) n k (omega (arith, less)) ∙ ap (λ i. test (from + i)) (let on : at + 1 + k ≡ at + suc k = omega arith in on)

flag-at : (test : ℕ → Bool) (from n k : ℕ) → k < n → contains (flags_by test from n) k ≡ test (from + k)
flag-at test from n k less = flag-from test from 0 n k less ∙ ap (λ i. test (from + i)) (let none : 0 + k ≡ k = omega arith in none)

pub length-flags : (test : ℕ → Bool) (from n : ℕ) → length (flags_by test from n) ≡ n
length-flags test from n = length-map-range_with_len (λ i. test (from + i)) 0 n

or-none : (a b : Bool) → (a || b) ≡ false → (a ≡ false) × (b ≡ false)
or-none true b is = absurd cc
or-none false b is = (refl, is)

-- ---- flags of both sides

module _ (p q : ℕ → Bool) (old new n : ℕ) where
  both : length (flags_by p old n) ≡ length (flags_by q new n)
  both = length-flags p old n ∙ sym (length-flags q new n)

  pub length-apart : length (symmetric_difference (flags_by p old n) (flags_by q new n)) ≡ n
  length-apart = length-at_each (λ x y. x && not y || y && not x) (flags_by p old n) (flags_by q new n) both ∙ length-flags p old n

  pub same-at : (k : ℕ) → k < n → contains (symmetric_difference (flags_by p old n) (flags_by q new n)) k ≡ false → p (old + k) ≡ q (new + k)
  same-at k less none =
      same (p (old + k)) (q (new + k))
      (sym (ap₂ (λ x y. x && not y || y && not x) (flag-at p old n k less) (flag-at q new n k less)) ∙
      sym (at-each (λ x y. x && not y || y && not x) (flags_by p old n) (flags_by q new n) k both (omega (arith, less, length-flags p old n))) ∙ none)
    where
      same : (x y : Bool) → (x && not y || y && not x) ≡ false → x ≡ y
      same true true is = refl
      same true false is = absurd cc
      same false true is = absurd cc
      same false false is = refl

-- ---- the marks

pub length-union : (xs ys : List Bool) (n : ℕ) → length xs ≡ n → length ys ≡ n → length (union xs ys) ≡ n
length-union xs ys n one other = length-at_each (λ x y. x || y) xs ys (one ∙ sym other) ∙ one

-- a gap that is no mark of both is none of either
union-none : (xs ys : List Bool) (n k : ℕ) → length xs ≡ n → length ys ≡ n → k < n → contains (union xs ys) k ≡ false →
    (contains xs k ≡ false) × (contains ys k ≡ false)
union-none xs ys n k one other less none =
    or-none (contains xs k) (contains ys k) (sym (at-each (λ x y. x || y) xs ys k (one ∙ sym other) (omega (arith, less, one))) ∙ none)

-- what is on one side alone, of each kind
abbrev pub carets_apart : List Region → List Region → ℕ → ℕ → ℕ → List Bool
carets_apart regions others old new n = symmetric_difference (flags_by (has (carets_of regions)) old n) (flags_by (has (carets_of others)) new n)

abbrev pub selected_apart : List Region → List Region → ℕ → ℕ → ℕ → List Bool
selected_apart regions others old new n = symmetric_difference (flags_by (is_selected regions) old n) (flags_by (is_selected others) new n)

abbrev pub found_apart : List Run → List Run → ℕ → ℕ → ℕ → List Bool
found_apart results founds old new n = symmetric_difference (flags_by (is_found results) old n) (flags_by (is_found founds) new n)

abbrev pub styled_apart : Change → ℕ → ℕ → List Bool
styled_apart change old n = flags_by (may_differ change) old n

pub long-carets : (regions others : List Region) (old new n : ℕ) → length (carets_apart regions others old new n) ≡ n
long-carets regions others old new n = length-apart (has (carets_of regions)) (has (carets_of others)) old new n

pub long-selected : (regions others : List Region) (old new n : ℕ) → length (selected_apart regions others old new n) ≡ n
long-selected regions others old new n = length-apart (is_selected regions) (is_selected others) old new n

pub long-found : (results founds : List Run) (old new n : ℕ) → length (found_apart results founds old new n) ≡ n
long-found results founds old new n = length-apart (is_found results) (is_found founds) old new n

pub long-styled : (change : Change) (old n : ℕ) → length (styled_apart change old n) ≡ n
long-styled change old n = length-flags (may_differ change) old n

pub long-some : (regions others : List Region) (old new n : ℕ) →
    length (union (carets_apart regions others old new n) (selected_apart regions others old new n)) ≡ n
long-some regions others old new n =
    length-union (carets_apart regions others old new n) (selected_apart regions others old new n) n (long-carets regions others old new n)
    (long-selected regions others old new n)

pub long-more : (regions others : List Region) (results founds : List Run) (old new n : ℕ) →
    length (union (union (carets_apart regions others old new n) (selected_apart regions others old new n)) (found_apart results founds old new n)) ≡ n
long-more regions others results founds old new n =
    length-union (union (carets_apart regions others old new n) (selected_apart regions others old new n)) (found_apart results founds old new n) n
    (long-some regions others old new n) (long-found results founds old new n)

-- all of them
abbrev pub marks : List Region → List Region → List Run → List Run → Change → ℕ → ℕ → ℕ → List Bool
marks regions others results founds change old new n =
    union (union (union (carets_apart regions others old new n) (selected_apart regions others old new n)) (found_apart results founds old new n))
    (styled_apart change old n)

module _ (regions others : List Region) (results founds : List Run) (change : Change) (old new n : ℕ) where
  pub marks-made : (carets selected found styled some more made : List Bool) → carets ≡ carets_apart regions others old new n →
      selected ≡ selected_apart regions others old new n → found ≡ found_apart results founds old new n → styled ≡ styled_apart change old n →
      some ≡ union carets selected → more ≡ union some found → made ≡ union more styled → made ≡ marks regions others results founds change old new n
  marks-made carets selected found styled some more made c_is s_is f_is st_is some_is more_is made_is =
      made_is ∙
      ap₂ (λ (xs ys : List Bool). union xs ys)
      (more_is ∙
      ap₂ (λ (xs ys : List Bool). union xs ys) (some_is ∙ ap₂ (λ (xs ys : List Bool). union xs ys) c_is s_is) f_is) st_is

  pub long-marks : length (marks regions others results founds change old new n) ≡ n
  long-marks =
      length-union (union (union (carets_apart regions others old new n) (selected_apart regions others old new n)) (found_apart results founds old new n))
      (styled_apart change old n) n (long-more regions others results founds old new n) (long-styled change old n)

  three : (k : ℕ) → k < n → contains (marks regions others results founds change old new n) k ≡ false →
      (contains (union (union (carets_apart regions others old new n) (selected_apart regions others old new n)) (found_apart results founds old new n)) k ≡ false) ×
      (contains (styled_apart change old n) k ≡ false)
  three k less none =
      union-none (union (union (carets_apart regions others old new n) (selected_apart regions others old new n)) (found_apart results founds old new n))
      (styled_apart change old n) n k (long-more regions others results founds old new n) (long-styled change old n) less none

  -- WHERE NO MARK STANDS the same is shown
  pub alike-at : (k : ℕ) → k < n → contains (marks regions others results founds change old new n) k ≡ false →
      AreAlikeAt regions others results founds (old + k) (new + k)
  alike-at k less none =
      let two = union-none (union (carets_apart regions others old new n) (selected_apart regions others old new n)) (found_apart results founds old new n) n k
      (long-some regions others old new n) (long-found results founds old new n) less (three k less none).0 in
      let one = union-none (carets_apart regions others old new n) (selected_apart regions others old new n) n k (long-carets regions others old new n)
      (long-selected regions others old new n) less two.0 in
      record {
        carets = same-at (has (carets_of regions)) (has (carets_of others)) old new n k less one.0;
        selected = same-at (is_selected regions) (is_selected others) old new n k less one.1;
        found = same-at (is_found results) (is_found founds) old new n k less two.1;
      }

  -- and styles are no others
  pub styled-at : (k : ℕ) → k < n → contains (marks regions others results founds change old new n) k ≡ false → may_differ change (old + k) ≡ false
  styled-at k less none = sym (flag-at (may_differ change) old n k less) ∙ (three k less none).1

-- ---- all from a gap on

pub from-gap : (gap from n before : ℕ) → before ≡ min (gap - from) n → replicate before false ++ replicate (n - before) true ≡ flags_by (nat_le gap) from n
from-gap gap from n before is =
    let first = flags-put from (nat_le gap) false [] before refl (λ i low less. lt-leb gap (from + i) (omega (arith, is, less))) in
    let long : length (replicate before false) ≡ before = length-replicate before false in
    let none : 0 + before ≡ length (replicate before false) = omega (arith, long) in
    flags-put from (nat_le gap) true (replicate before false) (n - before) (first ∙ ap (flags_by (nat_le gap) from) none)
    (λ i low less. le-leb gap (from + i) (omega (arith, is, low, less, long))) ∙
    ap (flags_by (nat_le gap) from) (let full : length (replicate before false) + (n - before) ≡ n = omega (arith, long, is) in full)

-- of no characters
pub none-flags : (from n : ℕ) → replicate n false ≡ flags_by (λ i. false) from n
none-flags from n =
    flags-put from (λ i. false) false [] n refl (λ i low less. refl) ∙ ap (flags_by (λ i. false) from) (let none : 0 + n ≡ n = omega arith in none)
