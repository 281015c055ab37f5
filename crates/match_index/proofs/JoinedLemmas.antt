-- Runs that are joined where they touch, and the matches that touch a run.
use Rattle.std.proofs.Common.{◌≡◌, inl, inr, ℕ, zero, suc, ◌+◌, ◌-◌, ◌<◌, ◌≤◌, Bool, true, false, List, [], ◌∷◌, ◌++◌, length, take, drop, Some, None, refl, ap, ap₂, sym, ◌∙◌, arith, append-nil, take-append-drop}
use Rattle.std.specs.Prelude.{nat_lt, ◌&&◌, ◌==◌, if◌then◌else◌, slice_get}
use Rattle.std.specs.List.{filter, AllByRecursion}
use Rattle.std.proofs.lemmas.Bool.{cases_Bool, cond-true, cond-false, le-ltb, lt-ltb}
use Rattle.std.proofs.lemmas.List.Elements.{filter-append}
use Rattle.plain_text.specs.declared.run.Run.{Run}
use Rattle.match_index.specs.Found.{joined, joined_onto, shares, touching}
use Rattle.match_index.specs.Inner.{with_joined, IsLastBy}
use Rattle.match_index.specs.Strides.{runs_behind, span}
use Rattle.match_index.proofs.StrideLemmas.{run_to, runs_behind-append, span-next, up-one}

-- ---- one run more

joined_onto-more : (first : Run) (runs : List Run) (run : Run) → joined_onto first (runs ++ run ∷ []) ≡ with_joined (joined_onto first runs) run
joined_onto-more first [] run = refl
joined_onto-more first (next ∷ runs) run =
    elim (cases_Bool (first.end == next.start)) [
      | inl touch ↦
          cond-true _ _ _ touch ∙ joined_onto-more (record { start = first.start; end = next.end }) runs run ∙
          ap (λ (xs : List Run). with_joined xs run) (sym (cond-true _ _ _ touch))
      | inr apart ↦
          cond-false _ _ _ apart ∙ ap (λ (xs : List Run). first ∷ xs) (joined_onto-more next runs run) ∙
          sym (with-first first next runs run) ∙ ap (λ (xs : List Run). with_joined xs run) (sym (cond-false _ _ _ apart))
    ]
  where
    with-some : (first : Run) (xs : List Run) (run : Run) → 0 < length xs → with_joined (first ∷ xs) run ≡ first ∷ with_joined xs run
    with-some first [] run some = absurd (omega arith)
    with-some first (x ∷ xs) run some = refl

    some-onto : (first : Run) (runs : List Run) → 0 < length (joined_onto first runs)
    some-onto first [] = omega arith
    some-onto first (next ∷ runs) =
        by (first.end == next.start) (some-onto (record { start = first.start; end = next.end }) runs)
      where
        by : (b : Bool) → 0 < length (joined_onto (record { start = first.start; end = next.end }) runs) →
            0 < length (if b then joined_onto (record { start = first.start; end = next.end }) runs else first ∷ joined_onto next runs)
        by true some = some
        by false some = omega arith

    with-first : (first next : Run) (runs : List Run) (run : Run) → with_joined (first ∷ joined_onto next runs) run ≡ first ∷ with_joined (joined_onto next runs) run
    with-first first next runs run = with-some first (joined_onto next runs) run (some-onto next runs)

joined-more : (runs : List Run) (run : Run) → joined (runs ++ run ∷ []) ≡ with_joined (joined runs) run
joined-more [] run = refl
joined-more (first ∷ runs) run = joined_onto-more first runs run

-- the last of some runs, taken off and put back with one more
pub with_joined-last : (runs front : List Run) (last run : Run) → runs ≡ front ++ last ∷ [] → front ++ joined_onto last (run ∷ []) ≡ with_joined runs run
with_joined-last runs front last run is = behind front ∙ ap (λ (xs : List Run). with_joined xs run) (sym is)
  where
    behind : (xs : List Run) → xs ++ joined_onto last (run ∷ []) ≡ with_joined (xs ++ last ∷ []) run
    behind [] = refl
    behind (x ∷ []) = refl
    behind (x ∷ y ∷ xs) = ap (λ (rest : List Run). x ∷ rest) (behind (y ∷ xs))

-- ---- the matches that touch a run

shares-both : (run other : Run) → run.start < other.end → other.start < run.end → shares run other ≡ true
shares-both run other left right = ap₂ (λ (a b : Bool). a && b) (lt-ltb run.start other.end left) (lt-ltb other.start run.end right)

shares-left : (run other : Run) → other.end ≤ run.start → shares run other ≡ false
shares-left run other le = ap (λ (a : Bool). a && nat_lt other.start run.end) (le-ltb run.start other.end le)

shares-right : (run other : Run) → run.end ≤ other.start → shares run other ≡ false
shares-right run other le = ap (λ (b : Bool). nat_lt run.start other.end && b) (le-ltb other.start run.end le) ∙ and-false (nat_lt run.start other.end)
  where
    and-false : (b : Bool) → (b && false) ≡ false
    and-false true = refl
    and-false false = refl

none-left : (len at : ℕ) (strides : List ℕ) (run : Run) → at + span strides ≤ run.start → filter (shares run) (runs_behind len at strides) ≡ []
none-left len at [] run le = refl
none-left len at (stride ∷ strides) run le =
    cond-false _ _ _ (shares-left run (run_to len (at + stride)) (omega arith)) ∙ none-left len (at + stride) strides run (omega arith)

none-right : (len at : ℕ) (strides : List ℕ) (run : Run) → AllByRecursion (λ stride. len ≤ stride) strides → run.end ≤ at →
    filter (shares run) (runs_behind len at strides) ≡ []
none-right len at [] run long le = refl
none-right len at (stride ∷ strides) run long le =
    cond-false _ _ _ (shares-right run (run_to len (at + stride)) (omega (arith, long.0))) ∙ none-right len (at + stride) strides run long.1 (omega arith)

next-right : (len at : ℕ) (strides : List ℕ) (run found : Run) → AllByRecursion (λ stride. len ≤ stride) strides → slice_get (runs_behind len at strides) 0 ≡ Some found →
    run.end ≤ found.start → filter (shares run) (runs_behind len at strides) ≡ []
next-right len at [] run found long get le = refl
next-right len at (stride ∷ strides) run found long get le =
    let same : run_to len (at + stride) ≡ found = cc in
    let start : at + stride - len ≡ found.start = ap (λ (r : Run). r.start) same in
    cond-false _ _ _ (shares-right run (run_to len (at + stride)) (omega arith)) ∙ none-right len (at + stride) strides run long.1 (omega (arith, long.0))

module _ (len : ℕ) (strides : List ℕ) (run : Run) where
  -- before the first that touches nothing was found
  pub touching-start : (count end : ℕ) → IsLastBy strides run.start count end → touching run (runs_behind len 0 (take count strides)) ≡ []
  touching-start count end is =
      let ends = is.ends in
      let by_then = is.by_then in
      ap joined (none-left len 0 (take count strides) run (omega arith))

  -- one more that touches
  pub touching-next : (index end stride : ℕ) (found : Run) → take (index + 1) strides ≡ take index strides ++ stride ∷ [] → end ≡ span (take index strides) →
      found ≡ run_to len (end + stride) → run.start < found.end → found.start < run.end →
      touching run (runs_behind len 0 (take (index + 1) strides)) ≡ with_joined (touching run (runs_behind len 0 (take index strides))) found
  touching-next index end stride found next behind is left right =
      let at : 0 + span (take index strides) ≡ end = omega arith in
      let one : runs_behind len (0 + span (take index strides)) (stride ∷ []) ≡ found ∷ [] =
      ap (λ (n : ℕ). runs_behind len n (stride ∷ [])) at ∙ ap (λ (r : Run). r ∷ []) (sym is) in
      let kept : filter (shares run) (found ∷ []) ≡ found ∷ [] = cond-true _ _ _ (shares-both run found left right) in
      ap (λ (xs : List ℕ). touching run (runs_behind len 0 xs)) next ∙
      ap (λ (rs : List Run). touching run rs) (runs_behind-append len 0 (take index strides) (stride ∷ []) ∙ ap (λ (rs : List Run). runs_behind len 0 (take index strides) ++ rs) one) ∙
      ap joined (filter-append (shares run) (runs_behind len 0 (take index strides)) (found ∷ []) ∙
      ap (λ (rs : List Run). filter (shares run) (runs_behind len 0 (take index strides)) ++ rs) kept) ∙
      joined-more (filter (shares run) (runs_behind len 0 (take index strides))) found

  -- ---- where the rest touches nothing

  pub touching-all : (index : ℕ) → filter (shares run) (runs_behind len (0 + span (take index strides)) (drop index strides)) ≡ [] →
      touching run (runs_behind len 0 (take index strides)) ≡ touching run (runs_behind len 0 strides)
  touching-all index none =
      let front : List Run = runs_behind len 0 (take index strides) in
      let back : List Run = runs_behind len (0 + span (take index strides)) (drop index strides) in
      let whole : runs_behind len 0 strides ≡ front ++ back =
      ap (runs_behind len 0) (sym (take-append-drop index strides)) ∙ runs_behind-append len 0 (take index strides) (drop index strides) in
      ap joined (sym (append-nil (filter (shares run) front)) ∙ ap (λ (rs : List Run). filter (shares run) front ++ rs) (sym none) ∙
      sym (filter-append (shares run) front back)) ∙ ap (touching run) (sym whole)

pub rest-right : (len at : ℕ) (strides : List ℕ) (index : ℕ) (run found : Run) → AllByRecursion (λ stride. len ≤ stride) strides →
    slice_get (runs_behind len at strides) index ≡ Some found → run.end ≤ found.start →
    filter (shares run) (runs_behind len (at + span (take index strides)) (drop index strides)) ≡ []
rest-right len at [] index run found long get le = absurd cc
rest-right len at (stride ∷ strides) zero run found long get le =
    let same : at ≡ at + 0 = omega arith in
    ap (λ (n : ℕ). filter (shares run) (runs_behind len n (stride ∷ strides))) (sym same) ∙ next-right len at (stride ∷ strides) run found long get le
rest-right len at (stride ∷ strides) (suc index) run found long get le =
    let sum : at + stride + span (take index strides) ≡ at + (stride + span (take index strides)) = omega arith in
    ap (λ (n : ℕ). filter (shares run) (runs_behind len n (drop index strides))) (sym sum) ∙
    rest-right len (at + stride) strides index run found long.1 get le

pub rest-none : (len at : ℕ) (strides : List ℕ) (index : ℕ) (run : Run) → slice_get (runs_behind len at strides) index ≡ None →
    filter (shares run) (runs_behind len (at + span (take index strides)) (drop index strides)) ≡ []
rest-none len at [] zero run get = refl
rest-none len at [] (suc index) run get = refl
rest-none len at (stride ∷ strides) zero run get = absurd cc
rest-none len at (stride ∷ strides) (suc index) run get =
    let sum : at + stride + span (take index strides) ≡ at + (stride + span (take index strides)) = omega arith in
    ap (λ (n : ℕ). filter (shares run) (runs_behind len n (drop index strides))) (sym sum) ∙ rest-none len (at + stride) strides index run get

-- ---- one step of a walk over the matches that touch a run

stride-of : (len at : ℕ) (strides : List ℕ) (index : ℕ) (found : Run) → slice_get (runs_behind len at strides) index ≡ Some found →
    (stride : ℕ) × (slice_get strides index ≡ Some stride) × (found ≡ run_to len (at + span (take index strides) + stride)) × (index < length strides)
stride-of len at [] index found is = absurd cc
stride-of len at (stride ∷ strides) zero found is =
    let same : run_to len (at + stride) ≡ found = cc in
    let end : at + stride ≡ at + 0 + stride = omega arith in
    (stride, refl, sym same ∙ ap (run_to len) end, omega arith)
stride-of len at (stride ∷ strides) (suc index) found is =
    let rest = stride-of len (at + stride) strides index found is in
    let sum : at + stride + span (take index strides) + rest.0 ≡ at + (stride + span (take index strides)) + rest.0 = omega arith in
    (rest.0, rest.1, rest.2 ∙ ap (run_to len) sum, omega (arith, rest.3))

take-suc : (strides : List ℕ) (index stride : ℕ) → slice_get strides index ≡ Some stride → take (suc index) strides ≡ take index strides ++ stride ∷ []
take-suc [] index stride is = absurd cc
take-suc (own ∷ strides) zero stride is = let same : own ≡ stride = cc in ap (λ (n : ℕ). n ∷ []) same
take-suc (own ∷ strides) (suc index) stride is = ap (λ (xs : List ℕ). own ∷ xs) (take-suc strides index stride is)

pub record Steps (len : ℕ) (strides : List ℕ) (run : Run) (index end : ℕ) (found : Run) : Type 0 where
  pub made : touching run (runs_behind len 0 (take (index + 1) strides)) ≡ with_joined (touching run (runs_behind len 0 (take index strides))) found
  pub ends : found.end ≡ span (take (index + 1) strides)
  pub inside : index < length strides
  pub past : run.start < span (take (index + 1 + 1) strides)

pub steps : (len : ℕ) (strides : List ℕ) (run : Run) (index end : ℕ) (found : Run) → Some found ≡ slice_get (runs_behind len 0 strides) index →
    end ≡ span (take index strides) → (index < length strides → run.start < span (take (index + 1) strides)) → found.start < run.end →
    Steps len strides run index end found
steps len strides run index end found is behind past right =
    let own = stride-of len 0 strides index found (sym is) in
    let next : index + 1 ≡ suc index = omega arith in
    let left = past own.3 in
    let ends : found.end ≡ span (take (index + 1) strides) =
    omega (arith, ap (λ (r : Run). r.end) own.2, span-next strides index own.0 own.1) in
    let at : 0 + span (take index strides) + own.0 ≡ end + own.0 = omega arith in
    record {
      made =
          touching-next len strides run index end own.0 found
          (ap (λ (n : ℕ). take n strides) next ∙ take-suc strides index own.0 own.1) behind (own.2 ∙ ap (run_to len) at) (omega arith) right;
      ends = ends;
      inside = own.3;
      past = omega (arith, span-rises strides (index + 1));
    }
  where
    span-rises : (xs : List ℕ) (i : ℕ) → span (take i xs) ≤ span (take (i + 1) xs)
    span-rises xs i = omega (arith, by xs i, up-one xs i)
      where
        by : (xs : List ℕ) (i : ℕ) → span (take i xs) ≤ span (take (suc i) xs)
        by [] zero = omega arith
        by [] (suc i) = omega arith
        by (x ∷ xs) zero = omega arith
        by (x ∷ xs) (suc i) = omega (arith, by xs i)
