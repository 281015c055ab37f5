-- The runs that strides say.
use Rattle.std.proofs.Common.{◌≡◌, ◌⊎◌, inl, inr, ℕ, zero, suc, ◌+◌, ◌-◌, ◌^◌, ◌<◌, ◌≤◌, List, [], ◌∷◌, ◌++◌, length, take, drop, Option, Some, None, refl, ap, sym, ◌∙◌, arith, take-append-drop}
use Rattle.std.specs.Prelude.{min, nat_le, slice_get}
use Rattle.std.specs.List.{AllByRecursion, filter, last_or}
use Rattle.std.proofs.lemmas.Bool.{cases_lt, cond-true, cond-false, le-leb, lt-leb}
use Rattle.plain_text.specs.declared.run.Run.{Run}
use Rattle.match_index.specs.Found.{first_from, last_to}
use Rattle.match_index.specs.Strides.{runs_behind, span, span-append}
use Rattle.match_index.specs.Inner.{IsLastBy}

-- the run of this length that ends at a gap
abbrev pub run_to : ℕ → ℕ → Run
run_to len end = record { start = end - len; end = end }

pub runs_behind-append : (len gap : ℕ) (xs ys : List ℕ) → runs_behind len gap (xs ++ ys) ≡ runs_behind len gap xs ++ runs_behind len (gap + span xs) ys
runs_behind-append len gap [] ys =
    let same : gap ≡ gap + 0 = omega arith in ap (λ (n : ℕ). runs_behind len n ys) same
runs_behind-append len gap (stride ∷ xs) ys =
    let sum : gap + stride + span xs ≡ gap + (stride + span xs) = omega arith in
    ap (λ (runs : List Run). run_to len (gap + stride) ∷ runs)
    (runs_behind-append len (gap + stride) xs ys ∙ ap (λ (n : ℕ). runs_behind len (gap + stride) xs ++ runs_behind len n ys) sum)

pub length-runs : (len gap : ℕ) (strides : List ℕ) → length (runs_behind len gap strides) ≡ length strides
length-runs len gap [] = refl
length-runs len gap (stride ∷ strides) = ap (λ (n : ℕ). suc n) (length-runs len (gap + stride) strides)

pub span-parted : (strides : List ℕ) (n : ℕ) → span (take n strides) + span (drop n strides) ≡ span strides
span-parted strides n = sym (span-append (take n strides) (drop n strides)) ∙ ap span (take-append-drop n strides)

-- the strides up to one, and that one
span-suc : (strides : List ℕ) (i stride : ℕ) → slice_get strides i ≡ Some stride → span (take (suc i) strides) ≡ span (take i strides) + stride
span-suc [] i stride is = absurd cc
span-suc (own ∷ strides) zero stride is =
    let same : own ≡ stride = cc in omega arith
span-suc (own ∷ strides) (suc i) stride is = omega (arith, span-suc strides i stride is)

pub up-one : (strides : List ℕ) (i : ℕ) → span (take (i + 1) strides) ≡ span (take (suc i) strides)
up-one strides i = let same : i + 1 ≡ suc i = omega arith in ap (λ (n : ℕ). span (take n strides)) same

pub span-next : (strides : List ℕ) (i stride : ℕ) → slice_get strides i ≡ Some stride → span (take (i + 1) strides) ≡ span (take i strides) + stride
span-next strides i stride is = up-one strides i ∙ span-suc strides i stride is

-- each stride is one character at least, where matches have characters
pub few-strides : (len : ℕ) (strides : List ℕ) → 0 < len → AllByRecursion (λ stride. len ≤ stride) strides → length strides ≤ span strides
few-strides len [] some long = omega arith
few-strides len (stride ∷ strides) some long = omega (arith, long.0, few-strides len strides some long.1)

-- ---- the run with an index

pub run-at : (len gap : ℕ) (strides : List ℕ) (i stride : ℕ) → slice_get strides i ≡ Some stride →
    slice_get (runs_behind len gap strides) i ≡ Some (run_to len (gap + span (take i strides) + stride))
run-at len gap [] i stride is = absurd cc
run-at len gap (own ∷ strides) zero stride is =
    let same : own ≡ stride = cc in
    let end : gap + own ≡ gap + 0 + stride = omega arith in
    ap (λ (n : ℕ). (let one : Option Run = Some (run_to len n) in one)) end
run-at len gap (own ∷ strides) (suc i) stride is =
    let sum : gap + own + span (take i strides) + stride ≡ gap + (own + span (take i strides)) + stride = omega arith in
    run-at len (gap + own) strides i stride is ∙ ap (λ (n : ℕ). (let one : Option Run = Some (run_to len n) in one)) sum

pub no-run : (len gap : ℕ) (strides : List ℕ) (i : ℕ) → length strides ≤ i → slice_get (runs_behind len gap strides) i ≡ None
no-run len gap [] i past = refl
no-run len gap (own ∷ strides) zero past = absurd (omega arith)
no-run len gap (own ∷ strides) (suc i) past = no-run len (gap + own) strides i (omega arith)

-- ---- the first from a gap on, and the last up to one

first-behind : (len gap at : ℕ) (strides : List ℕ) (count : ℕ) → 0 < len → AllByRecursion (λ stride. len ≤ stride) strides → count ≤ length strides →
    at + span (take count strides) ≤ gap + (len - 1) → (count < length strides → gap + (len - 1) < at + span (take (suc count) strides)) →
    first_from gap (runs_behind len at strides) ≡ slice_get (runs_behind len at strides) count
first-behind len gap at [] count some long inside by_then past = refl
first-behind len gap at (stride ∷ strides) zero some long inside by_then past =
    let behind : gap + (len - 1) < at + (stride + 0) = past (omega arith) in
    cond-true _ _ _ (le-leb gap (at + stride - len) (omega arith))
first-behind len gap at (stride ∷ strides) (suc count) some long inside by_then past =
    cond-false _ _ _ (lt-leb gap (at + stride - len) (omega (arith, long.0))) ∙
    first-behind len gap (at + stride) strides count some long.1 (omega arith) (omega arith) (λ more. let behind = past (omega arith) in omega arith)

pub first-by : (len gap : ℕ) (strides : List ℕ) (count end at : ℕ) → AllByRecursion (λ stride. len ≤ stride) strides → (strides ≡ []) ⊎ (0 < len) →
    IsLastBy strides at count end → (at ≡ gap + (len - 1)) ⊎ (count ≡ length strides) → at ≤ gap + (len - 1) →
    slice_get (runs_behind len 0 strides) count ≡ first_from gap (runs_behind len 0 strides)
first-by len gap [] count end at long some is far le = refl
first-by len gap (stride ∷ strides) count end at long some is far le =
    let ends = is.ends in
    let by_then = is.by_then in
    sym (first-behind len gap 0 (stride ∷ strides) count positive long is.inside (omega arith) (λ more. elim far [
      | inl same ↦ let behind = is.past more in omega (arith, up-one (stride ∷ strides) count)
      | inr all ↦ absurd (omega arith)
    ]))
  where
    positive : 0 < len
    positive = elim some [
      | inl none ↦ absurd cc
      | inr more ↦ more
    ]

none-behind : (len gap at : ℕ) (strides : List ℕ) → gap < at → filter (λ (run : Run). nat_le run.end gap) (runs_behind len at strides) ≡ []
none-behind len gap at [] past = refl
none-behind len gap at (stride ∷ strides) past =
    cond-false _ _ _ (lt-leb (at + stride) gap (omega arith)) ∙ none-behind len gap (at + stride) strides (omega arith)

ending-by : (len gap at : ℕ) (strides : List ℕ) (count : ℕ) → count ≤ length strides → at + span (take count strides) ≤ gap →
    (count < length strides → gap < at + span (take (suc count) strides)) →
    filter (λ (run : Run). nat_le run.end gap) (runs_behind len at strides) ≡ runs_behind len at (take count strides)
ending-by len gap at [] zero inside by_then past = refl
ending-by len gap at [] (suc count) inside by_then past = refl
ending-by len gap at (stride ∷ strides) zero inside by_then past =
    let behind : gap < at + (stride + 0) = past (omega arith) in
    cond-false _ _ _ (lt-leb (at + stride) gap (omega arith)) ∙ none-behind len gap (at + stride) strides (omega arith)
ending-by len gap at (stride ∷ strides) (suc count) inside by_then past =
    cond-true _ _ _ (le-leb (at + stride) gap (omega arith)) ∙
    ap (λ (runs : List Run). run_to len (at + stride) ∷ runs)
    (ending-by len gap (at + stride) strides count (omega arith) (omega arith) (λ more. let behind = past (omega arith) in omega arith))

last-run : (len at : ℕ) (o : Option Run) (stride : ℕ) (strides : List ℕ) →
    last_or o (runs_behind len at (stride ∷ strides)) ≡ Some (run_to len (at + span (stride ∷ strides)))
last-run len at o stride [] =
    let end : at + stride ≡ at + (stride + 0) = omega arith in ap (λ (n : ℕ). (let one : Option Run = Some (run_to len n) in one)) end
last-run len at o stride (next ∷ strides) =
    let end : at + stride + span (next ∷ strides) ≡ at + (stride + span (next ∷ strides)) = omega arith in
    last-run len (at + stride) (Some (run_to len (at + stride))) next strides ∙ ap (λ (n : ℕ). (let one : Option Run = Some (run_to len n) in one)) end

last-some : (len at : ℕ) (strides : List ℕ) → 0 < length strides → last_or None (runs_behind len at strides) ≡ Some (run_to len (at + span strides))
last-some len at [] some = absurd (omega arith)
last-some len at (stride ∷ strides) some = last-run len at None stride strides

pub last-none : (len gap : ℕ) (strides : List ℕ) (count end : ℕ) → IsLastBy strides gap count end → count ≡ 0 → last_to gap (runs_behind len 0 strides) ≡ None
last-none len gap strides count end is none =
    let ends = is.ends in
    let by_then = is.by_then in
    let shown = ending-by len gap 0 strides count is.inside (omega arith) (λ more. let behind = is.past more in omega (arith, up-one strides count)) in
    ap (λ (runs : List Run). last_or None runs) (shown ∙ ap (λ (n : ℕ). runs_behind len 0 (take n strides)) none)

pub last-by : (len gap : ℕ) (strides : List ℕ) (count end : ℕ) → IsLastBy strides gap count end → 0 < count →
    last_to gap (runs_behind len 0 strides) ≡ Some (run_to len end)
last-by len gap strides count end is some =
    let ends = is.ends in
    let by_then = is.by_then in
    let inside = is.inside in
    let shown = ending-by len gap 0 strides count is.inside (omega arith) (λ more. let behind = is.past more in omega (arith, up-one strides count)) in
    let same : 0 + span (take count strides) ≡ end = omega arith in
    ap (λ (runs : List Run). last_or None runs) shown ∙ last-some len 0 (take count strides) (omega (arith, length-taken strides count inside)) ∙
    ap (λ (n : ℕ). (let one : Option Run = Some (run_to len n) in one)) same
  where
    length-taken : (xs : List ℕ) (n : ℕ) → n ≤ length xs → length (take n xs) ≡ n
    length-taken xs zero le = refl
    length-taken [] (suc n) le = absurd (omega arith)
    length-taken (x ∷ xs) (suc n) le = ap (λ (k : ℕ). suc k) (length-taken xs n (omega arith))

-- ---- the run behind others

pub long-at : (len : ℕ) (strides : List ℕ) (i stride : ℕ) → AllByRecursion (λ own. len ≤ own) strides → slice_get strides i ≡ Some stride → len ≤ stride
long-at len [] i stride long is = absurd cc
long-at len (own ∷ strides) zero stride long is = let same : own ≡ stride = cc in omega (arith, long.0)
long-at len (own ∷ strides) (suc i) stride long is = long-at len strides i stride long.1 is

pub span-within : (strides : List ℕ) (i : ℕ) → span (take i strides) ≤ span strides
span-within strides i = omega (arith, span-parted strides i)

pub end-within : (strides : List ℕ) (i stride : ℕ) → slice_get strides i ≡ Some stride → span (take i strides) + stride ≤ span strides
end-within strides i stride is = omega (arith, span-next strides i stride is, span-within strides (i + 1))

pub run-behind : (len : ℕ) (strides : List ℕ) (i end stride : ℕ) → end ≡ span (take i strides) → slice_get strides i ≡ Some stride →
    Some (run_to len (end + stride)) ≡ slice_get (runs_behind len 0 strides) i
run-behind len strides i end stride behind is =
    let same : end + stride ≡ 0 + span (take i strides) + stride = omega arith in
    ap (λ (n : ℕ). (let one : Option Run = Some (run_to len n) in one)) same ∙ sym (run-at len 0 strides i stride is)

-- the first so many are as long as one, where there is one
pub end-long : (len : ℕ) (strides : List ℕ) (count : ℕ) → AllByRecursion (λ stride. len ≤ stride) strides → 0 < count → count ≤ length strides →
    len ≤ span (take count strides)
end-long len strides zero long some inside = absurd (omega arith)
end-long len [] (suc count) long some inside = absurd (omega arith)
end-long len (stride ∷ strides) (suc count) long some inside = omega (arith, long.0)

-- where a gap is cut at the greatest number, all strides end by it
pub all-counted : (sum : ℕ) (strides : List ℕ) (count end at : ℕ) → IsLastBy strides at count end → span strides < 2 ^ 64 → at ≡ min sum (2 ^ 64 - 1) →
    (at ≡ sum) ⊎ (count ≡ length strides)
all-counted sum strides count end at is small cut =
    let inside = is.inside in
    elim (cases_lt sum (2 ^ 64)) [
      | inl less ↦ inl (omega arith)
      | inr past ↦ inr (elim (cases_lt count (length strides)) [
        | inl more ↦
            let behind = is.past more in absurd (omega (arith, span-within strides (count + 1)))
        | inr all ↦ omega arith
      ])
    ]
