-- Where an edit takes a gap: the count over its runs and additions, and that it rises with the gap.
use Rattle.std.proofs.Common.{◌≡◌, ℕ, zero, suc, true, false, Bool, ◌+◌, ◌-◌, ◌<◌, ◌≤◌, List, [], ◌∷◌, ◌++◌, length, get_or, drop, map, cond, append_assoc, length-append, refl, ap, sym, subst, ◌∙◌, arith, ⊎_elim}
use Rattle.std.specs.Prelude.{min, max, ◌||◌, ◌&&◌, nat_lt, nat_le, ◌==◌, if◌then◌else◌}
use Rattle.std.specs.List.{count_by, sum_by, range_with_len}
use Rattle.std.proofs.lemmas.List.{drop_all}
use Rattle.std.proofs.lemmas.Bool.{ltb-true, ltb-false, lt-ltb, le-ltb, le-leb, lt-leb, eq-eqb, ne_eqb, and_parts, cases_lt, cases_eq, cond_both}
use Rattle.std.proofs.lemmas.List.Sums.{sum_by-cons, count_by-le-length}
use Rattle.std.proofs.lemmas.List.FromFn.{length-range_with_len}
use Rattle.std.proofs.lemmas.List.Concat.{flat_map-cons}
use Rattle.plain_text.specs.declared.selection.Region.{Region}
use Rattle.plain_text.specs.declared.run.Run.{Run}
use Rattle.plain_edits.specs.declared.delta.Added.{Added}
use Rattle.plain_edits.specs.declared.delta.UnitDelta.{UnitDelta}
use Rattle.plain_edits.specs.Delta.{is_in_runs, text_at_gap}
use Rattle.plain_edits.specs.UnitDelta.{AreAdds, AreRuns, IsUnitDelta, unit_keeps, unit_adds}
use Rattle.selection_core.specs.Selection.{lesser_end, greater_end, AreRightOf, IsSelection, merged_regions}
use Rattle.selection_core.specs.Mapped.{AreWithin, new_gap, mapped_region, mapped_regions, length_after}
use Rattle.selection_core.specs.declared.gap_walk.Passed.{Passed}
use Rattle.selection_core.specs.declared.gap_walk.GapWalk.{GapWalk}
use Rattle.selection_core.specs.Inner.{gaps_left, part_left, kept_left, EndsPast, GoesFrom, HasPassedRuns, HasPassedAdds, IsWalked}
use Rattle.selection_core.proofs.MergeLemmas.{AreInOrder, IsSelection-merged_regions, drop-next, drop-item}

-- ---- sums over the first numbers

sum_by-rise : (f : ℕ → ℕ) (from x y : ℕ) → x ≤ y → sum_by f (range_with_len from x) ≤ sum_by f (range_with_len from y)
sum_by-rise f from zero y below = omega arith
sum_by-rise f from (suc x) zero below = absurd (omega arith)
sum_by-rise f from (suc x) (suc y) below =
    omega
    (arith, sum_by-cons f from (range_with_len (from + 1) x), sum_by-cons f from (range_with_len (from + 1) y), sum_by-rise f (from + 1) x y (omega arith))

sum_by-plus : (f g h : ℕ → ℕ) → ((x : ℕ) → h x ≡ f x + g x) → (xs : List ℕ) → sum_by h xs ≡ sum_by f xs + sum_by g xs
sum_by-plus f g h each [] = omega arith
sum_by-plus f g h each (x ∷ xs) = omega (arith, sum_by-cons f x xs, sum_by-cons g x xs, sum_by-cons h x xs, each x, sum_by-plus f g h each xs)

sum_by-nothing : (f : ℕ → ℕ) → ((x : ℕ) → f x ≡ 0) → (xs : List ℕ) → sum_by f xs ≡ 0
sum_by-nothing f each [] = refl
sum_by-nothing f each (x ∷ xs) = omega (arith, sum_by-cons f x xs, each x, sum_by-nothing f each xs)

-- ---- the runs

AreRuns-weaker : (base low from : ℕ) (runs : List Run) → low ≤ from → AreRuns base from runs → AreRuns base low runs
AreRuns-weaker base low from [] below rise = omega (arith, rise)
AreRuns-weaker base low from (run ∷ runs) below rise = (omega (arith, rise.0), rise.1, rise.2)

is_in_runs-before : (base from : ℕ) (runs : List Run) → AreRuns base from runs → (index : ℕ) → index < from → is_in_runs runs index ≡ false
is_in_runs-before base from [] rise index below = refl
is_in_runs-before base from (run ∷ runs) rise index below =
    rw (lt-leb run.start index (omega (arith, rise.0))) (is_in_runs-before base run.end runs rise.2 index (omega (arith, rise.0, rise.1)))

one_more : (start end index : ℕ) → start ≤ end →
    cond (nat_le start index && nat_lt index end) 1 0 + (min end index + min start (index + 1)) ≡ min end (index + 1) + min start index
one_more start end index rises =
    ⊎_elim
    (λ (left : index < start). rw (lt-leb start index left) (omega arith))
    (λ (reached : start ≤ index).
    ⊎_elim
    (λ (within : index < end). rw (le-leb start index reached, lt-ltb index end within) (omega arith))
    (λ (past : end ≤ index). rw (le-leb start index reached, le-ltb index end past) (omega arith))
    (cases_lt index end))
    (cases_lt index start)

run_count : (start end from n : ℕ) → start ≤ end →
    count_by (λ index. nat_le start index && nat_lt index end) (range_with_len from n) + (min end from + min start (from + n)) ≡
    min end (from + n) + min start from
run_count start end from zero rises = omega arith
run_count start end from (suc n) rises =
    let e : from + 1 + n ≡ from + suc n = omega arith in
    let more = run_count start end (from + 1) n rises in
    let cons = sum_by-cons (λ index. cond (nat_le start index && nat_lt index end) 1 0) from (range_with_len (from + 1) n) in
    let one = one_more start end from rises in
    omega (arith, cons, one, ap (λ k. min end k) e, ap (λ k. min start k) e, more)

count_by-either : (p q : ℕ → Bool) → ((x : ℕ) → p x ≡ true → q x ≡ false) → (xs : List ℕ) → count_by (λ x. p x || q x) xs ≡ count_by p xs + count_by q xs
count_by-either p q apart =
    sum_by-plus (λ x. cond (p x) 1 0) (λ x. cond (q x) 1 0) (λ x. cond (p x || q x) 1 0) (λ x. each (p x) (q x) (apart x))
  where
    each : (a b : Bool) → (a ≡ true → b ≡ false) → cond (a || b) 1 0 ≡ cond a 1 0 + cond b 1 0
    each true b apart_here = rw (apart_here refl) refl
    each false b apart_here = omega arith

kept_count : (base from : ℕ) (run : Run) (runs : List Run) (gap : ℕ) → AreRuns base from (run ∷ runs) →
    count_by (is_in_runs (run ∷ runs)) (range_with_len 0 gap) + min run.start gap ≡ min run.end gap + count_by (is_in_runs runs) (range_with_len 0 gap)
kept_count base from run runs gap rise =
    let p : ℕ → Bool = λ index. nat_le run.start index && nat_lt index run.end in
    let both : count_by (is_in_runs (run ∷ runs)) (range_with_len 0 gap) ≡ count_by p (range_with_len 0 gap) + count_by (is_in_runs runs) (range_with_len 0 gap) =
    count_by-either p (is_in_runs runs)
    (λ index is. is_in_runs-before base run.end runs rise.2 index (ltb-true index run.end (and_parts (nat_le run.start index) (nat_lt index run.end) is).1))
    (range_with_len 0 gap) in
    let one : count_by p (range_with_len 0 gap) + (min run.end 0 + min run.start (0 + gap)) ≡ min run.end (0 + gap) + min run.start 0 =
    run_count run.start run.end 0 gap rise.1 in
    omega (arith, both, one)

-- runs from a gap on keep nothing left of it
none_before : (base from : ℕ) (runs : List Run) → AreRuns base from runs → (gap : ℕ) → gap ≤ from →
    count_by (is_in_runs runs) (range_with_len 0 gap) ≡ 0
none_before base from runs rise gap before = below 0 gap (omega arith)
  where
    below : (low n : ℕ) → low + n ≤ from → count_by (is_in_runs runs) (range_with_len low n) ≡ 0
    below low zero inside = refl
    below low (suc n) inside =
        let not : 0 + cond (is_in_runs runs low) 1 0 ≡ 0 = rw (is_in_runs-before base from runs rise low (omega arith)) refl in
        omega
        (arith, sum_by-cons (λ index. cond (is_in_runs runs index) 1 0) low (range_with_len (low + 1) n), not, below (low + 1) n (omega arith))

pub HasPassedRuns-start : (units : UnitDelta) (gap : ℕ) (passed : Passed) → IsUnitDelta units → passed.parts ≡ 0 → passed.count ≡ 0 →
    HasPassedRuns units gap passed
HasPassedRuns-start units gap passed good first none =
    record { count = λ to right. rw first (omega (arith, none)); ahead = rw first good.runs }

pub HasPassedRuns-later : (units : UnitDelta) (gap to : ℕ) (passed : Passed) → gap ≤ to → HasPassedRuns units gap passed → HasPassedRuns units to passed
HasPassedRuns-later units gap to passed right walked =
    record { count = λ far more. walked.count far (omega arith); ahead = walked.ahead }

-- the run that is next, where it ends by the gap, is left behind
pub HasPassedRuns-next : (units : UnitDelta) (items : List Run) (gap parts count : ℕ) (d : Run) → items ≡ units.kept → parts < length items →
    (get_or items parts d).end ≤ gap → HasPassedRuns units gap (record { parts = parts; count = count }) →
    ((get_or items parts d).start ≤ (get_or items parts d).end) ×
    HasPassedRuns units gap (record { parts = parts + 1; count = count + ((get_or items parts d).end - (get_or items parts d).start) })
HasPassedRuns-next units items gap parts count d same inside ends walked =
    let run : Run = get_or items parts d in
    let more : List Run = drop (parts + 1) units.kept in
    let is : drop parts units.kept ≡ run ∷ more = rw (sym same) (drop-next items parts d inside) in
    let rise : AreRuns units.base 0 (run ∷ more) = subst (λ rest. AreRuns units.base 0 rest) is walked.ahead in (
      rise.1,
      record {
        count = λ to right.
            let before : count + count_by (is_in_runs (run ∷ more)) (range_with_len 0 to) ≡ kept_left units to =
            subst (λ rest. count + count_by (is_in_runs rest) (range_with_len 0 to) ≡ kept_left units to) is (walked.count to right) in
            omega (arith, kept_count units.base 0 run more to rise, before, rise.1);
        ahead = AreRuns-weaker units.base 0 run.end more (omega arith) rise.2;
      },
    )

pub HasPassedRuns-bound : (units : UnitDelta) (gap : ℕ) (passed : Passed) → HasPassedRuns units gap passed → passed.count ≤ gap
HasPassedRuns-bound units gap passed walked =
    omega (arith, walked.count gap (omega arith), count_by-le-length (unit_keeps units) (range_with_len 0 gap), length-range_with_len 0 gap)

pub kept_left-bound : (units : UnitDelta) (gap : ℕ) → kept_left units gap ≤ gap
kept_left-bound units gap = omega (arith, count_by-le-length (unit_keeps units) (range_with_len 0 gap), length-range_with_len 0 gap)

pub EndsPast-from : (gap : ℕ) (items runs : List Run) (parts : ℕ) (d : Run) → items ≡ runs → (parts < length items → gap < (get_or items parts d).end) →
    EndsPast gap (drop parts runs)
EndsPast-from gap items runs parts d same = rw (sym same) (by items parts)
  where
    by : (runs : List Run) (parts : ℕ) → (parts < length runs → gap < (get_or runs parts d).end) → EndsPast gap (drop parts runs)
    by [] zero past = tt
    by [] (suc parts) past = tt
    by (run ∷ runs) zero past = past (omega arith)
    by (run ∷ runs) (suc parts) past = by runs parts (λ inside. past (omega arith))

-- what is kept left of the gap, where no run is left, and where one is
pub kept_left-none : (units : UnitDelta) (items : List Run) (gap : ℕ) (passed : Passed) → items ≡ units.kept → HasPassedRuns units gap passed →
    length items ≤ passed.parts → passed.count ≡ kept_left units gap
kept_left-none units items gap passed same walked past =
    let none : drop passed.parts units.kept ≡ [] = rw (sym same) (drop_all passed.parts items (omega arith)) in
    let all : passed.count + count_by (is_in_runs []) (range_with_len 0 gap) ≡ kept_left units gap =
    subst (λ rest. passed.count + count_by (is_in_runs rest) (range_with_len 0 gap) ≡ kept_left units gap) none (walked.count gap (omega arith)) in
    omega (arith, all, sum_by-nothing (λ index. cond (is_in_runs [] index) 1 0) (λ index. refl) (range_with_len 0 gap))

pub kept_left-some : (units : UnitDelta) (items : List Run) (gap start : ℕ) (passed : Passed) (d : Run) → items ≡ units.kept →
    HasPassedRuns units gap passed → EndsPast gap (drop passed.parts units.kept) → passed.parts < length items →
    start ≡ min (get_or items passed.parts d).start gap → passed.count + (gap - start) ≡ kept_left units gap
kept_left-some units items gap start passed d same walked past inside starts =
    let run : Run = get_or items passed.parts d in
    let more : List Run = drop (passed.parts + 1) units.kept in
    let is : drop passed.parts units.kept ≡ run ∷ more = rw (sym same) (drop-next items passed.parts d inside) in
    let all : passed.count + count_by (is_in_runs (run ∷ more)) (range_with_len 0 gap) ≡ kept_left units gap =
    subst (λ rest. passed.count + count_by (is_in_runs rest) (range_with_len 0 gap) ≡ kept_left units gap) is (walked.count gap (omega arith)) in
    let rise : AreRuns units.base 0 (run ∷ more) = subst (λ rest. AreRuns units.base 0 rest) is walked.ahead in
    let ends : gap < run.end = subst (λ rest. EndsPast gap rest) is past in
    omega (arith, starts, all, kept_count units.base 0 run more gap rise, none_before units.base run.end more rise.2 gap (omega arith))

-- ---- the additions

at_none : (gap : ℕ) (text : List ℕ) (from n : ℕ) → gap < from → sum_by (λ left. length (if gap == left then text else [])) (range_with_len from n) ≡ 0
at_none gap text from zero past = refl
at_none gap text from (suc n) past =
    let miss : length (if gap == from then text else []) ≡ 0 = rw (ne_eqb gap from (λ same. omega (arith, same))) refl in
    omega
    (arith, sum_by-cons (λ left. length (if gap == left then text else [])) from (range_with_len (from + 1) n), miss, at_none gap text (from + 1) n (omega arith))

at_later : (gap : ℕ) (text : List ℕ) (from n : ℕ) → from + n ≤ gap → sum_by (λ left. length (if gap == left then text else [])) (range_with_len from n) ≡ 0
at_later gap text from zero ahead = refl
at_later gap text from (suc n) ahead =
    let miss : length (if gap == from then text else []) ≡ 0 = rw (ne_eqb gap from (λ same. omega (arith, same))) refl in
    omega
    (arith, sum_by-cons (λ left. length (if gap == left then text else [])) from (range_with_len (from + 1) n), miss, at_later gap text (from + 1) n (omega arith))

at_one : (gap : ℕ) (text : List ℕ) (from n : ℕ) → from ≤ gap → gap < from + n →
    sum_by (λ left. length (if gap == left then text else [])) (range_with_len from n) ≡ length text
at_one gap text from zero reached within = absurd (omega arith)
at_one gap text from (suc n) reached within =
    let cons = sum_by-cons (λ left. length (if gap == left then text else [])) from (range_with_len (from + 1) n) in
    ⊎_elim
    (λ (same : gap ≡ from).
    let hit : length (if gap == from then text else []) ≡ length text = rw (eq-eqb gap from same) refl in
    omega (arith, cons, hit, at_none gap text (from + 1) n (omega (arith, same))))
    (λ (differ : gap ≡ from → ⊥).
    let miss : length (if gap == from then text else []) ≡ 0 = rw (ne_eqb gap from differ) refl in
    omega (arith, cons, miss, at_one gap text (from + 1) n (strict differ) (omega arith)))
    (cases_eq gap from)
  where
    strict : (gap ≡ from → ⊥) → from + 1 ≤ gap
    strict differ = ⊎_elim (λ (more : from < gap). omega arith) (λ (less : gap ≤ from). absurd (differ (omega arith))) (cases_lt from gap)

at_part : (added : Added) (gaps : ℕ) → sum_by (λ left. length (if added.gap == left then added.text else [])) (range_with_len 0 gaps) ≡ part_left gaps added
at_part added gaps =
    cond_both (nat_lt added.gap gaps) (length added.text) 0
    (λ n. sum_by (λ left. length (if added.gap == left then added.text else [])) (range_with_len 0 gaps) ≡ n)
    (λ inside. at_one added.gap added.text 0 gaps (omega arith) (let below = ltb-true added.gap gaps inside in omega (arith, below)))
    (λ outside. at_later added.gap added.text 0 gaps (let past = ltb-false added.gap gaps outside in omega (arith, past)))

parts_left : (gaps : ℕ) (adds : List Added) → sum_by (λ left. length (text_at_gap adds left)) (range_with_len 0 gaps) ≡ sum_by (part_left gaps) adds
parts_left gaps [] = sum_by-nothing (λ left. length (text_at_gap [] left)) (λ left. refl) (range_with_len 0 gaps)
parts_left gaps (added ∷ adds) =
    let both =
    sum_by-plus (λ left. length (if added.gap == left then added.text else [])) (λ left. length (text_at_gap adds left))
    (λ left. length (text_at_gap (added ∷ adds) left))
    (λ left. ap length (flat_map-cons (λ (a : Added). if a.gap == left then a.text else []) added adds) ∙
    length-append (if added.gap == left then added.text else []) (text_at_gap adds left))
    (range_with_len 0 gaps) in
    omega (arith, both, at_part added gaps, sum_by-cons (part_left gaps) added adds, parts_left gaps adds)

added_bound : (units : UnitDelta) (after : Bool) (gap : ℕ) → gap ≤ units.base →
    sum_by (λ left. length (unit_adds units left)) (range_with_len 0 (gaps_left after gap)) ≤
    sum_by (λ left. length (unit_adds units left)) (range_with_len 0 (units.base + 1))
added_bound units true gap within = sum_by-rise (λ left. length (unit_adds units left)) 0 gap (units.base + 1) (omega arith)
added_bound units false gap within = sum_by-rise (λ left. length (unit_adds units left)) 0 (gap + 1) (units.base + 1) (omega arith)

AreAdds-weaker : (base low from : ℕ) (adds : List Added) → low ≤ from → AreAdds base from adds → AreAdds base low adds
AreAdds-weaker base low from [] below rise = tt
AreAdds-weaker base low from (added ∷ adds) below rise = (omega (arith, rise.0), rise.1, rise.2, rise.3)

-- additions at a gap and right of it put nothing into the gaps left of it
none_left : (base from : ℕ) (adds : List Added) → AreAdds base from adds → (gaps : ℕ) → gaps ≤ from → sum_by (part_left gaps) adds ≡ 0
none_left base from [] rise gaps before = refl
none_left base from (added ∷ adds) rise gaps before =
    let not : part_left gaps added ≡ 0 = rw (le-ltb added.gap gaps (omega (arith, rise.0))) refl in
    omega (arith, sum_by-cons (part_left gaps) added adds, not, none_left base (added.gap + 1) adds rise.3 gaps (omega (arith, rise.0)))

pub HasPassedAdds-start : (units : UnitDelta) (gaps : ℕ) (passed : Passed) → IsUnitDelta units → passed.parts ≡ 0 → passed.count ≡ 0 →
    HasPassedAdds units gaps passed
HasPassedAdds-start units gaps passed good first none =
    record { count = λ to right. rw first (omega (arith, none)); ahead = rw first good.adds }

pub HasPassedAdds-later : (units : UnitDelta) (gaps to : ℕ) (passed : Passed) → gaps ≤ to → HasPassedAdds units gaps passed → HasPassedAdds units to passed
HasPassedAdds-later units gaps to passed right walked =
    record { count = λ far more. walked.count far (omega arith); ahead = walked.ahead }

-- the addition that is next, where it goes into the first gaps, is left behind
pub HasPassedAdds-next : (units : UnitDelta) (items : List Added) (gaps parts count n : ℕ) (first added : Added) → items ≡ units.added →
    parts < length items → first ≡ get_or items parts first → added ≡ get_or items parts added → nat_lt first.gap gaps ≡ true →
    n ≡ length (get_or items parts added).text → HasPassedAdds units gaps (record { parts = parts; count = count }) →
    HasPassedAdds units gaps (record { parts = parts + 1; count = count + n })
HasPassedAdds-next units items gaps parts count n first added same inside one other left counts walked =
    let so_many : n ≡ length added.text = counts ∙ ap (λ item. length item.text) (sym other) in
    let more : List Added = drop (parts + 1) units.added in
    let is : drop parts units.added ≡ added ∷ more = rw (sym same) (drop-item items parts added inside other) in
    let alike : first ≡ added = one ∙ same_item items parts first added inside ∙ sym other in
    let below = ltb-true added.gap gaps (subst (λ item. nat_lt item.gap gaps ≡ true) alike left) in
    let rise : AreAdds units.base 0 (added ∷ more) = subst (λ rest. AreAdds units.base 0 rest) is walked.ahead in
    record {
      count = λ to right.
          let before : count + sum_by (part_left to) (added ∷ more) ≡ sum_by (part_left to) units.added =
          subst (λ rest. count + sum_by (part_left to) rest ≡ sum_by (part_left to) units.added) is (walked.count to right) in
          let part : part_left to added ≡ length added.text = rw (lt-ltb added.gap to (omega (arith, below, right))) refl in
          omega (arith, sum_by-cons (part_left to) added more, before, part, so_many);
      ahead = AreAdds-weaker units.base 0 (added.gap + 1) more (omega arith) rise.3;
    }
  where
    same_item : (items : List Added) (i : ℕ) (d e : Added) → i < length items → get_or items i d ≡ get_or items i e
    same_item [] i d e inside_none = absurd (omega arith)
    same_item (item ∷ items) zero d e inside_here = refl
    same_item (item ∷ items) (suc i) d e inside_rest = same_item items i d e (omega arith)

pub HasPassedAdds-bound : (units : UnitDelta) (gaps : ℕ) (passed : Passed) → HasPassedAdds units gaps passed → passed.count ≤ sum_by (part_left gaps) units.added
HasPassedAdds-bound units gaps passed walked = omega (arith, walked.count gaps (omega arith))

pub GoesFrom-from : (gaps : ℕ) (items adds : List Added) (parts : ℕ) (first : Added) → items ≡ adds → first ≡ get_or items parts first → gaps ≤ first.gap →
    parts < length items → GoesFrom gaps (drop parts adds)
GoesFrom-from gaps items adds parts first same is from inside =
    rw (sym same) (subst (λ rest. GoesFrom gaps rest) (sym (drop-item items parts first inside is)) from)

pub GoesFrom-none : (gaps : ℕ) (items adds : List Added) (parts : ℕ) → items ≡ adds → length items ≤ parts → GoesFrom gaps (drop parts adds)
GoesFrom-none gaps items adds parts same past = rw (sym same, drop_all parts items past) tt

-- what is added left of a caret, where the next addition does not go left of it
pub added-all : (units : UnitDelta) (gaps : ℕ) (passed : Passed) → HasPassedAdds units gaps passed → GoesFrom gaps (drop passed.parts units.added) →
    passed.count ≡ sum_by (λ left. length (unit_adds units left)) (range_with_len 0 gaps)
added-all units gaps passed walked from =
    omega (arith, walked.count gaps (omega arith), none (drop passed.parts units.added) from walked.ahead, parts_left gaps units.added)
  where
    none : (adds : List Added) → GoesFrom gaps adds → AreAdds units.base 0 adds → sum_by (part_left gaps) adds ≡ 0
    none [] from_here rise = refl
    none (added ∷ adds) from_here rise = none_left units.base added.gap (added ∷ adds) (omega arith, rise.1, rise.2, rise.3) gaps from_here

-- additions put no more into the first gaps than fits the text after them
pub parts_left-bound : (units : UnitDelta) (after : Bool) (gap : ℕ) → gap ≤ units.base →
    sum_by (part_left (gaps_left after gap)) units.added ≤ length_after units
parts_left-bound units after gap within = omega (arith, parts_left (gaps_left after gap) units.added, added_bound units after gap within)

-- ---- both

gaps_left-rise : (after : Bool) (gap to : ℕ) → gap ≤ to → gaps_left after gap ≤ gaps_left after to
gaps_left-rise true gap to right = right
gaps_left-rise false gap to right = omega arith

pub IsWalked-later : (units : UnitDelta) (after : Bool) (gap to : ℕ) (walk : GapWalk) → gap ≤ to → IsWalked units after gap walk → IsWalked units after to walk
IsWalked-later units after gap to walk right walked = record {
  kept = HasPassedRuns-later units gap to walk.kept right walked.kept;
  added = HasPassedAdds-later units (gaps_left after gap) (gaps_left after to) walk.added (gaps_left-rise after gap to right) walked.added;
}

-- a walk goes on to the first of regions, where there is one
abbrev pub IsReadyFor : UnitDelta → Bool → GapWalk → List Region → Type 0
IsReadyFor units after walk [] = Unit {0}
IsReadyFor units after walk (region ∷ regions) = IsWalked units after (lesser_end region) walk

pub IsReadyFor-start : (units : UnitDelta) (after : Bool) (walk : GapWalk) (regions : List Region) → IsWalked units after 0 walk → IsReadyFor units after walk regions
IsReadyFor-start units after walk [] walked = tt
IsReadyFor-start units after walk (region ∷ regions) walked = IsWalked-later units after 0 (lesser_end region) walk (omega arith) walked

-- what stands of the regions that are left, and of the walk
pub record IsMapping (units : UnitDelta) (after : Bool) (walk : GapWalk) (rest : List Region) : Type 0 where
  pub sound : IsSelection rest
  pub within : AreWithin units.base rest
  pub ready : IsReadyFor units after walk rest

pub IsMapping-next : (units : UnitDelta) (after : Bool) (walk next : GapWalk) (region : Region) (rest more : List Region) → IsMapping units after walk rest →
    rest ≡ region ∷ more → IsWalked units after (greater_end region) next → IsMapping units after next more
IsMapping-next units after walk next region rest more mapping is walked = by more (rw (sym is) mapping)
  where
    by : (more : List Region) → IsMapping units after walk (region ∷ more) → IsMapping units after next more
    by [] here = record { sound = tt; within = tt; ready = tt }
    by (second ∷ others) here = record {
      sound = here.sound.2;
      within = here.within.1;
      ready = IsWalked-later units after (greater_end region) (lesser_end second) next here.sound.0 walked;
    }

-- the region that is next is mapped
pub mapped-next : (f : Region → Region) (list next regions : List Region) (i : ℕ) (made d : Region) → i < length regions →
    list ++ map f (drop i regions) ≡ map f regions → next ≡ list ++ made ∷ [] → made ≡ f (get_or regions i d) →
    next ++ map f (drop (i + 1) regions) ≡ map f regions
mapped-next f list next regions i made d inside so_far pushed is =
    ap (λ start. start ++ map f (drop (i + 1) regions)) pushed ∙ append_assoc list (made ∷ []) (map f (drop (i + 1) regions)) ∙
    ap (λ region. list ++ region ∷ map f (drop (i + 1) regions)) is ∙ ap (λ rest. list ++ map f rest) (sym (drop-next regions i d inside)) ∙ so_far

-- ---- the gap, and the regions

pub new_gap-bound : (units : UnitDelta) (after : Bool) (gap : ℕ) → gap ≤ units.base → new_gap units after gap ≤ length_after units
new_gap-bound units after gap within =
    omega (arith, sum_by-rise (λ index. cond (unit_keeps units index) 1 0) 0 gap units.base within, added_bound units after gap within)

new_gap-rise : (units : UnitDelta) (after : Bool) (x y : ℕ) → x ≤ y → new_gap units after x ≤ new_gap units after y
new_gap-rise units true x y below =
    omega
    (arith, sum_by-rise (λ index. cond (unit_keeps units index) 1 0) 0 x y below, sum_by-rise (λ left. length (unit_adds units left)) 0 x y below)
new_gap-rise units false x y below =
    omega
    (arith, sum_by-rise (λ index. cond (unit_keeps units index) 1 0) 0 x y below, sum_by-rise (λ left. length (unit_adds units left)) 0 (x + 1) (y + 1) (omega arith))

lesser_end-mapped : (g : ℕ → ℕ) → ((x y : ℕ) → x ≤ y → g x ≤ g y) → (a b c d : ℕ) → max a b ≤ min c d → min (g a) (g b) ≤ min (g c) (g d)
lesser_end-mapped g rise a b c d order = omega (arith, rise a c (omega arith), rise a d (omega arith))

AreInOrder-mapped : (units : UnitDelta) (after : Bool) (last : Region) (regions : List Region) → AreRightOf last regions →
    AreInOrder (lesser_end (mapped_region units after last)) (map (mapped_region units after) regions)
AreInOrder-mapped units after last [] right = tt
AreInOrder-mapped units after last (region ∷ regions) right = (
  lesser_end-mapped (new_gap units after) (new_gap-rise units after) last.anchor last.caret region.anchor region.caret right.0,
  AreInOrder-mapped units after region regions right.2,
)

IsSelection-mapped : (units : UnitDelta) (after : Bool) (regions : List Region) → IsSelection regions → IsSelection (mapped_regions units after regions)
IsSelection-mapped units after [] sound = tt
IsSelection-mapped units after (region ∷ regions) sound =
    IsSelection-merged_regions 0 (map (mapped_region units after) (region ∷ regions)) (omega arith, AreInOrder-mapped units after region regions sound)

pub IsSelection-moved : (units : UnitDelta) (after : Bool) (old seen list listed new : List Region) → new ≡ merged_regions listed → listed ≡ list →
    list ≡ map (mapped_region units after) seen → seen ≡ old → IsSelection old → IsSelection new
IsSelection-moved units after old seen list listed new is again here same sound = rw (is, again, here, same) (IsSelection-mapped units after old sound)
