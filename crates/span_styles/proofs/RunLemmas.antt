-- Lemmas on the runs of a layer.
use Rattle.std.proofs.Common.{◌≡◌, ◌≢◌, inl, inr, ℕ, zero, suc, ◌+◌, ◌-◌, ◌^◌, ◌<◌, ◌≤◌, true, false, leb, List, [], ◌∷◌, ◌++◌, length, drop, get_or, replicate, Option, Some, slice_get, refl, ap, sym, subst, ◌∙◌, arith, append_assoc, append-nil, length-append, length-drop}
use Rattle.std.specs.List.Sorted.{IsNonDecreasingBy, IsPartitionPoint}
use Rattle.std.proofs.lemmas.Bool.Decides.{nat_tests}
use Rattle.std.proofs.lemmas.List.{replicate-append-replicate, drop-replicate, length-replicate, drop-append-le}
use Rattle.std.proofs.Math.Seq.{drop-append-add}
use Rattle.span_styles.specs.declared.run.StyleRun.{StyleRun}
use Rattle.span_styles.specs.Inner.{layer_of, AreStyleRuns, BeginsOtherwise, IsRestAt, IsAhead, LosesLast}

-- where the last of the runs ends
abbrev pub end_of : ℕ → List StyleRun → ℕ
end_of from [] = from
end_of from (run ∷ runs) = end_of run.end runs

pub length-layer_of : (from : ℕ) (runs : List StyleRun) → AreStyleRuns from runs → from + length (layer_of from runs) ≡ end_of from runs
length-layer_of from [] are = omega arith
length-layer_of from (run ∷ runs) are =
    let ahead : from < run.end = are.0 in
    omega (arith, length-layer_of run.end runs are.2, length-append (replicate (run.end - from) run.style) (layer_of run.end runs), length-replicate (run.end - from) run.style)

pub end_of-push : (from : ℕ) (runs : List StyleRun) (run : StyleRun) → end_of from (runs ++ run ∷ []) ≡ run.end
end_of-push from [] run = refl
end_of-push from (first ∷ runs) run = end_of-push first.end runs run

pub layer_of-push : (from : ℕ) (runs : List StyleRun) (run : StyleRun) →
    layer_of from (runs ++ run ∷ []) ≡ layer_of from runs ++ replicate (run.end - end_of from runs) run.style
layer_of-push from [] run = append-nil (replicate (run.end - from) run.style)
layer_of-push from (first ∷ runs) run =
    ap (λ layer. replicate (first.end - from) first.style ++ layer) (layer_of-push first.end runs run) ∙
    sym (append_assoc (replicate (first.end - from) first.style) (layer_of first.end runs) (replicate (run.end - end_of first.end runs) run.style))

pub end_of-ahead : (from : ℕ) (runs : List StyleRun) → AreStyleRuns from runs → from ≤ end_of from runs
end_of-ahead from runs are = omega (arith, length-layer_of from runs are)

-- ---- one run more

-- the last run has another style
abbrev EndsOtherwise : Option ℕ → List StyleRun → Type 0
EndsOtherwise style runs = (front : List StyleRun) (run : StyleRun) → runs ≡ front ++ run ∷ [] → run.style ≢ style

EndsOtherwise-rest : (style : Option ℕ) (run : StyleRun) (runs : List StyleRun) → EndsOtherwise style (run ∷ runs) → EndsOtherwise style runs
EndsOtherwise-rest style run runs otherwise = λ front last is. otherwise (run ∷ front) last (ap (λ rs. run ∷ rs) is)

begins_with : (style : Option ℕ) (runs : List StyleRun) (run : StyleRun) → BeginsOtherwise style runs → (runs ≡ [] → style ≢ run.style) →
    BeginsOtherwise style (runs ++ run ∷ [])
begins_with style [] run first only = only refl
begins_with style (next ∷ runs) run first only = first

pub AreStyleRuns-push : (from : ℕ) (runs : List StyleRun) (run : StyleRun) → AreStyleRuns from runs → end_of from runs < run.end → EndsOtherwise run.style runs →
    AreStyleRuns from (runs ++ run ∷ [])
AreStyleRuns-push from [] run are ahead otherwise = (ahead, tt, tt)
AreStyleRuns-push from (first ∷ runs) run are ahead otherwise = (
  are.0,
  begins_with first.style runs run are.1 (λ none same. otherwise [] first (ap (λ rs. first ∷ rs) none) same),
  AreStyleRuns-push first.end runs run are.2 ahead (EndsOtherwise-rest run.style first runs otherwise),
)

begins_longer : (style : Option ℕ) (runs : List StyleRun) (run longer : StyleRun) → run.style ≡ longer.style → BeginsOtherwise style (runs ++ run ∷ []) →
    BeginsOtherwise style (runs ++ longer ∷ [])
begins_longer style [] run longer same first = λ is. first (is ∙ sym same)
begins_longer style (next ∷ runs) run longer same first = first

pub AreStyleRuns-longer : (from : ℕ) (runs : List StyleRun) (run longer : StyleRun) → AreStyleRuns from (runs ++ run ∷ []) → run.style ≡ longer.style → run.end ≤ longer.end →
    AreStyleRuns from (runs ++ longer ∷ [])
AreStyleRuns-longer from [] run longer are same up = (let ahead = are.0 in omega arith, tt, tt)
AreStyleRuns-longer from (first ∷ runs) run longer are same up =
    (are.0, begins_longer first.style runs run longer same are.1, AreStyleRuns-longer first.end runs run longer are.2 same up)

AreStyleRuns-front : (from : ℕ) (runs : List StyleRun) (run : StyleRun) → AreStyleRuns from (runs ++ run ∷ []) → AreStyleRuns from runs × (end_of from runs < run.end)
AreStyleRuns-front from [] run are = (tt, are.0)
AreStyleRuns-front from (first ∷ runs) run are =
    let rest = AreStyleRuns-front first.end runs run are.2 in ((are.0, begins runs are.1, rest.0), rest.1)
  where
    begins : (runs : List StyleRun) → BeginsOtherwise first.style (runs ++ run ∷ []) → BeginsOtherwise first.style runs
    begins [] is = tt
    begins (next ∷ runs) is = is

-- characters of one style at the end of a layer: the last run goes where it has the style, and a run up to the new end comes
pub record IsPushed (old new : List StyleRun) (n end : ℕ) (style : Option ℕ) : Type 0 where
  pub runs : AreStyleRuns 0 (new ++ (record { end = end; style = style }) ∷ [])
  pub layer : layer_of 0 (new ++ (record { end = end; style = style }) ∷ []) ≡ layer_of 0 old ++ replicate n style

pub IsPushed-from : (old new : List StyleRun) (n end : ℕ) (style : Option ℕ) → AreStyleRuns 0 old → LosesLast style old new → 0 < n →
    end ≡ length (layer_of 0 old) + n → IsPushed old new n end style
IsPushed-from old new n end style are (inl (run, of_style, is)) some at = record {
  runs = AreStyleRuns-longer 0 new run (record { end = end; style = style }) parts of_style (omega (arith, ends, at));
  layer =
      layer_of-push 0 new (record { end = end; style = style }) ∙
      ap (λ k. layer_of 0 new ++ replicate k style) (omega (arith, ends, at, whole.1)) ∙
      ap (λ styles. layer_of 0 new ++ styles) (sym (replicate-append-replicate (run.end - end_of 0 new) n style)) ∙
      sym (append_assoc (layer_of 0 new) (replicate (run.end - end_of 0 new) style) (replicate n style)) ∙
      ap (λ layer. layer ++ replicate n style)
      (ap (λ s. layer_of 0 new ++ replicate (run.end - end_of 0 new) s) (sym of_style) ∙ sym (layer_of-push 0 new run) ∙ ap (layer_of 0) (sym is));
}
  where
    parts : AreStyleRuns 0 (new ++ run ∷ [])
    parts = subst (AreStyleRuns 0) is are

    whole : AreStyleRuns 0 new × (end_of 0 new < run.end)
    whole = AreStyleRuns-front 0 new run parts

    ends : length (layer_of 0 old) ≡ run.end
    ends = omega (arith, length-layer_of 0 old are, ap (end_of 0) is, end_of-push 0 new run)
IsPushed-from old new n end style are (inr (is, otherwise)) some at = record {
  runs = subst (λ runs. AreStyleRuns 0 (runs ++ (record { end = end; style = style }) ∷ [])) (sym is)
      (AreStyleRuns-push 0 old (record { end = end; style = style }) are (omega (arith, length-layer_of 0 old are)) otherwise);
  layer =
      ap (λ runs. layer_of 0 (runs ++ (record { end = end; style = style }) ∷ [])) is ∙ layer_of-push 0 old (record { end = end; style = style }) ∙
      ap (λ k. layer_of 0 old ++ replicate k style) (omega (arith, length-layer_of 0 old are, at));
}

-- ---- the last run

pub last_parts : (runs : List StyleRun) (run : StyleRun) → slice_get runs (length runs - 1) ≡ Some run → (front : List StyleRun) × (runs ≡ front ++ run ∷ [])
last_parts [] run is = absurd (let no = is in cc)
last_parts (first ∷ []) run is = ([], let same : first ≡ run = cc in ap (λ r. r ∷ []) same)
last_parts (first ∷ next ∷ runs) run is =
    let less : suc (suc (length runs)) - 1 ≡ suc (length runs) = omega arith in
    let fewer : length runs ≡ suc (length runs) - 1 = omega arith in
    let rest = last_parts (next ∷ runs) run (ap (slice_get (next ∷ runs)) (sym fewer) ∙ ap (slice_get (first ∷ next ∷ runs)) (sym less) ∙ is) in
    (first ∷ rest.0, ap (λ rs. first ∷ rs) rest.1)

pub end_of-last : (from : ℕ) (runs : List StyleRun) (run : StyleRun) → slice_get runs (length runs - 1) ≡ Some run → end_of from runs ≡ run.end
end_of-last from runs run is = let parts = last_parts runs run is in ap (end_of from) parts.1 ∙ end_of-push from parts.0 run

-- ---- the runs from a gap on

ends_above : (from : ℕ) (runs : List StyleRun) → AreStyleRuns from runs → (k : ℕ) (d : StyleRun) → k < length runs → from < (get_or runs k d).end
ends_above from [] are k d inside = absurd (omega arith)
ends_above from (run ∷ runs) are zero d inside = are.0
ends_above from (run ∷ runs) are (suc k) d inside =
    let ahead : from < run.end = are.0 in omega (arith, ends_above run.end runs are.2 k d (omega arith))

pub ends_rise : (from : ℕ) (runs : List StyleRun) → AreStyleRuns from runs → IsNonDecreasingBy (λ run. run.end) runs
ends_rise from [] are i j d up inside = absurd (omega arith)
ends_rise from (run ∷ runs) are zero zero d up inside = omega arith
ends_rise from (run ∷ runs) are zero (suc j) d up inside = omega (arith, ends_above run.end runs are.2 j d (omega arith))
ends_rise from (run ∷ runs) are (suc i) zero d up inside = absurd (omega arith)
ends_rise from (run ∷ runs) are (suc i) (suc j) d up inside = ends_rise run.end runs are.2 i j d (omega arith) (omega arith)

-- a run that is gone by the gap
pub layer_of-past : (from at : ℕ) (run : StyleRun) (runs : List StyleRun) → from < run.end → run.end ≤ at →
    drop (at - from) (layer_of from (run ∷ runs)) ≡ drop (at - run.end) (layer_of run.end runs)
layer_of-past from at run runs ahead past =
    let len : length (replicate (run.end - from) run.style) + (at - run.end) ≡ at - from = omega (arith, length-replicate (run.end - from) run.style) in
    ap (λ n. drop n (layer_of from (run ∷ runs))) (sym len) ∙
    drop-append-add (replicate (run.end - from) run.style) (layer_of run.end runs) (at - run.end)

-- a run that the gap is in
pub layer_of-inside : (from at : ℕ) (run : StyleRun) (runs : List StyleRun) → from ≤ at → at < run.end →
    drop (at - from) (layer_of from (run ∷ runs)) ≡ layer_of at (run ∷ runs)
layer_of-inside from at run runs after inside =
    drop-append-le (at - from) (replicate (run.end - from) run.style) (layer_of run.end runs) (omega (arith, length-replicate (run.end - from) run.style)) ∙
    ap (λ styles. styles ++ layer_of run.end runs)
    (drop-replicate (at - from) (run.end - from) run.style ∙ ap (λ n. replicate n run.style) (omega arith))

pub drop_none : {X : Type 0} (n : ℕ) → drop {A = X} n [] ≡ []
drop_none zero = refl
drop_none (suc n) = refl

pub IsRestAt-search : (from at : ℕ) (runs : List StyleRun) (index : ℕ) → AreStyleRuns from runs → from ≤ at → index ≤ length runs →
    IsPartitionPoint (λ run. leb run.end at ≡ true) (λ run. leb run.end at ≡ false) runs index →
    IsRestAt at (drop (at - from) (layer_of from runs)) (drop index runs)
IsRestAt-search from at [] index are after inside point = record {
  runs = rw (drop_none {X = StyleRun} index) tt;
  is = rw (drop_none {X = StyleRun} index, drop_none {X = Option ℕ} (at - from)) refl;
}
IsRestAt-search from at (run ∷ runs) zero are after inside point =
    let later : at < run.end = let fails = point.1 0 run (omega arith) (omega arith) in grind (arith, nat_tests, fails) in
    record {
      runs = (later, are.1, are.2);
      is = sym (layer_of-inside from at run runs after later);
    }
IsRestAt-search from at (run ∷ runs) (suc index) are after inside point =
    let past : run.end ≤ at = let passes = point.0 0 run (omega arith) (omega arith) in grind (arith, nat_tests, passes) in
    let rest : IsRestAt at (drop (at - run.end) (layer_of run.end runs)) (drop index runs) =
    IsRestAt-search run.end at runs index are.2 past (omega arith)
    (λ k d low high. point.0 (suc k) d (omega arith) (omega arith), λ k d low high. point.1 (suc k) d (omega arith) (omega arith)) in
    record {
      runs = rest.runs;
      is = rest.is ∙ sym (layer_of-past from at run runs are.0 past);
    }

pub LosesLast-runs : (old new : List StyleRun) (style : Option ℕ) → AreStyleRuns 0 old → LosesLast style old new → AreStyleRuns 0 new
LosesLast-runs old new style are (inl (run, of_style, is)) = (AreStyleRuns-front 0 new run (subst (AreStyleRuns 0) is are)).0
LosesLast-runs old new style are (inr (is, otherwise)) = subst (AreStyleRuns 0) (sym is) are

-- a walk from a gap of runs on
pub IsAhead-from : (at : ℕ) (runs rest : List StyleRun) → at < 2 ^ 64 → length (layer_of 0 runs) < 2 ^ 64 → IsRestAt at (drop at (layer_of 0 runs)) rest → IsAhead at rest
IsAhead-from at runs rest place room is = record {
  are = is.runs;
  room = rw is.is (omega (arith, length-drop at (layer_of 0 runs)));
}
