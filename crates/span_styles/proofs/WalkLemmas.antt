-- Lemmas on a walk over a layer.
use Rattle.std.proofs.Common.{◌≡◌, ◌≢◌, ◌↔◌, ℕ, zero, suc, ◌+◌, ◌-◌, ◌<◌, ◌≤◌, ◌==◌, List, [], ◌∷◌, ◌++◌, length, take, drop, get_or, replicate, Option, Some, slice_get, refl, ap, sym, ◌∙◌, arith, append_assoc, length-append, length-drop}
use Rattle.std.specs.Bool.{IsTrue}
use Rattle.std.proofs.lemmas.Bool.{eqb-true}
use Rattle.std.proofs.lemmas.List.{length-replicate}
use Rattle.std.proofs.Math.Seq.{drop-append_seam}
use Rattle.plain_edits.specs.Styles.{Layer}
use Rattle.span_styles.specs.declared.run.StyleRun.{StyleRun}
use Rattle.span_styles.specs.Inner.{layer_of, AreStyleRuns, BeginsOtherwise, IsAhead, IsRestAt, IsStyleFront}
use Rattle.span_styles.proofs.RunLemmas.{layer_of-past, layer_of-inside, drop_none}

-- a layer with a run has characters
pub layer_of-some : (from : ℕ) (run : StyleRun) (runs : List StyleRun) → from < run.end → layer_of from (run ∷ runs) ≢ []
layer_of-some from run runs ahead none =
    omega (arith, ap length none, length-append (replicate (run.end - from) run.style) (layer_of run.end runs), length-replicate (run.end - from) run.style)

pub no_runs : (from : ℕ) (runs : List StyleRun) → AreStyleRuns from runs → IsTrue (length runs == 0) ↔ (layer_of from runs ≡ [])
no_runs from [] are = (λ none. refl, λ none. refl)
no_runs from (run ∷ runs) are = (
  λ none. absurd (let no : suc (length runs) ≡ 0 = eqb-true (suc (length runs)) 0 none in omega arith),
  λ none. absurd (layer_of-some from run runs are.0 none),
)

-- the first style of the layer of some runs is not that which they do not begin with
begins : (style : Option ℕ) (from : ℕ) (runs : List StyleRun) → AreStyleRuns from runs → BeginsOtherwise style runs → slice_get (layer_of from runs) 0 ≢ Some style
begins style from [] are otherwise is = cc
begins style from (run ∷ runs) are otherwise is = first (run.end - from) (omega (arith, are.0)) is
  where
    first : (n : ℕ) → 0 < n → slice_get (replicate n run.style ++ layer_of run.end runs) 0 ≡ Some style → ⊥
    first zero some is = omega arith
    first (suc n) some is = otherwise (cc)

slice_get-seam : (xs ys : Layer) → slice_get (xs ++ ys) (length xs) ≡ slice_get ys 0
slice_get-seam [] ys = refl
slice_get-seam (x ∷ xs) ys = slice_get-seam xs ys

pub IsStyleFront-run : (at : ℕ) (run : StyleRun) (runs : List StyleRun) → AreStyleRuns at (run ∷ runs) →
    IsStyleFront (layer_of at (run ∷ runs)) (record { len = run.end - at; style = run.style })
IsStyleFront-run at run runs are =
    let len : length (replicate (run.end - at) run.style) ≡ run.end - at = length-replicate (run.end - at) run.style in
    record {
      some = omega (arith, are.0);
      same =
          ap (λ layer. replicate (run.end - at) run.style ++ layer)
          (sym (ap (λ n. drop n (layer_of at (run ∷ runs))) (sym len) ∙ drop-append_seam (replicate (run.end - at) run.style) (layer_of run.end runs)));
      longest = λ is. begins run.style run.end runs are.2 are.1
          (sym (slice_get-seam (replicate (run.end - at) run.style) (layer_of run.end runs)) ∙ ap (slice_get (layer_of at (run ∷ runs))) len ∙ is);
    }

pub IsStyleFront-first : (at : ℕ) (runs : List StyleRun) (d : StyleRun) → AreStyleRuns at runs → layer_of at runs ≢ [] →
    IsStyleFront (layer_of at runs) (record { len = (get_or runs 0 d).end - at; style = (get_or runs 0 d).style })
IsStyleFront-first at [] d are some = absurd (some refl)
IsStyleFront-first at (run ∷ runs) d are some = IsStyleFront-run at run runs are

-- ---- runs that are passed over

-- the rest of the runs starts at or before a gap, and has the same characters after it
pub record IsPassing (at : ℕ) (layer : Layer) (rest : List StyleRun) : Type 0 where
  pub from : ℕ
  pub runs : AreStyleRuns from rest
  pub ahead : from ≤ at
  pub same : drop (at - from) (layer_of from rest) ≡ layer

pub IsPassing-next : (at : ℕ) (layer : Layer) (rest : List StyleRun) (d : StyleRun) → IsPassing at layer rest → 0 < length rest → (get_or rest 0 d).end ≤ at → IsPassing at layer (drop 1 rest)
IsPassing-next at layer [] d passing some past = absurd (omega arith)
IsPassing-next at layer (run ∷ runs) d passing some past =
    let are : AreStyleRuns passing.from (run ∷ runs) = passing.runs in
    record {
      from = run.end;
      runs = are.2;
      ahead = past;
      same = sym (layer_of-past passing.from at run runs are.0 past) ∙ passing.same;
    }

pub IsRestAt-passed : (at : ℕ) (layer : Layer) (rest : List StyleRun) (d : StyleRun) → IsPassing at layer rest → (0 < length rest → at < (get_or rest 0 d).end) →
    IsRestAt at layer rest
IsRestAt-passed at layer [] d passing inside =
    record { runs = tt; is = sym (drop_none (at - passing.from)) ∙ passing.same }
IsRestAt-passed at layer (run ∷ runs) d passing inside =
    let are : AreStyleRuns passing.from (run ∷ runs) = passing.runs in
    let later : at < run.end = inside (omega arith) in
    record {
      runs = (later, are.1, are.2);
      is = sym (layer_of-inside passing.from at run runs passing.ahead later) ∙ passing.same;
    }

-- ---- the first characters go into another layer

-- what is made with the rest of the first characters, and what is ahead after them
pub record IsTaking (made walk : Layer) (left : ℕ) (all after : Layer) : Type 0 where
  pub within : left ≤ length walk
  pub so_far : made ++ take left walk ≡ all
  pub ahead : drop left walk ≡ after

take-front : (n : ℕ) (walk : Layer) (len : ℕ) (style : Option ℕ) → n ≤ len → walk ≡ replicate len style ++ drop len walk → take n walk ≡ replicate n style
take-front zero walk len style below same = refl
take-front (suc n) walk zero style below same = absurd (omega arith)
take-front (suc n) [] (suc len) style below same = absurd (let no = same in cc)
take-front (suc n) (s ∷ walk) (suc len) style below same =
    let first : s ≡ style = cc in
    let rest : walk ≡ replicate len style ++ drop len walk = cc in
    ap (λ x. x ∷ take n walk) first ∙ ap (λ xs. style ∷ xs) (take-front n walk len style (omega arith) rest)

pub IsTaking-next : (made walk made' walk' : Layer) (left n len : ℕ) (style : Option ℕ) (all after : Layer) → IsTaking made walk left all after →
    n ≤ len → n ≤ left → walk ≡ replicate len style ++ drop len walk → made' ≡ made ++ replicate n style → walk' ≡ drop n walk →
    IsTaking made' walk' (left - n) all after
IsTaking-next made walk made' walk' left n len style all after taking below few same made_is walk_is =
    let within : left ≤ length walk = taking.within in
    let parts : take left walk ≡ take n walk ++ take (left - n) (drop n walk) = take_parts n left walk few in
    record {
      within = rw walk_is (omega (arith, length-drop n walk));
      so_far =
          rw (made_is, walk_is)
          (ap (λ styles. (made ++ styles) ++ take (left - n) (drop n walk)) (sym (take-front n walk len style below same)) ∙
          append_assoc made (take n walk) (take (left - n) (drop n walk)) ∙ ap (λ styles. made ++ styles) (sym parts) ∙ taking.so_far);
      ahead = rw walk_is (drop_parts n left walk few ∙ taking.ahead);
    }
  where
    take_parts : (n left : ℕ) (xs : Layer) → n ≤ left → take left xs ≡ take n xs ++ take (left - n) (drop n xs)
    take_parts zero left xs few = let all : left - 0 ≡ left = omega arith in sym (ap (λ k. take k xs) all)
    take_parts (suc n) zero xs few = absurd (omega arith)
    take_parts (suc n) (suc left) [] few = sym (none (suc left - suc n))
      where
        none : (k : ℕ) → take {A = Option ℕ} k [] ≡ []
        none zero = refl
        none (suc k) = refl
    take_parts (suc n) (suc left) (x ∷ xs) few =
        let less : suc left - suc n ≡ left - n = omega arith in
        ap (λ ys. x ∷ ys) (take_parts n left xs (omega arith) ∙ ap (λ k. take n xs ++ take k (drop n xs)) (sym less))

    drop_parts : (n left : ℕ) (xs : Layer) → n ≤ left → drop (left - n) (drop n xs) ≡ drop left xs
    drop_parts zero left xs few = let all : left - 0 ≡ left = omega arith in ap (λ k. drop k xs) all
    drop_parts (suc n) zero xs few = absurd (omega arith)
    drop_parts (suc n) (suc left) [] few = drop_none (suc left - suc n)
    drop_parts (suc n) (suc left) (x ∷ xs) few =
        let less : suc left - suc n ≡ left - n = omega arith in ap (λ k. drop k (drop n xs)) less ∙ drop_parts n left xs (omega arith)

-- ---- a walk goes on

pub IsAhead-skip : (at n : ℕ) (runs rest : List StyleRun) → IsAhead at runs → n ≤ length (layer_of at runs) → IsRestAt (at + n) (drop (at + n - at) (layer_of at runs)) rest → IsAhead (at + n) rest
IsAhead-skip at n runs rest ahead within is = record {
  are = is.runs;
  room = rw is.is (omega (arith, ahead.room, length-drop (at + n - at) (layer_of at runs)));
}
