-- A leaf of strides among all strides of a tree.
use Rattle.std.proofs.Common.{◌≡◌, ℕ, zero, suc, ◌+◌, ◌-◌, ◌^◌, ◌<◌, ◌≤◌, IsTrue, List, [], ◌∷◌, ◌++◌, length, take, drop, get_or, Some, refl, ap, ap₂, sym, subst, ◌∙◌, arith, append_assoc, length-append, take_all, take-append-drop}
use Rattle.std.specs.Prelude.{slice_get}
use Rattle.std.specs.List.{flat_map}
use Rattle.std.proofs.lemmas.Bool.{lt-ltb, ltb-true}
use Rattle.std.proofs.lemmas.Grind.{flat_map-append}
use Rattle.std.proofs.lemmas.List.{take-append-le}
use Rattle.std.proofs.Math.Seq.{take-append-add}
use Rattle.shared_tree.specs.Places.{IsAt}
use Rattle.match_index.specs.declared.stride.Reach.{Reach}
use Rattle.match_index.specs.Strides.{reach_of, is_countable, no_reach, span, span-append, together}
use Rattle.match_index.specs.Inner.{IsLastBy}
use Rattle.match_index.proofs.StrideLemmas.{span-parted}

-- ---- what fits

pub part-fits : (xs ys zs : List ℕ) → IsTrue (is_countable (reach_of (xs ++ (ys ++ zs)))) → IsTrue (is_countable (reach_of ys))
part-fits xs ys zs fit =
    lt-ltb _ _ (omega (
      arith,
      ltb-true _ (2 ^ 64) fit,
      length-append xs (ys ++ zs),
      length-append ys zs,
      span-append xs (ys ++ zs),
      span-append ys zs,
    ))

pub span-small : (strides : List ℕ) → IsTrue (is_countable (reach_of strides)) → span strides < 2 ^ 64
span-small strides fit = omega (arith, ltb-true _ (2 ^ 64) fit)

-- a leaf of the first of some strides fits behind others, where all do
pub leaf-fits : (made all leaf rest : List ℕ) (n : ℕ) → made ++ rest ≡ all → leaf ≡ take n rest → IsTrue (is_countable (reach_of all)) →
    IsTrue (is_countable (reach_of (made ++ leaf)))
leaf-fits made all leaf rest n is same fit =
    let whole : all ≡ (made ++ leaf) ++ drop n rest =
    sym is ∙ ap (λ (xs : List ℕ). made ++ xs) (sym (take-append-drop n rest) ∙ ap (λ (xs : List ℕ). xs ++ drop n rest) (sym same)) ∙
    sym (append_assoc made leaf (drop n rest)) in
    part-fits [] (made ++ leaf) (drop n rest) (subst (λ (xs : List ℕ). IsTrue (is_countable (reach_of xs))) whole fit)

-- ---- a leaf among all

pub leaves-parted : (leaves front back : List (List ℕ)) (leaf : List ℕ) → leaves ≡ front ++ ((leaf ∷ []) ++ back) →
    flat_map (λ own. own) leaves ≡ flat_map (λ own. own) front ++ (leaf ++ flat_map (λ own. own) back)
leaves-parted leaves front back leaf cut =
    ap (flat_map (λ own. own)) cut ∙ flat_map-append (λ (own : List ℕ). own) front ((leaf ∷ []) ++ back)

take-parted : (front leaf back : List ℕ) (n : ℕ) → n ≤ length leaf → take (length front + n) (front ++ (leaf ++ back)) ≡ front ++ take n leaf
take-parted front leaf back n le =
    take-append-add front (leaf ++ back) n ∙ ap (λ (xs : List ℕ). front ++ xs) (take-append-le n leaf back le)

-- the first of all strides, up to so many of a leaf
span-in : (all front leaf back : List ℕ) (index n : ℕ) → all ≡ front ++ (leaf ++ back) → index ≡ length front + n → n ≤ length leaf →
    span (take index all) ≡ span front + span (take n leaf)
span-in all front leaf back index n whole at le =
    ap₂ (λ (i : ℕ) (xs : List ℕ). span (take i xs)) at whole ∙ ap span (take-parted front leaf back n le) ∙ span-append front (take n leaf)

pub last-found : (all front leaf back : List ℕ) (gap count end : ℕ) (before : Reach) → all ≡ front ++ (leaf ++ back) →
    before ≡ together no_reach (reach_of front) → before.chars ≤ gap → gap - before.chars < span leaf → IsLastBy leaf (gap - before.chars) count end →
    IsLastBy all gap (before.matches + count) (before.chars + end)
last-found all front leaf back gap count end before whole is passed reached last =
    let many : before.matches ≡ length front = omega (arith, ap (λ (e : Reach). e.matches) is) in
    let long : before.chars ≡ span front = omega (arith, ap (λ (e : Reach). e.chars) is) in
    let inside = last.inside in
    let ends = last.ends in
    let by_then = last.by_then in
    let less : count < length leaf = short leaf count (gap - before.chars) end last reached in
    let past = last.past less in
    record {
      inside = omega (arith, ap length whole, length-append front (leaf ++ back), length-append leaf back);
      ends = omega (arith, span-in all front leaf back (before.matches + count) count whole (omega arith) inside);
      by_then = omega arith;
      past = λ more. omega (arith, span-in all front leaf back (before.matches + count + 1) (count + 1) whole (omega arith) (omega arith));
    }
  where
    short : (xs : List ℕ) (n at to : ℕ) → IsLastBy xs at n to → at < span xs → n < length xs
    short xs n at to last reached =
        let inside = last.inside in
        let ends = last.ends in
        let by_then = last.by_then in
        not-all xs n (λ all. let whole = ap span (take_all n xs all) in omega arith)
      where
        not-all : (xs : List ℕ) (n : ℕ) → (length xs ≤ n → ⊥) → n < length xs
        not-all [] n not = absurd (not (omega arith))
        not-all (x ∷ xs) zero not = omega arith
        not-all (x ∷ xs) (suc n) not = let less = not-all xs n (λ all. not (omega arith)) in omega arith

pub last-end : (all : List ℕ) (gap : ℕ) (reach : Reach) → reach ≡ reach_of all → reach.chars ≤ gap → IsLastBy all gap reach.matches reach.chars
last-end all gap reach is past =
    let many : reach.matches ≡ length all = ap (λ (e : Reach). e.matches) is in
    let long : reach.chars ≡ span all = ap (λ (e : Reach). e.chars) is in
    let whole = ap span (take_all reach.matches all (omega arith)) in
    record {
      inside = omega arith;
      ends = omega arith;
      by_then = past;
      past = λ more. absurd (omega arith);
    }

pub get-at : (all leaf : List ℕ) (index place stride : ℕ) → IsAt all index leaf place → slice_get leaf place ≡ Some stride → slice_get all index ≡ Some stride
get-at all leaf index place stride is get =
    ap₂ (λ (xs : List ℕ) (i : ℕ). slice_get xs i) is.cut (sym is.place) ∙ get-behind is.front (leaf ++ is.back) place ∙ get-before leaf is.back place is.inside ∙ get
  where
    get-behind : (front back : List ℕ) (i : ℕ) → slice_get (front ++ back) (length front + i) ≡ slice_get back i
    get-behind [] back i = let same : 0 + i ≡ i = omega arith in ap (slice_get back) same
    get-behind (x ∷ front) back i =
        let same : suc (length front) + i ≡ suc (length front + i) = omega arith in
        ap (slice_get ((x ∷ front) ++ back)) same ∙ get-behind front back i

    get-before : (front back : List ℕ) (i : ℕ) → i < length front → slice_get (front ++ back) i ≡ slice_get front i
    get-before [] back i inside = absurd (omega arith)
    get-before (x ∷ front) back zero inside = refl
    get-before (x ∷ front) back (suc i) inside = get-before front back i (omega arith)

-- ---- a walk in a leaf

span-rest : (xs : List ℕ) (i : ℕ) → i < length xs → span (drop i xs) ≡ get_or xs i 0 + span (drop (suc i) xs)
span-rest [] i inside = absurd (omega arith)
span-rest (x ∷ xs) zero inside = refl
span-rest (x ∷ xs) (suc i) inside = span-rest xs i (omega arith)

pub span-step : (xs : List ℕ) (i count stride : ℕ) → i < length xs → stride ≡ get_or xs i 0 → count + span (drop i xs) ≡ span xs →
    count + stride + span (drop (i + 1) xs) ≡ span xs
span-step xs i count stride inside is rest =
    let next : i + 1 ≡ suc i = omega arith in
    omega (arith, rest, span-rest xs i inside, ap (λ (n : ℕ). span (drop n xs)) next)

span-so-far : (xs : List ℕ) (i count : ℕ) → count + span (drop i xs) ≡ span xs → count ≡ span (take i xs)
span-so-far xs i count rest = omega (arith, span-parted xs i, rest)

pub last-here : (xs : List ℕ) (i count end gap : ℕ) → count ≡ i → end + span (drop i xs) ≡ span xs → end ≤ gap → i < length xs → gap - end < get_or xs i 0 →
    IsLastBy xs gap count end
last-here xs i count end gap at rest by_then inside more =
    let next : i + 1 ≡ count + 1 = omega arith in
    record {
      inside = omega arith;
      ends = span-so-far xs i end rest ∙ ap (λ (n : ℕ). span (take n xs)) (sym at);
      by_then = by_then;
      past = λ _.
          omega (
            arith,
            span-so-far xs (i + 1) (end + get_or xs i 0) (span-step xs i end (get_or xs i 0) inside refl rest),
            ap (λ (n : ℕ). span (take n xs)) next,
          );
    }

pub count-small : (strides : List ℕ) → IsTrue (is_countable (reach_of strides)) → length strides < 2 ^ 64
count-small strides fit = omega (arith, ltb-true _ (2 ^ 64) fit)
