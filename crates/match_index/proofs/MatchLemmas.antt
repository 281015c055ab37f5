-- Where characters stand in a text, and in a part of it; and matches up to a gap.
use Rattle.std.proofs.Common.{◌≡◌, ◌⊎◌, inl, inr, ℕ, ◌+◌, ◌-◌, ◌<◌, ◌≤◌, Bool, true, false, List, [], ◌∷◌, ◌++◌, length, take, drop, refl, ap, ap₂, sym, subst, ◌∙◌, arith, length-drop, length-take}
use Rattle.std.specs.Prelude.{slice_range}
use Rattle.std.specs.List.{AllByRecursion}
use Rattle.std.specs.Char.{to_ascii_lowercase}
use Rattle.std.proofs.Math.Seq.{drop-append-add}
use Rattle.std.proofs.lemmas.Bool.{cases_lt, false≢true}
use Rattle.std.proofs.lemmas.List.{drop-append-le, length-map, map-append, take-append-le}
use Rattle.plain_text.specs.declared.run.Run.{Run}
use Rattle.find_core.specs.Matches.{folded, matches_of}
use Rattle.find_core.specs.Laws.{AreMatchesFrom, IsMatchAt, IsNextMatch}
use Rattle.find_core.proofs.ForCallers.{AreMatchesFrom-same, matches_of-are}
use Rattle.match_index.specs.Strides.{runs_behind, span}
use Rattle.match_index.specs.Found.{Found}
use Rattle.match_index.specs.Inner.{AreMatchesUpTo, HasRuns, NoneBetween}

-- ---- a text as it is compared

pub folded-len : (fold : Bool) (text : List ℕ) → length (folded fold text) ≡ length text
folded-len true text = length-map text to_ascii_lowercase
folded-len false text = refl

pub folded-append : (fold : Bool) (xs ys : List ℕ) → folded fold (xs ++ ys) ≡ folded fold xs ++ folded fold ys
folded-append true xs ys = map-append to_ascii_lowercase xs ys
folded-append false xs ys = refl

-- ---- parts of a text

-- what stands from a gap on does not depend on what stands left of it
slice-behind : (front back : List ℕ) (gap n : ℕ) →
    slice_range (front ++ back) (gap + length front) (gap + length front + n) ≡ slice_range back gap (gap + n)
slice-behind front back gap n =
    let turned : gap + length front ≡ length front + gap = omega arith in
    let count : gap + length front + n - (gap + length front) ≡ gap + n - gap = omega arith in
    ap₂ (λ (m k : ℕ). take m (drop k (front ++ back))) count turned ∙ ap (take (gap + n - gap)) (drop-append-add front back gap)

-- and what stands before a gap not on what stands right of it
slice-before : (front back : List ℕ) (gap n : ℕ) → gap + n ≤ length front → slice_range (front ++ back) gap (gap + n) ≡ slice_range front gap (gap + n)
slice-before front back gap n inside =
    ap (take (gap + n - gap)) (drop-append-le gap front back (omega arith)) ∙
    take-append-le (gap + n - gap) (drop gap front) back (omega (arith, length-drop gap front))

module _ (chars : List ℕ) where
  pub match-inside : (text : List ℕ) (gap : ℕ) → 0 < length chars → IsMatchAt chars text gap → gap + length chars ≤ length text
  match-inside text gap some is =
      let long : length (take (gap + length chars - gap) (drop gap text)) ≡ length chars = ap length is in
      omega (arith, long, length-take (gap + length chars - gap) (drop gap text), length-drop gap text)

  pub match-behind : (front back : List ℕ) (gap : ℕ) → IsMatchAt chars back gap → IsMatchAt chars (front ++ back) (gap + length front)
  match-behind front back gap is = slice-behind front back gap (length chars) ∙ is

  pub behind-match : (front back : List ℕ) (gap : ℕ) → IsMatchAt chars (front ++ back) (gap + length front) → IsMatchAt chars back gap
  behind-match front back gap is = sym (slice-behind front back gap (length chars)) ∙ is

  pub match-before : (front back : List ℕ) (gap : ℕ) → gap + length chars ≤ length front → IsMatchAt chars front gap → IsMatchAt chars (front ++ back) gap
  match-before front back gap inside is = slice-before front back gap (length chars) inside ∙ is

  pub before-match : (front back : List ℕ) (gap : ℕ) → gap + length chars ≤ length front → IsMatchAt chars (front ++ back) gap → IsMatchAt chars front gap
  before-match front back gap inside is = sym (slice-before front back gap (length chars) inside) ∙ is

  -- ---- matches up to a gap

  pub none-joined : (text : List ℕ) (from middle to : ℕ) → NoneBetween chars text from middle → NoneBetween chars text middle to → NoneBetween chars text from to
  none-joined text from middle to left right = λ gap after before. elim (cases_lt gap middle) [
    | inl less ↦ left gap after less
    | inr past ↦ right gap past before
  ]

  next-onto : (text : List ℕ) (from middle : ℕ) (run : Run) → from ≤ middle → NoneBetween chars text from middle → IsNextMatch chars text middle run →
      IsNextMatch chars text from run
  next-onto text from middle run le none next = record {
    after = omega (arith, next.after);
    end = next.end;
    is = next.is;
    first = none-joined text from middle run.start none next.first;
  }

  pub up-onto : (text : List ℕ) (from middle to : ℕ) (runs : List Run) → from ≤ middle → NoneBetween chars text from middle →
      AreMatchesUpTo chars text middle runs to → AreMatchesUpTo chars text from runs to
  up-onto text from middle to [] le none are = (omega (arith, are.0), none-joined text from middle to none are.1)
  up-onto text from middle to (run ∷ runs) le none are = (next-onto text from middle run le none are.0, are.1)

  pub from-onto : (text : List ℕ) (from middle : ℕ) (runs : List Run) → from ≤ middle → NoneBetween chars text from middle →
      AreMatchesFrom chars text middle runs → AreMatchesFrom chars text from runs
  from-onto text from middle [] le none are = λ gap after. elim (cases_lt gap middle) [
    | inl less ↦ none gap after less
    | inr past ↦ are gap past
  ]
  from-onto text from middle (run ∷ runs) le none are = (next-onto text from middle run le none are.0, are.1)

  pub up-append : (text : List ℕ) (from middle to : ℕ) (xs ys : List Run) → AreMatchesUpTo chars text from xs middle → AreMatchesUpTo chars text middle ys to →
      AreMatchesUpTo chars text from (xs ++ ys) to
  up-append text from middle to [] ys left right = up-onto text from middle to ys left.0 left.1 right
  up-append text from middle to (run ∷ xs) ys left right = (left.0, up-append text run.end middle to xs ys left.1 right)

  pub from-append : (text : List ℕ) (from middle : ℕ) (xs ys : List Run) → AreMatchesUpTo chars text from xs middle → AreMatchesFrom chars text middle ys →
      AreMatchesFrom chars text from (xs ++ ys)
  from-append text from middle [] ys left right = from-onto text from middle ys left.0 left.1 right
  from-append text from middle (run ∷ xs) ys left right = (left.0, from-append text run.end middle xs ys left.1 right)

  -- up to the end of the text these are all
  pub up-all : (text : List ℕ) (from to : ℕ) (runs : List Run) → 0 < length chars → length text ≤ to → AreMatchesUpTo chars text from runs to →
      AreMatchesFrom chars text from runs
  up-all text from to [] some all are = λ gap after is. elim (cases_lt gap to) [
    | inl less ↦ are.1 gap after less is
    | inr past ↦ absurd (omega (arith, match-inside text gap some is))
  ]
  up-all text from to (run ∷ runs) some all are = (are.0, up-all text run.end to runs some all are.1)

  -- ---- their strides

  next-long : (text : List ℕ) (len from start stride : ℕ) → len ≡ length chars → from ≤ start →
      IsNextMatch chars text start (record { start = from + stride - len; end = from + stride }) → len ≤ stride
  next-long text len from start stride same le next = omega (arith, next.after, next.end)

  pub up-long : (text : List ℕ) (len from start to : ℕ) (strides : List ℕ) → len ≡ length chars → from ≤ start →
      AreMatchesUpTo chars text start (runs_behind len from strides) to → AllByRecursion (λ stride. len ≤ stride) strides × (from + span strides ≤ to)
  up-long text len from start to [] same le are = (tt, omega (arith, are.0))
  up-long text len from start to (stride ∷ strides) same le are =
      let rest = up-long text len (from + stride) (from + stride) to strides same (omega arith) are.1 in
      ((next-long text len from start stride same le are.0, rest.0), omega (arith, rest.1))

  pub from-long : (text : List ℕ) (len from : ℕ) (strides : List ℕ) → len ≡ length chars → 0 < len → from ≤ length text →
      AreMatchesFrom chars text from (runs_behind len from strides) → AllByRecursion (λ stride. len ≤ stride) strides × (from + span strides ≤ length text)
  from-long text len from [] same some inside are = (tt, omega arith)
  from-long text len from (stride ∷ strides) same some inside are =
      let long = next-long text len from from stride same (omega arith) are.0 in
      let end : from + stride - len + length chars ≤ length text = match-inside text (from + stride - len) (omega arith) are.0.is in
      let rest = from-long text len (from + stride) strides same some (omega arith) are.1 in
      ((long, rest.0), omega (arith, rest.1))

-- ---- all matches of a text

-- runs that are the matches up to its end are its matches
pub matches-up : (text chars : List ℕ) (fold : Bool) (to : ℕ) (runs : List Run) → 0 < length chars → length text ≤ to →
    AreMatchesUpTo (folded fold chars) (folded fold text) 0 runs to → runs ≡ matches_of text chars fold
matches-up text chars fold to runs some all are =
    AreMatchesFrom-same (folded fold chars) (folded fold text) 0 runs (matches_of text chars fold)
    (up-all (folded fold chars) (folded fold text) 0 to runs (omega (arith, folded-len fold chars)) (omega (arith, folded-len fold text)) are)
    (matches_of-are text chars fold some)

-- ---- strides that say them

pub has-none : (found : Found) → found.chars ≡ [] → HasRuns found []
has-none found none = record { are = ap (λ (chars : List ℕ). matches_of found.text chars found.fold) (sym none) }

pub has-all : (found : Found) (strides : List ℕ) (to : ℕ) → 0 < length found.chars → length found.text ≤ to →
    AreMatchesUpTo (folded found.fold found.chars) (folded found.fold found.text) 0 (runs_behind (length found.chars) 0 strides) to → HasRuns found strides
has-all found strides to some all are = record {
  are = matches-up found.text found.chars found.fold to (runs_behind (length found.chars) 0 strides) some all are;
}

has-by : (text chars : List ℕ) (fold : Bool) (strides : List ℕ) → runs_behind (length chars) 0 strides ≡ matches_of text chars fold →
    AllByRecursion (λ stride. length chars ≤ stride) strides × ((strides ≡ []) ⊎ (0 < length chars))
has-by text [] fold [] is = (tt, inl refl)
has-by text [] fold (stride ∷ strides) is = absurd cc
has-by text (c ∷ chars) fold strides is =
    let some : 0 < length (c ∷ chars) = omega arith in
    let are = matches_of-are text (c ∷ chars) fold some in (
      (from-long (folded fold (c ∷ chars)) (folded fold text) (length (c ∷ chars)) 0 strides (sym (folded-len fold (c ∷ chars))) some (omega arith)
          (subst (AreMatchesFrom (folded fold (c ∷ chars)) (folded fold text) 0) (sym is) are)).0,
      inr some,
    )

-- each is as long as what is looked for, at least
pub has-long : (found : Found) (strides : List ℕ) (len : ℕ) → len ≡ length found.chars → HasRuns found strides → AllByRecursion (λ stride. len ≤ stride) strides
has-long found strides len same has =
    subst (λ (n : ℕ). AllByRecursion (λ stride. n ≤ stride) strides) (sym same) (has-by found.text found.chars found.fold strides has.are).0

pub has-some : (found : Found) (strides : List ℕ) → HasRuns found strides → (strides ≡ []) ⊎ (0 < length found.chars)
has-some found strides has = (has-by found.text found.chars found.fold strides has.are).1

pub not-empty : (chars : List ℕ) (b : Bool) → (chars ≡ [] → b ≡ true) → b ≡ false → 0 < length chars
not-empty [] b none is = absurd (false≢true (sym is ∙ none refl))
not-empty (c ∷ chars) b none is = omega arith
