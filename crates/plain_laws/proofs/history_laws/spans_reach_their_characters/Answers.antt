use Rattle.std.proofs.Common.{◌≡◌, ℕ, zero, suc, ◌+◌, Bool, true, false, List, [], ◌∷◌, map, take, Option, Some, None, slice_get, refl, ap, ◌∙◌, arith}
use Rattle.std.specs.Prelude.{if◌then◌else◌}
use Rattle.std.specs.List.{count_by}
use Rattle.std.proofs.lemmas.Bool.{both_ways}
use Rattle.plain_text.proofs.callers.ListLemmas.{count_by-yes, count_by-no}
use Rattle.plain_edits.specs.History.{head, is_visible}
use Rattle.plain_edits.specs.Change.{indices_of, passes_at}
use Rattle.plain_edits.specs.Styles.{is_shown_at, joined_style, number_at, spanned_style, style_at, style_of, with_spans}
use Rattle.plain_laws.proofs.history_laws.spans_reach_their_characters.Goals as goal

-- what is made of the indices of those that pass, at one of them
slice_get-indices_of : {X Y : Type 0} (q : X → Bool) (f : ℕ → Y) (from i : ℕ) (xs : List X) → passes_at q i xs ≡ true →
    slice_get (map f (indices_of q from xs)) (count_by q (take i xs)) ≡ Some (f (from + i))
slice_get-indices_of q f from i [] passes = absurd (both_ways false refl passes)
slice_get-indices_of q f from zero (x ∷ xs) passes =
    ap (λ b. slice_get (map f (if b then from ∷ indices_of q (from + 1) xs else indices_of q (from + 1) xs)) 0) passes ∙
    (let none : from ≡ from + 0 = omega arith in ap (λ n. Some (f n)) none)
slice_get-indices_of {X} {Y} q f from (suc i) (x ∷ xs) passes =
    by (q x) refl (slice_get-indices_of q f (from + 1) i xs passes)
  where
    next : Some (f (from + 1 + i)) ≡ Some (f (from + suc i))
    next = let more : from + 1 + i ≡ from + suc i = omega arith in ap (λ n. Some (f n)) more

    by : (b : Bool) → q x ≡ b → slice_get (map f (indices_of q (from + 1) xs)) (count_by q (take i xs)) ≡ Some (f (from + 1 + i)) →
        slice_get (map f (if b then from ∷ indices_of q (from + 1) xs else indices_of q (from + 1) xs)) (count_by q (x ∷ take i xs)) ≡ Some (f (from + suc i))
    by true first rest =
        let count : count_by q (x ∷ take i xs) ≡ suc (count_by q (take i xs)) = omega (arith, count_by-yes q x (take i xs) first) in
        ap (slice_get (f from ∷ map f (indices_of q (from + 1) xs))) count ∙ rest ∙ next
    by false first rest =
        ap (slice_get (map f (indices_of q (from + 1) xs))) (count_by-no q x (take i xs) first) ∙ rest ∙ next

pub returns : goal.returns
returns c history rev range spans layer index shown =
    let after : ℕ → Option ℕ = λ i. if is_shown_at history rev i
    then spanned_style range spans (number_at history rev i) (style_of history (head history) layer i)
    else style_of history (head history) layer i in
    ap (λ b. if b then style_at (with_spans history rev range spans layer) (number_at history (head history) index) else None) shown ∙
    ap joined_style (slice_get-indices_of (is_visible history.revisions (head history)) after 0 index history.characters shown) ∙
    (let none : 0 + index ≡ index = omega arith in ap after none)
