-- How many characters of a run stay left of an insertion, where those that stay left stand before those that go right of it.
use Rattle.std.proofs.Common.{◌≡◌, ℕ, Bool, true, false, List, [], ◌∷◌, ◌++◌, length, filter, refl, ap, ap₂, sym, ◌∙◌, arith, length-append, append-nil}
use Rattle.std.specs.List.{AllByRecursion}
use Rattle.std.proofs.lemmas.Bool.{both_ways}
use Rattle.std.proofs.lemmas.List.Elements.{filter-append}
use Rattle.plain_edits.specs.declared.rank.Rank.{Rank}
use Rattle.plain_edits.specs.History.{Tagged, Revision}
use Rattle.plain_edits.specs.Place.{goes_right, left_in_run}
use Rattle.plain_text.proofs.callers.ListLemmas.{filter-yes, filter-no, filter_none, filter_all}
use Rattle.plain_edits.proofs.callers.RunLemmas.{left_in_run-by_cuts}

-- the items that pass stand before those that fail
abbrev pub Falls : {X : Type 0} → (X → Bool) → List X → Type 0
Falls p [] = Unit {0}
Falls p (x ∷ xs) = (p x ≡ false → AllByRecursion (λ y. p y ≡ false) xs) × Falls p xs

module _ {X : Type 0} (p : X → Bool) where
  pub Falls-append : (front back : List X) → AllByRecursion (λ x. p x ≡ true) front → AllByRecursion (λ x. p x ≡ false) back →
      Falls p (front ++ back)
  Falls-append [] [] pass fail = tt
  Falls-append [] (y ∷ back) pass fail = ((λ _. fail.1), Falls-append [] back pass fail.1)
  Falls-append (x ∷ front) back pass fail = ((λ fails. absurd (both_ways (p x) fails pass.0)), Falls-append front back pass.1 fail)

  -- a list that falls, cut at an item
  pub Falls-back : (front : List X) (x : X) (back : List X) → Falls p (front ++ x ∷ back) → Falls p back
  Falls-back [] x back falls = falls.1
  Falls-back (y ∷ front) x back falls = Falls-back front x back falls.1

  others_fail : (front : List X) (x : X) (back : List X) → AllByRecursion (λ y. p y ≡ false) (front ++ x ∷ back) → p x ≡ false
  others_fail [] x back each = each.0
  others_fail (y ∷ front) x back each = others_fail front x back each.1

  front_fails : (front ys : List X) → AllByRecursion (λ y. p y ≡ false) (front ++ ys) → AllByRecursion (λ y. p y ≡ false) front
  front_fails [] ys each = tt
  front_fails (y ∷ front) ys each = (each.0, front_fails front ys each.1)

  pub Falls-front : (front ys : List X) → Falls p (front ++ ys) → Falls p front
  Falls-front [] ys falls = tt
  Falls-front (y ∷ front) ys falls = ((λ fails. front_fails front ys (falls.0 fails)), Falls-front front ys falls.1)

  pub Falls-passes : (front : List X) (x : X) (back : List X) → Falls p (front ++ x ∷ back) → p x ≡ true → AllByRecursion (λ y. p y ≡ true) front
  Falls-passes [] x back falls passes = tt
  Falls-passes (y ∷ front) x back falls passes = (
    elim (p y) as (λ b. p y ≡ b → b ≡ true) [
      | true ↦ λ is. refl
      | false ↦ λ fails. absurd (both_ways (p x) (others_fail front x back (falls.0 fails)) passes)
    ] refl,
    Falls-passes front x back falls.1 passes,
  )

  pub Falls-fails : (front : List X) (x : X) (back : List X) → Falls p (front ++ x ∷ back) → p x ≡ false → AllByRecursion (λ y. p y ≡ false) back
  Falls-fails [] x back falls fails = falls.0 fails
  Falls-fails (y ∷ front) x back falls fails = Falls-fails front x back falls.1 fails

-- whether the character stays left of an insertion of the rank
abbrev pub stays : List Revision → Rank → Tagged → Bool
stays revisions rank tagged = goes_right revisions rank tagged.inserted

module _ (revisions : List Revision) (rank : Rank) where
  abbrev left_of : Tagged → Bool
  left_of = stays revisions rank

  -- of a run where those that stay left stand first, as many stay left as pass
  left_in_run-falls : (run : List Tagged) → Falls left_of run → left_in_run revisions rank (length run) run ≡ length (filter left_of run)
  left_in_run-falls run =
      left_in_run-by_cuts revisions rank (λ xs k. Falls left_of xs → k ≡ length (filter left_of xs)) (λ _. refl)
      (λ front x back k least none goes rest falls.
      let all = filter_all left_of front (Falls-passes left_of front x back falls goes) in
      let parts = filter-append left_of front (x ∷ back) ∙ ap₂ (λ xs ys. xs ++ ys) all (filter-yes left_of x back goes) in
      omega (arith, rest (Falls-back left_of front x back falls), ap length parts, length-append front (x ∷ filter left_of back)))
      (λ front x back k least none goes rest falls.
      let others = filter-no left_of x back goes ∙ filter_none left_of back (Falls-fails left_of front x back falls goes) in
      rest (Falls-front left_of front (x ∷ back) falls) ∙
      ap length (sym (filter-append left_of front (x ∷ back) ∙ ap (λ ys. filter left_of front ++ ys) others ∙ append-nil (filter left_of front))))
      (length run) run (omega arith)

  -- a run of characters that stay left and characters that go right
  pub left_in_run-parts : (front back : List Tagged) → AllByRecursion (λ tagged. stays revisions rank tagged ≡ true) front →
      AllByRecursion (λ tagged. stays revisions rank tagged ≡ false) back →
      left_in_run revisions rank (length (front ++ back)) (front ++ back) ≡ length front
  left_in_run-parts front back pass fail =
      left_in_run-falls (front ++ back) (Falls-append left_of front back pass fail) ∙
      ap length (filter-append left_of front back ∙ ap₂ (λ xs ys. xs ++ ys) (filter_all left_of front pass) (filter_none left_of back fail) ∙ append-nil front)
