-- What an edit keeps of a text at its ends.
use Rattle.std.proofs.Common.{◌≡◌, inl, inr, ℕ, zero, suc, ◌+◌, ◌-◌, ◌<◌, ◌≤◌, List, [], ◌∷◌, ◌++◌, length, take, drop, replicate, refl, ap, ap₂, sym, subst, ◌∙◌, arith, append_assoc, append-nil, length-append, length-drop, length-take, take-append-drop}
use Rattle.plain_edits.specs.declared.delta.UnitDelta.{UnitDelta}
use Rattle.delta_core.specs.Units.{text_after}
use Rattle.delta_core.specs.UnitStep.{UnitStep, Kept, Dropped, New, steps_of}
use Rattle.delta_core.specs.Inner.{base_count, text_of_steps}
use Rattle.delta_core.proofs.ForCallers.{IsMaking, IsMaking-start}
use Rattle.match_index.specs.Found.{Found}
use Rattle.match_index.specs.Inner.{HasRuns}
use Rattle.match_index.specs.Changed.{KeepsEnds}
use Rattle.match_index.specs.Edited.{IsEdit, IsKeptOf, KeepsTexts}

-- ---- part by part

-- the steps up to those ahead keep so many characters at the start, and so many at the end
pub record IsKeeping (steps ahead : List UnitStep) (front back : ℕ) : Type 0 where
  pub middle : List UnitStep
  pub is : steps ≡ replicate front Kept ++ (middle ++ (replicate back Kept ++ ahead))

pub keeping-start : (steps part ahead : List UnitStep) (front : ℕ) → steps ≡ part ++ ahead → IsKeptOf part front → IsKeeping steps ahead front 0
keeping-start steps part ahead front whole (inl kept) = record {
  middle = [];
  is = whole ∙ ap (λ (xs : List UnitStep). xs ++ ahead) kept;
}
keeping-start steps part ahead front whole (inr none) = record {
  middle = part;
  is = whole ∙ ap (λ (n : ℕ). replicate n Kept ++ (part ++ ahead)) (sym none);
}

pub keeping-next : (steps part later ahead : List UnitStep) (front back count : ℕ) → IsKeeping steps ahead front back → ahead ≡ part ++ later →
    IsKeptOf part count → IsKeeping steps later front count
keeping-next steps part later ahead front back count keeping whole (inl kept) = record {
  middle = keeping.middle ++ replicate back Kept;
  is =
      keeping.is ∙
      ap (λ (xs : List UnitStep). replicate front Kept ++ (keeping.middle ++ (replicate back Kept ++ xs)))
      (whole ∙ ap (λ (xs : List UnitStep). xs ++ later) kept) ∙
      ap (λ (xs : List UnitStep). replicate front Kept ++ xs)
      (sym (append_assoc keeping.middle (replicate back Kept) (replicate count Kept ++ later)));
}
keeping-next steps part later ahead front back count keeping whole (inr none) = record {
  middle = (keeping.middle ++ replicate back Kept) ++ part;
  is =
      keeping.is ∙ ap (λ (xs : List UnitStep). replicate front Kept ++ (keeping.middle ++ (replicate back Kept ++ xs))) whole ∙
      ap (λ (xs : List UnitStep). replicate front Kept ++ xs)
      (sym (append_assoc keeping.middle (replicate back Kept) (part ++ later)) ∙
      sym (append_assoc (keeping.middle ++ replicate back Kept) part later)) ∙
      ap (λ (n : ℕ). replicate front Kept ++ (((keeping.middle ++ replicate back Kept) ++ part) ++ (replicate n Kept ++ later))) (sym none);
}

pub keeping-end : (steps ahead : List UnitStep) (front back : ℕ) → IsKeeping steps ahead front back → ahead ≡ [] → KeepsEnds steps front back
keeping-end steps ahead front back keeping none = record {
  middle = keeping.middle;
  is =
      keeping.is ∙ ap (λ (xs : List UnitStep). replicate front Kept ++ (keeping.middle ++ (replicate back Kept ++ xs))) none ∙
      ap (λ (xs : List UnitStep). replicate front Kept ++ (keeping.middle ++ xs)) (append-nil (replicate back Kept));
}

pub keeps-steps : (steps : List UnitStep) → KeepsEnds steps 0 0
keeps-steps steps = record { middle = steps; is = sym (append-nil steps) }

pub keeps-none : (steps : List UnitStep) → steps ≡ [] → KeepsEnds steps 0 0
keeps-none steps none = record { middle = []; is = none }

-- ---- a text before and after

base_count-append : (xs ys : List UnitStep) → base_count (xs ++ ys) ≡ base_count xs + base_count ys
base_count-append [] ys = omega arith
base_count-append (Kept ∷ xs) ys = omega (arith, base_count-append xs ys)
base_count-append (Dropped ∷ xs) ys = omega (arith, base_count-append xs ys)
base_count-append (New c ∷ xs) ys = base_count-append xs ys

base_count-kept : (n : ℕ) → base_count (replicate n Kept) ≡ n
base_count-kept zero = refl
base_count-kept (suc n) = omega (arith, base_count-kept n)

text-append : (xs ys : List UnitStep) (text : List ℕ) → base_count xs ≤ length text →
    text_of_steps (xs ++ ys) text ≡ text_of_steps xs (take (base_count xs) text) ++ text_of_steps ys (drop (base_count xs) text)
text-append [] ys text room = refl
text-append (New c ∷ xs) ys text room = ap (λ (t : List ℕ). c ∷ t) (text-append xs ys text room)
text-append (Kept ∷ xs) ys [] room = absurd (omega arith)
text-append (Kept ∷ xs) ys (c ∷ text) room =
    let more : base_count (Kept ∷ xs) ≡ suc (base_count xs) = omega arith in
    ap (λ (t : List ℕ). c ∷ t) (text-append xs ys text (omega arith)) ∙
    ap (λ (n : ℕ). text_of_steps (Kept ∷ xs) (take n (c ∷ text)) ++ text_of_steps ys (drop n (c ∷ text))) (sym more)
text-append (Dropped ∷ xs) ys [] room = absurd (omega arith)
text-append (Dropped ∷ xs) ys (c ∷ text) room =
    let more : base_count (Dropped ∷ xs) ≡ suc (base_count xs) = omega arith in
    text-append xs ys text (omega arith) ∙
    ap (λ (n : ℕ). text_of_steps (Dropped ∷ xs) (take n (c ∷ text)) ++ text_of_steps ys (drop n (c ∷ text))) (sym more)

text-kept : (n : ℕ) (text : List ℕ) → length text ≡ n → text_of_steps (replicate n Kept) text ≡ text
text-kept zero [] same = refl
text-kept zero (c ∷ text) same = absurd (omega arith)
text-kept (suc n) [] same = refl
text-kept (suc n) (c ∷ text) same = ap (λ (t : List ℕ). c ∷ t) (text-kept n text (omega arith))

-- WHAT STEPS KEEP, A TEXT KEEPS
module _ (units : UnitDelta) (text : List ℕ) (front back : ℕ) (base : units.base ≡ length text) (keeps : KeepsEnds (steps_of units) front back) where
  made : IsMaking [] (steps_of units) text (text_after units text)
  made = IsMaking-start units (steps_of units) text text base refl refl

  abbrev count : ℕ
  count = base_count keeps.middle

  abbrev start : List ℕ
  start = take front text

  abbrev others : List ℕ
  others = drop front text

  abbrev gone : List ℕ
  gone = take count others

  abbrev come : List ℕ
  come = text_of_steps keeps.middle gone

  abbrev rest : List ℕ
  rest = drop count others

  room : front + (count + back) ≡ length text
  room = omega (
    arith,
    made.room,
    ap base_count keeps.is,
    base_count-append (replicate front Kept) (keeps.middle ++ replicate back Kept),
    base_count-append keeps.middle (replicate back Kept),
    base_count-kept front,
    base_count-kept back,
  )

  start-long : length start ≡ front
  start-long = omega (arith, length-take front text, room)

  rest-long : length rest ≡ back
  rest-long = omega (arith, length-drop count others, length-drop front text, room)

  first : text_of_steps (replicate front Kept) (take (base_count (replicate front Kept)) text) ≡ start
  first = ap (λ (n : ℕ). text_of_steps (replicate front Kept) (take n text)) (base_count-kept front) ∙ text-kept front start start-long

  after : text_after units text ≡ start ++ (come ++ rest)
  after =
      sym made.so_far ∙ ap (λ (steps : List UnitStep). text_of_steps steps text) keeps.is ∙
      text-append (replicate front Kept) (keeps.middle ++ replicate back Kept) text (omega (arith, base_count-kept front, room)) ∙
      ap₂ (λ (xs ys : List ℕ). xs ++ ys) first
      (ap (λ (n : ℕ). text_of_steps (keeps.middle ++ replicate back Kept) (drop n text)) (base_count-kept front) ∙
      text-append keeps.middle (replicate back Kept) others (omega (arith, length-drop front text, room)) ∙
      ap (λ (xs : List ℕ). come ++ xs) (text-kept back rest rest-long))

  before : text ≡ start ++ (gone ++ rest)
  before = sym (ap (λ (xs : List ℕ). start ++ xs) (take-append-drop count others) ∙ take-append-drop front text)

  after-long : length (text_after units text) ≡ length (start ++ come) + back
  after-long = omega (arith, ap length after, length-append start (come ++ rest), length-append come rest, length-append start come, rest-long)

  pub kept-short : back ≤ length text
  kept-short = omega (arith, room)

  pub kept-short_after : back ≤ length (text_after units text)
  kept-short_after = omega (arith, after-long)

  pub kept-texts : KeepsTexts text (text_after units text) front (length text - back) (length (text_after units text) - back)
  kept-texts = record {
    start = start;
    gone = gone;
    come = come;
    rest = rest;
    was = before;
    is = after;
    from = start-long;
    to = omega (arith, length-append start gone, start-long, length-take count others, length-drop front text, room);
    to_after = omega (arith, after-long);
  }

-- an edit of a text whose matches are known
pub kept-edit : (before strides : List ℕ) (after : Found) (units : UnitDelta) (front back old new : ℕ) → units.base ≡ length before →
    KeepsEnds (steps_of units) front back → after.text ≡ text_after units before → old ≡ length before - back → new ≡ length after.text - back →
    HasRuns (record after { text = before }) strides → 0 < length after.chars → IsEdit before strides after front old new
kept-edit before strides after units front back old new base keeps is old_is new_is has some = record {
  keeps =
      subst (λ (n : ℕ). KeepsTexts before after.text front old n) (sym new_is)
      (subst (λ (n : ℕ). KeepsTexts before after.text front n (length after.text - back)) (sym old_is)
      (subst (λ (text : List ℕ). KeepsTexts before text front (length before - back) (length text - back)) (sym is)
      (kept-texts units before front back base keeps)));
  has = has;
  some = some;
}
