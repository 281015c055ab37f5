-- The number of the first of some pieces that has one.
use Rattle.std.proofs.Common.{◌≡◌, inl, inr, ℕ, zero, suc, ◌+◌, ◌-◌, ◌<◌, ◌≤◌, true, false, List, [], ◌∷◌, ◌++◌, length, map, take, drop, Option, Some, None, refl, ap, ap₂, sym, ◌∙◌, arith, append_assoc}
use Rattle.std.specs.Prelude.{is_some, slice_get, unwrap_or}
use Rattle.std.specs.Option.{option_to_list}
use Rattle.std.proofs.lemmas.Bool.{cases_lt}
use Rattle.std.proofs.lemmas.List.{drop-map, take-map}
use Rattle.plain_screen.specs.declared.piece.Piece.{Piece}
use Rattle.plain_screen.specs.declared.screen.Line.{Line}
use Rattle.plain_screen.specs.Plan.{or_number}
use Rattle.plain_screen.specs.View.{ArePieces, extent_of, layout_line_of, line_under}
use Rattle.plain_screen.proofs.callers.OwnLemmas.{HasOwn, HasOwn-line, get_piece}
use Rattle.line_cache.specs.Ops.{first_number, lines_at, numbers_at}
use Rattle.line_cache.specs.Steps.{lines_of}
use Rattle.line_cache.specs.declared.step.Step.{Step}
use Rattle.line_cache.specs.declared.step.Step.TheVariants.{Keep, Restyle, Send, Drop}
use Rattle.line_updates.proofs.NextLemmas.{next-end, next-past}
use Rattle.line_updates.specs.Inner.{number_at, number_in, number_told, numbers_told, told_in}

-- ---- pieces one by one

drop-at : {X : Type 0} (at : ℕ) (xs : List X) (x : X) → slice_get xs at ≡ Some x → drop at xs ≡ x ∷ drop (at + 1) xs
drop-at at [] x is = absurd cc
drop-at zero (y ∷ xs) x is = ap (λ o. unwrap_or o x ∷ xs) is
drop-at (suc at) (y ∷ xs) x is = drop-at at xs x is ∙ ap (λ n. x ∷ drop n (y ∷ xs)) (let on : suc (at + 1) ≡ suc at + 1 = omega arith in on)

-- the first of them has a number
pub number-here : (pieces : List Piece) (at n : ℕ) (piece : Piece) (number : ℕ) → slice_get pieces at ≡ Some piece → 0 < n → piece.ln ≡ Some number →
    number_in (take n (drop at pieces)) ≡ Some number
number-here pieces at zero piece number is some has = absurd (omega (arith, some))
number-here pieces at (suc n) piece number is some has =
    ap (λ ps. number_in (take (suc n) ps)) (drop-at at pieces piece is) ∙
    ap (λ ln. or_number ln (number_in (take n (drop (at + 1) pieces)))) has

-- it has none
number-skip : (pieces : List Piece) (at n : ℕ) (piece : Piece) → slice_get pieces at ≡ Some piece → piece.ln ≡ None →
    number_in (take (suc n) (drop at pieces)) ≡ number_in (take n (drop (at + 1) pieces))
number-skip pieces at n piece is none =
    ap (λ ps. number_in (take (suc n) ps)) (drop-at at pieces piece is) ∙
    ap (λ ln. or_number ln (number_in (take n (drop (at + 1) pieces)))) none

-- these have none
abbrev HaveNone : List Piece → ℕ → ℕ → Type 0
HaveNone pieces from to = (i : ℕ) (piece : Piece) → from ≤ i → i < to → slice_get pieces i ≡ Some piece → piece.ln ≡ None

number-past : (pieces : List Piece) (at k n : ℕ) → at + k ≤ length pieces → HaveNone pieces at (at + k) →
    number_in (take (k + n) (drop at pieces)) ≡ number_in (take n (drop (at + k) pieces))
number-past pieces at zero n inside none =
    let here : at ≡ at + 0 = omega arith in
    let few : 0 + n ≡ n = omega arith in
    ap (λ m. number_in (take m (drop at pieces))) few ∙ ap (λ i. number_in (take n (drop i pieces))) here
number-past pieces at (suc k) n inside none =
    let own = get_piece pieces at (omega (arith, inside)) in
    let few : suc k + n ≡ suc (k + n) = omega arith in
    let on : at + 1 + k ≡ at + suc k = omega arith in
    ap (λ m. number_in (take m (drop at pieces))) few ∙
    number-skip pieces at (k + n) own.0 own.1 (none at own.0 (omega arith) (omega arith) own.1) ∙
    number-past pieces (at + 1) k n (omega (arith, inside)) (λ i piece low high is. none i piece (omega (arith, low)) (omega (arith, high)) is) ∙
    ap (λ i. number_in (take n (drop i pieces))) on

pub number-none : (pieces : List Piece) (at n : ℕ) → at + n ≤ length pieces → HaveNone pieces at (at + n) → number_in (take n (drop at pieces)) ≡ None
number-none pieces at n inside none =
    let all : n ≡ n + 0 = omega arith in
    ap (λ m. number_in (take m (drop at pieces))) all ∙ number-past pieces at n 0 inside none

-- ---- pieces of one logical line

not_some : (o : Option ℕ) → is_some o ≡ false → o ≡ None
not_some None is = refl
not_some (Some n) is = absurd cc

is_none : (o : Option ℕ) → o ≡ None → is_some o ≡ true → ⊥
is_none o none some = let both : is_some o ≡ false = ap is_some none in absurd (let clash : true ≡ false = sym some ∙ both in cc)

number_at-is : (pieces : List Piece) (at : ℕ) (piece : Piece) → slice_get pieces at ≡ Some piece → number_at pieces at ≡ piece.ln
number_at-is pieces at piece is = ap (λ o. number_in (option_to_list o)) is ∙ by piece.ln
  where
    by : (ln : Option ℕ) → or_number ln None ≡ ln
    by None = refl
    by (Some n) = refl

module _ (text : List ℕ) (pieces : List Piece) (at n next : ℕ) (are : ArePieces text pieces) (some : 0 < n) (inside : at + n ≤ length pieces)
    (none : number_at pieces at ≡ None) (is_next : next ≡ layout_line_of pieces (extent_of (line_under text pieces at)).end) where
  own : (first : ℕ) × (past : ℕ) × HasOwn text pieces at first past
  own = HasOwn-line text pieces at are (omega (arith, some, inside))

  abbrev first : ℕ
  first = own.0

  abbrev past : ℕ
  past = own.1

  -- the piece is not the first of its line
  later : first < at
  later = elim (cases_lt first at) [
    | inl less ↦ less
    | inr ge ↦
        let same : first ≡ at = omega (arith, ge, own.2.low) in
        let piece = get_piece pieces at (omega (arith, some, inside)) in
        absurd (is_none piece.0.ln (sym (number_at-is pieces at piece.0 piece.1) ∙ none)
        (own.2.start piece.0 (ap (slice_get pieces) same ∙ piece.1)).1)
  ]

  have-none : HaveNone pieces at past
  have-none i piece low high is = not_some piece.ln (own.2.rest i piece (omega (arith, later, low)) high is)

  at-end : past ≡ length pieces → next + 1 ≡ past
  at-end all = next-end text pieces at next first past are own.2 is_next all

  at-next : past < length pieces → next ≡ past
  at-next less = next-past text pieces at next first past are own.2 is_next less

  -- THE FIRST NUMBER of the next so many pieces is that of the next piece, where it is one of them
  pub number-next : (piece : Piece) → next < at + n → slice_get pieces next ≡ Some piece → number_in (take n (drop at pieces)) ≡ piece.ln
  number-next piece within is = elim (cases_lt past (length pieces)) [
    | inl less ↦
        let same : next ≡ past = at-next less in
        let begins = own.2.next piece (ap (slice_get pieces) (sym same) ∙ is) in
        let k : ℕ = past - at in
        let parts : n ≡ k + (n - k) = omega (arith, within, same, own.2.high) in
        let on : at + k ≡ past = omega (arith, own.2.high) in
        ap (λ m. number_in (take m (drop at pieces))) parts ∙
        number-past pieces at k (n - k) (omega (arith, own.2.inside, on)) (λ i p low high it. have-none i p low (omega (arith, high, on)) it) ∙
        ap (λ i. number_in (take (n - k) (drop i pieces))) on ∙
        by-number piece.ln refl begins.1 (λ number has. number-here pieces past (n - k) piece number (ap (slice_get pieces) (sym same) ∙ is)
        (omega (arith, within, same, own.2.high)) has)
    | inr ge ↦
        let all : past ≡ length pieces = omega (arith, ge, own.2.inside) in
        let last = at-end all in
        number-none pieces at n inside (λ i p low high it. have-none i p low (omega (arith, high, inside, all)) it) ∙
        sym (have-none next piece (omega (arith, last, own.2.high)) (omega (arith, last)) is)
  ]
    where
      by-number : (ln : Option ℕ) → piece.ln ≡ ln → is_some ln ≡ true →
          ((number : ℕ) → piece.ln ≡ Some number → number_in (take (n - (past - at)) (drop past pieces)) ≡ Some number) →
          number_in (take (n - (past - at)) (drop past pieces)) ≡ ln
      by-number None is_ln has there = absurd cc
      by-number (Some number) is_ln has there = there number is_ln

  -- and else they have none
  pub number-later : at + n ≤ next → number_in (take n (drop at pieces)) ≡ None
  number-later past_them = elim (cases_lt past (length pieces)) [
    | inl less ↦
        let same : next ≡ past = at-next less in
        number-none pieces at n inside (λ i p low high it. have-none i p low (omega (arith, high, past_them, same)) it)
    | inr ge ↦
        let all : past ≡ length pieces = omega (arith, ge, own.2.inside) in
        number-none pieces at n inside (λ i p low high it. have-none i p low (omega (arith, high, inside, all)) it)
  ]

-- ---- the numbers and the lines of a plan, step by step

module _ (f : Piece → Line) (keeps : (piece : Piece) → (f piece).ln ≡ piece.ln) where
  first_number-map : (pieces : List Piece) → first_number (map f pieces) ≡ number_in pieces
  first_number-map [] = refl
  first_number-map (piece ∷ pieces) = ap₂ or_number (keeps piece) (first_number-map pieces)

  first_number-take : (n : ℕ) (pieces : List Piece) → first_number (take n (map f pieces)) ≡ number_in (take n pieces)
  first_number-take n pieces = ap first_number (take-map f n pieces) ∙ first_number-map (take n pieces)

  -- the numbers that lines are told by are those of their pieces
  pub numbers-map : (plan : List Step) (pieces : List Piece) → numbers_at plan (map f pieces) ≡ numbers_told plan pieces
  numbers-map [] pieces = refl
  numbers-map (Keep old n ∷ plan) pieces =
      ap₂ (λ m ms. m ∷ ms) (first_number-take n pieces) (ap (numbers_at plan) (drop-map f n pieces) ∙ numbers-map plan (drop n pieces))
  numbers-map (Restyle old n ∷ plan) pieces =
      ap₂ (λ m ms. m ∷ ms) (first_number-take n pieces) (ap (numbers_at plan) (drop-map f n pieces) ∙ numbers-map plan (drop n pieces))
  numbers-map (Send index n ∷ plan) pieces = ap (numbers_at plan) (drop-map f n pieces) ∙ numbers-map plan (drop n pieces)
  numbers-map (Drop n ∷ plan) pieces = ap (numbers_at plan) (drop-map f n pieces) ∙ numbers-map plan (drop n pieces)

pub numbers-step : (made next all : List (Option ℕ)) (step : Step) (plan : List Step) (pieces : List Piece) → next ≡ made ++ number_told step pieces →
    made ++ numbers_told (step ∷ plan) pieces ≡ all → next ++ numbers_told plan (drop (lines_of step) pieces) ≡ all
numbers-step made next all step plan pieces put so_far =
    ap (λ ns. ns ++ numbers_told plan (drop (lines_of step) pieces)) put ∙
    append_assoc made (number_told step pieces) (numbers_told plan (drop (lines_of step) pieces)) ∙ ap (λ ns. made ++ ns) (by step) ∙ so_far
  where
    by : (own : Step) → number_told own pieces ++ numbers_told plan (drop (lines_of own) pieces) ≡ numbers_told (own ∷ plan) pieces
    by (Keep old n) = refl
    by (Restyle old n) = refl
    by (Send index n) = refl
    by (Drop n) = refl

pub lines-step : (made next all : List Line) (step : Step) (plan : List Step) (lines : List Line) → next ≡ made ++ told_in step lines →
    made ++ lines_at (step ∷ plan) lines ≡ all → next ++ lines_at plan (drop (lines_of step) lines) ≡ all
lines-step made next all step plan lines put so_far =
    ap (λ ls. ls ++ lines_at plan (drop (lines_of step) lines)) put ∙
    append_assoc made (told_in step lines) (lines_at plan (drop (lines_of step) lines)) ∙ ap (λ ls. made ++ ls) (by step) ∙ so_far
  where
    by : (own : Step) → told_in own lines ++ lines_at plan (drop (lines_of own) lines) ≡ lines_at (own ∷ plan) lines
    by (Keep old n) = refl
    by (Restyle old n) = refl
    by (Send index n) = refl
    by (Drop n) = refl
