-- The logical lines left and right of those that an edit touches by text.
use Rattle.std.proofs.Common.{◌≡◌, ℕ, zero, suc, ◌+◌, ◌-◌, ◌<◌, ◌≤◌, Bool, List, [], ◌∷◌, ◌++◌, length, take, drop, Some, None, refl, ap, ap₂, sym, ◌∙◌, arith, length-drop}
use Rattle.std.specs.Prelude.{if◌then◌else◌, ◌==◌, nat_lt, slice_get, unwrap_or}
use Rattle.std.proofs.lemmas.Bool.{le-ltb, lt-ltb}
use Rattle.std.proofs.lemmas.List.{drop-drop, take-append-drop}
use Rattle.std.proofs.Math.Seq.{take-length}
use Rattle.plain_text.specs.Lines.{logical_lines}
use Rattle.plain_text.specs.declared.run.Run.{Run}
use Rattle.plain_screen.specs.Touched.{counterpart}
use Rattle.plain_screen.specs.View.{logical_line_of}
use Rattle.rope_node.specs.Lengths.{count_by-append, lf_count}
use Rattle.line_stays.specs.Change.{touched_by}
use Rattle.line_stays.specs.declared.change.Change.TheVariants.{Edited}
use Rattle.line_stays.proofs.CountLemmas.{line-counts}
use Rattle.line_stays.proofs.LineLemmas.{edit-right, edit-room, lines-counted, lines-left, lf-made, lf-was, made, was}

-- ---- lists that are one at their beginnings or ends

take-same : {X : Type 0} (n : ℕ) (xs ys : List X) → ((i : ℕ) → i < n → slice_get xs i ≡ slice_get ys i) → take n xs ≡ take n ys
take-same zero xs ys each = refl
take-same (suc n) [] [] each = refl
take-same (suc n) [] (y ∷ ys) each = absurd (let no = each 0 (omega arith) in cc)
take-same (suc n) (x ∷ xs) [] each = absurd (let no = each 0 (omega arith) in cc)
take-same (suc n) (x ∷ xs) (y ∷ ys) each =
    ap₂ (λ z zs. z ∷ zs) (ap (λ o. unwrap_or o x) (each 0 (omega arith))) (take-same n xs ys (λ i less. each (suc i) (omega (arith, less))))

get-drop : {X : Type 0} (n k : ℕ) (xs : List X) → slice_get (drop n xs) k ≡ slice_get xs (n + k)
get-drop zero k xs = let here : k ≡ 0 + k = omega arith in ap (slice_get xs) here
get-drop (suc n) k [] = refl
get-drop (suc n) k (x ∷ xs) = let on : suc (n + k) ≡ suc n + k = omega arith in get-drop n k xs ∙ ap (slice_get (x ∷ xs)) on

drop-same : {X : Type 0} (n m : ℕ) (xs ys : List X) → length (drop n xs) ≡ length (drop m ys) →
    ((i : ℕ) → i < length (drop n xs) → slice_get xs (n + i) ≡ slice_get ys (m + i)) → drop n xs ≡ drop m ys
drop-same n m xs ys long each =
    sym (take-length (drop n xs)) ∙
    take-same (length (drop n xs)) (drop n xs) (drop m ys) (λ i less. get-drop n i xs ∙ each i less ∙ sym (get-drop m i ys)) ∙
    ap (λ k. take k (drop m ys)) long ∙ take-length (drop m ys)

-- ---- an edit

module _ (front back : ℕ) (text other : List ℕ) (fits : front + back ≤ length text) (holds : front + back ≤ length other)
    (left : take front text ≡ take front other) (right : drop (length text - back) text ≡ drop (length other - back) other) where
  abbrev begins : List ℕ
  begins = take front other

  abbrev gone : List ℕ
  gone = take (length text - back - front) (drop front text)

  abbrev come : List ℕ
  come = take (length other - back - front) (drop front other)

  abbrev ends : List ℕ
  ends = drop (length other - back) other

  text-parts : text ≡ was begins gone come ends
  text-parts =
      sym (take-append-drop front text) ∙
      ap₂ (λ xs ys. xs ++ ys) left
      (sym (take-append-drop (length text - back - front) (drop front text)) ∙
      ap (λ ys. gone ++ ys)
      (drop-drop (length text - back - front) front text ∙
      ap (λ k. drop k text) (let on : front + (length text - back - front) ≡ length text - back = omega (arith, fits) in on) ∙ right))

  other-parts : other ≡ made begins gone come ends
  other-parts =
      sym (take-append-drop front other) ∙
      ap (λ ys. begins ++ ys)
      (sym (take-append-drop (length other - back - front) (drop front other)) ∙
      ap (λ ys. come ++ ys)
      (drop-drop (length other - back - front) front other ∙
      ap (λ k. drop k other) (let on : front + (length other - back - front) ≡ length other - back = omega (arith, holds) in on)))

  -- the first logical line that is touched, and the one behind the last
  abbrev pub low : ℕ
  low = (logical_line_of other front).index

  abbrev pub past : ℕ
  past = (logical_line_of other (length other - back)).index + 1

  low-is : low ≡ lf_count begins
  low-is = line-counts other front (omega (arith, holds))

  joined : begins ++ come ≡ take (length other - back) other
  joined = take-parts front (length other - back) other (omega (arith, holds))
    where
      take-parts : (n m : ℕ) (xs : List ℕ) → n ≤ m → take n xs ++ take (m - n) (drop n xs) ≡ take m xs
      take-parts zero m xs le = let none : m - 0 ≡ m = omega arith in ap (λ k. take k xs) none
      take-parts (suc n) zero xs le = absurd (omega (arith, le))
      take-parts (suc n) (suc m) [] le = none-of (suc m - suc n)
        where
          none-of : (k : ℕ) → take {A = ℕ} k [] ≡ []
          none-of zero = refl
          none-of (suc k) = refl
      take-parts (suc n) (suc m) (x ∷ xs) le =
          let few : suc m - suc n ≡ m - n = omega arith in
          ap (λ k. x ∷ (take n xs ++ take k (drop n xs))) few ∙ ap (λ zs. x ∷ zs) (take-parts n m xs (omega (arith, le)))

  past-is : past ≡ lf_count (begins ++ come) + 1
  past-is =
      ap (λ k. k + 1) (line-counts other (length other - back) (omega arith) ∙ ap lf_count (sym joined))

  abbrev old_count : ℕ
  old_count = length (logical_lines text)

  abbrev new_count : ℕ
  new_count = length (logical_lines other)

  -- where the lines right of the touched ones stood
  abbrev pub behind : ℕ
  behind = old_count - (new_count - past)

  old-counts : old_count ≡ length (logical_lines (was begins gone come ends))
  old-counts = ap (λ t. length (logical_lines t)) text-parts

  new-counts : new_count ≡ length (logical_lines (made begins gone come ends))
  new-counts = ap (λ t. length (logical_lines t)) other-parts

  pub low-past : low < past
  low-past = omega (arith, low-is, past-is, lf-both begins come)
    where
      lf-both : (xs ys : List ℕ) → lf_count (xs ++ ys) ≡ lf_count xs + lf_count ys
      lf-both xs ys = count_by-append (λ d. d == 10) xs ys

  pub past-fits : past ≤ new_count
  past-fits = omega (arith, past-is, new-counts, lines-counted (made begins gone come ends), lf-made begins gone come ends, count_by-append (λ d. d == 10) begins come)

  -- right of the touched lines stand no more than there were
  pub behind-fits : new_count - past ≤ old_count
  behind-fits = omega (
    arith,
    past-is,
    new-counts,
    old-counts,
    lines-counted (made begins gone come ends),
    lines-counted (was begins gone come ends),
    lf-made begins gone come ends,
    lf-was begins gone come ends,
    count_by-append (λ d. d == 10) begins come,
  )

  pub low-fits : low < old_count
  low-fits = omega (arith, low-is, old-counts, lines-counted (was begins gone come ends), lf-was begins gone come ends)

  pub low-behind : low ≤ behind
  low-behind =
      omega (arith, low-is, past-is, old-counts, new-counts, edit-room begins gone come ends, low-fits)

  -- THE LINES LEFT of the touched ones are the same
  pub same-left : take low (logical_lines text) ≡ take low (logical_lines other)
  same-left =
      take-same low (logical_lines text) (logical_lines other) (λ i less.
      ap (λ t. slice_get (logical_lines t) i) text-parts ∙ lines-left begins (gone ++ ends) (come ++ ends) i (omega (arith, less, low-is)) ∙
      ap (λ t. slice_get (logical_lines t) i) (sym other-parts))

  -- AND THOSE RIGHT of them
  pub same-right : drop behind (logical_lines text) ≡ drop past (logical_lines other)
  same-right =
      drop-same behind past (logical_lines text) (logical_lines other)
      (omega (arith, length-drop behind (logical_lines text), length-drop past (logical_lines other), behind-fits, past-fits))
      (λ i less.
      let inside : past + i < new_count = omega (arith, less, length-drop behind (logical_lines text), behind-fits, past-fits) in
      let at : behind + i ≡ length (logical_lines (was begins gone come ends)) - (length (logical_lines (made begins gone come ends)) - (past + i)) =
      omega (arith, old-counts, new-counts, inside, behind-fits, past-fits) in
      ap (slice_get (logical_lines text)) at ∙
      ap (λ t. slice_get (logical_lines t) (length (logical_lines (was begins gone come ends)) - (length (logical_lines (made begins gone come ends)) - (past + i)))) text-parts ∙
      sym (edit-right begins gone come ends (past + i) (omega (arith, past-is)) (omega (arith, inside, new-counts))) ∙
      ap (λ t. slice_get (logical_lines t) (past + i)) (sym other-parts))

  abbrev touched : Run
  touched = touched_by (Edited front back) other

  -- ---- the counterparts

  pub counterpart-left : (m : ℕ) → m < low → counterpart touched old_count new_count m ≡ Some m
  counterpart-left m less =
      ap (λ (b : Bool). if b then Some m else if nat_lt m touched.end then None else Some (old_count - (new_count - m))) (lt-ltb m low less)

  pub counterpart-none : (m : ℕ) → low ≤ m → m < past → counterpart touched old_count new_count m ≡ None
  counterpart-none m from to =
      ap (λ (b : Bool). if b then Some m else if nat_lt m touched.end then None else Some (old_count - (new_count - m))) (le-ltb m low from) ∙
      ap (λ (b : Bool). if b then None else Some (old_count - (new_count - m))) (lt-ltb m past to)

  pub counterpart-right : (m : ℕ) → past + m < new_count → counterpart touched old_count new_count (past + m) ≡ Some (behind + m)
  counterpart-right m less =
      ap (λ (b : Bool). if b then Some (past + m) else if nat_lt (past + m) touched.end then None else Some (old_count - (new_count - (past + m))))
      (le-ltb (past + m) low (omega (arith, low-past))) ∙
      ap (λ (b : Bool). if b then None else Some (old_count - (new_count - (past + m)))) (le-ltb (past + m) past (omega arith)) ∙
      ap (λ (k : ℕ). Some k) (let at : old_count - (new_count - (past + m)) ≡ behind + m = omega (arith, less, behind-fits) in at)
