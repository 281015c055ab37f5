-- Boundaries of a text: the least and the greatest that pass a test, and those of a logical line.
use Rattle.std.proofs.Common.{◌≡◌, ◌⊎◌, inl, inr, ⊎_elim, ℕ, zero, suc, ◌+◌, ◌-◌, ◌≤◌, Bool, true, false, List, [], ◌∷◌, ◌++◌, reverse, length, take, drop, Some, None, refl, sym, ap, ap₂, subst, ◌∙◌, arith, append_assoc, length-append}
use Rattle.std.specs.Prelude.{unwrap_or, slice_get, encode_utf8_all}
use Rattle.std.specs.List.{Contains, concat, find, flat_map}
use Rattle.std.specs.Option.{option_or}
use Rattle.std.specs.Str.{all_scalars}
use Rattle.std.proofs.lemmas.Bool.{and_from, and_parts, both_ways, cases_Bool}
use Rattle.std.proofs.lemmas.List.{reverse-append}
use Rattle.std.proofs.lemmas.List.Elements.{Contains-append_left, Contains-append_right, Contains-append_cases}
use Rattle.std.proofs.lemmas.List.Folds.{concat-append, find-append}
use Rattle.std.proofs.lemmas.Str.{chars-encodes}
use Rattle.plain_text.specs.Lines.{logical_lines}
use Rattle.plain_screen.specs.View.{LogicalLine, IsLogicalLineOf}
use Rattle.plain_screen.proofs.callers.ViewLemmas.{concat-logical_lines}
use Rattle.cluster_core.specs.Boundaries.{clusters_in, ends_from, text_boundaries}
use Rattle.cluster_core.proofs.ForCallers.{concat-clusters}
use Rattle.movement_core.specs.Places.{IsPlace, IsLeastPlace, IsGreatestPlace, least_place, greatest_place}

-- ---- the first and the last that pass in a list that rises

-- no number is below the one before it, nor the first below `low`
abbrev pub IsRisingFrom : ℕ → List ℕ → Type 0
IsRisingFrom low [] = Unit {0}
IsRisingFrom low (x ∷ xs) = (low ≤ x) × IsRisingFrom x xs

pub ends_from-rises : (at : ℕ) (pieces : List (List ℕ)) → IsRisingFrom at (ends_from at pieces)
ends_from-rises at [] = tt
ends_from-rises at (piece ∷ pieces) = (omega arith, ends_from-rises (at + length piece) pieces)

pub first : (x : ℕ) (xs : List ℕ) → Contains (x ∷ xs) x
first x xs = (0, omega arith, refl)

pub later : (x : ℕ) (xs : List ℕ) (y : ℕ) → Contains xs y → Contains (x ∷ xs) y
later x xs y found = Contains-append_right (x ∷ []) xs y found

pub none_in : (y : ℕ) → Contains [] y → ⊥
none_in y (k, lt, is) = absurd (omega arith)

pub first_or_later : (x : ℕ) (xs : List ℕ) (y : ℕ) → Contains (x ∷ xs) y → (x ≡ y) ⊎ Contains xs y
first_or_later x xs y found = ⊎_elim (λ here. inl (only here)) (λ past. inr past) (Contains-append_cases (x ∷ []) xs y found)
  where
    only : Contains (x ∷ []) y → x ≡ y
    only (zero, lt, is) = is
    only (suc k, lt, is) = absurd (omega arith)

pub low-le : (low : ℕ) (xs : List ℕ) → IsRisingFrom low xs → (x : ℕ) → Contains xs x → low ≤ x
low-le low [] rising x found = absurd (none_in x found)
low-le low (y ∷ xs) rising x found =
    let le = rising.0 in
    ⊎_elim (λ here. omega arith) (λ past. let more = low-le y xs rising.1 x past in omega arith) (first_or_later y xs x found)

module _ (p : ℕ → Bool) where
  find-least : (low : ℕ) (xs : List ℕ) → IsRisingFrom low xs → (least : ℕ) → Contains xs least → p least ≡ true →
      ((other : ℕ) → Contains xs other → p other ≡ true → least ≤ other) → find p xs ≡ Some least
  find-least low [] rising least found passed each = absurd (none_in least found)
  find-least low (x ∷ xs) rising least found passed each =
      ⊎_elim
      (λ passes.
      let le = each x (first x xs) passes in
      let ge : x ≤ least = ⊎_elim (λ here. omega arith) (λ past. low-le x xs rising.1 least past) (first_or_later x xs least found) in
      let same : x ≡ least = omega arith in
      rw passes (ap Some same))
      (λ fails.
      let past = ⊎_elim (λ here. absurd (both_ways (p x) fails (ap p here ∙ passed))) (λ past. past) (first_or_later x xs least found) in
      rw fails (find-least x xs rising.1 least past passed (λ other is. each other (later x xs other is))))
      (cases_Bool (p x))

  find-push : (x : ℕ) (xs : List ℕ) → find p (reverse (x ∷ xs)) ≡ option_or (find p (reverse xs)) (find p (x ∷ []))
  find-push x xs = ap (find p) (reverse-append (x ∷ []) xs) ∙ find-append p (reverse xs) (x ∷ [])

  find-alone : (x : ℕ) → p x ≡ true → find p (x ∷ []) ≡ Some x
  find-alone x passes = rw passes refl

  find-other : (x : ℕ) → p x ≡ false → find p (x ∷ []) ≡ None
  find-other x fails = rw fails refl

  find-only : (xs : List ℕ) (only : ℕ) → ((other : ℕ) → Contains xs other → p other ≡ true → other ≡ only) →
      (find p (reverse xs) ≡ None) ⊎ (find p (reverse xs) ≡ Some only)
  find-only [] only each = inl refl
  find-only (x ∷ xs) only each =
      ⊎_elim
      (λ none. ⊎_elim
      (λ passes. inr (find-push x xs ∙ ap₂ option_or none (find-alone x passes) ∙ ap Some (each x (first x xs) passes)))
      (λ fails. inl (find-push x xs ∙ ap₂ option_or none (find-other x fails))) (cases_Bool (p x)))
      (λ some. inr (find-push x xs ∙ rw some refl))
      (find-only xs only (λ other is. each other (later x xs other is)))

  find-greatest : (low : ℕ) (xs : List ℕ) → IsRisingFrom low xs → (greatest : ℕ) → Contains xs greatest → p greatest ≡ true →
      ((other : ℕ) → Contains xs other → p other ≡ true → other ≤ greatest) → find p (reverse xs) ≡ Some greatest
  find-greatest low [] rising greatest found passed each = absurd (none_in greatest found)
  find-greatest low (x ∷ xs) rising greatest found passed each =
      find-push x xs ∙
      ⊎_elim
      (λ here.
      let passes : p x ≡ true = ap p here ∙ passed in
      let same : (other : ℕ) → Contains xs other → p other ≡ true → other ≡ greatest =
      λ other is yes. let le = each other (later x xs other is) yes in let ge = low-le x xs rising.1 other is in omega arith in
      ⊎_elim (λ none. ap₂ option_or none (find-alone x passes) ∙ ap Some here) (λ some. rw some refl) (find-only xs greatest same))
      (λ past. rw (find-greatest x xs rising.1 greatest past passed (λ other is. each other (later x xs other is))) refl)
      (first_or_later x xs greatest found)

pub text_boundaries-rises : (text : List ℕ) → IsRisingFrom 0 (text_boundaries text)
text_boundaries-rises text = (omega arith, ends_from-rises 0 (flat_map clusters_in (logical_lines text)))

-- WHAT IS THE LEAST, OR THE GREATEST, is what the definition finds
pub least_place-is : (p : ℕ → Bool) (text : List ℕ) (gap : ℕ) → IsLeastPlace p text gap → least_place p text ≡ gap
least_place-is p text gap is =
    ap (λ found. unwrap_or found (length text)) (find-least p 0 (text_boundaries text) (text_boundaries-rises text) gap is.place is.passed is.least)

pub greatest_place-is : (p : ℕ → Bool) (text : List ℕ) (gap : ℕ) → IsGreatestPlace p text gap → greatest_place p text ≡ gap
greatest_place-is p text gap is =
    ap (λ found. unwrap_or found 0) (find-greatest p 0 (text_boundaries text) (text_boundaries-rises text) gap is.place is.passed is.greatest)

pub find-none : (p : ℕ → Bool) (xs : List ℕ) → ((other : ℕ) → Contains xs other → p other ≡ false) → find p xs ≡ None
find-none p [] each = refl
find-none p (x ∷ xs) each = rw (each x (first x xs)) (find-none p xs (λ other is. each other (later x xs other is)))

-- where none passes the least is the text's end
pub least_place-none : (p : ℕ → Bool) (text : List ℕ) → ((other : ℕ) → IsPlace text other → p other ≡ false) → least_place p text ≡ length text
least_place-none p text each = ap (λ found. unwrap_or found (length text)) (find-none p (text_boundaries text) each)

-- ---- the boundaries of a logical line

pub all_scalars-parts : (xs ys : List ℕ) → all_scalars (xs ++ ys) ≡ true → (all_scalars xs ≡ true) × (all_scalars ys ≡ true)
all_scalars-parts [] ys all = (refl, all)
all_scalars-parts (x ∷ xs) ys all =
    let parts = and_parts _ _ all in
    let rest = all_scalars-parts xs ys parts.1 in
    (and_from _ _ parts.0 rest.0, rest.1)

-- the lines before a line, and those after it
pub record AreParts (text : List ℕ) (line : LogicalLine) : Type 0 where
  pub front : List (List ℕ)
  pub back : List (List ℕ)
  pub parts : logical_lines text ≡ front ++ line.text ∷ back
  pub start : line.start ≡ length (concat front)

split_at_item : {X : Type 0} (xs : List X) (i : ℕ) (x : X) → slice_get xs i ≡ Some x → xs ≡ take i xs ++ x ∷ drop (suc i) xs
split_at_item [] i x is = absurd cc
split_at_item (y ∷ xs) zero x is = ap (λ o. unwrap_or o y ∷ xs) is
split_at_item (y ∷ xs) (suc i) x is = ap (λ zs. y ∷ zs) (split_at_item xs i x is)

pub AreParts-line : (text : List ℕ) (gap : ℕ) (line : LogicalLine) → IsLogicalLineOf text gap line → AreParts text line
AreParts-line text gap line is = record {
  front = take line.index (logical_lines text);
  back = drop (suc line.index) (logical_lines text);
  parts = split_at_item (logical_lines text) line.index line.text is.is;
  start = is.start;
}

-- a text is a line between the lines before it and those after it
pub text-is : (text : List ℕ) (line : LogicalLine) (are : AreParts text line) → text ≡ concat are.front ++ (line.text ++ concat are.back)
text-is text line are = sym (concat-logical_lines text) ∙ ap concat are.parts ∙ concat-append are.front (line.text ∷ are.back)

pub ends_from-append : (at : ℕ) (xs ys : List (List ℕ)) → ends_from at (xs ++ ys) ≡ ends_from at xs ++ ends_from (at + length (concat xs)) ys
ends_from-append at [] ys = let same : at ≡ at + 0 = omega arith in ap (λ n. ends_from n ys) same
ends_from-append at (x ∷ xs) ys =
    let sum : at + length x + length (concat xs) ≡ at + length (concat (x ∷ xs)) = omega (arith, length-append x (concat xs)) in
    ap (λ zs. (at + length x) ∷ zs) (ends_from-append (at + length x) xs ys ∙ ap (λ n. ends_from (at + length x) xs ++ ends_from n ys) sum)

-- ends from elsewhere on
ends_from-moved : (at by : ℕ) (pieces : List (List ℕ)) (n : ℕ) → Contains (ends_from at pieces) n → Contains (ends_from (by + at) pieces) (by + n)
ends_from-moved at by [] n found = absurd (none_in n found)
ends_from-moved at by (piece ∷ pieces) n found =
    let sum : by + (at + length piece) ≡ by + at + length piece = omega arith in
    ⊎_elim
    (λ here. let same : by + at + length piece ≡ by + n = omega arith in subst (Contains (ends_from (by + at) (piece ∷ pieces))) same (first _ _))
    (λ past. later _ _ _ (subst (λ m. Contains (ends_from m pieces) (by + n)) sum (ends_from-moved (at + length piece) by pieces n past)))
    (first_or_later _ _ _ found)

ends_from-back : (at by : ℕ) (pieces : List (List ℕ)) (n : ℕ) → Contains (ends_from (by + at) pieces) n → Contains (ends_from at pieces) (n - by)
ends_from-back at by [] n found = absurd (none_in n found)
ends_from-back at by (piece ∷ pieces) n found =
    let sum : by + at + length piece ≡ by + (at + length piece) = omega arith in
    ⊎_elim
    (λ here. let same : at + length piece ≡ n - by = omega arith in subst (Contains (ends_from at (piece ∷ pieces))) same (first _ _))
    (λ past. later _ _ _ (ends_from-back (at + length piece) by pieces n (subst (λ m. Contains (ends_from m pieces) n) sum past)))
    (first_or_later _ _ _ found)

-- no end is past the whole, and the whole is the last end, or there is nothing
pub ends_from-le : (at : ℕ) (pieces : List (List ℕ)) (n : ℕ) → Contains (ends_from at pieces) n → n ≤ at + length (concat pieces)
ends_from-le at [] n found = absurd (none_in n found)
ends_from-le at (piece ∷ pieces) n found =
    let long = length-append piece (concat pieces) in
    ⊎_elim (λ here. omega (arith, long)) (λ past. omega (arith, long, ends_from-le (at + length piece) pieces n past)) (first_or_later _ _ _ found)

pub ends_from-last : (at : ℕ) (pieces : List (List ℕ)) → Contains (at ∷ ends_from at pieces) (at + length (concat pieces))
ends_from-last at [] = let same : at ≡ at + 0 = omega arith in subst (Contains (at ∷ [])) same (first at [])
ends_from-last at (piece ∷ pieces) =
    let long : at + length piece + length (concat pieces) ≡ at + length (concat (piece ∷ pieces)) = omega (arith, length-append piece (concat pieces)) in
    later at (ends_from at (piece ∷ pieces)) (at + length (concat (piece ∷ pieces)))
    (subst (Contains (ends_from at (piece ∷ pieces))) long (ends_from-last (at + length piece) pieces))

concat-flat_map-append : (xs ys : List (List ℕ)) → flat_map clusters_in (xs ++ ys) ≡ flat_map clusters_in xs ++ flat_map clusters_in ys
concat-flat_map-append [] ys = refl
concat-flat_map-append (x ∷ xs) ys =
    ap (λ cs. clusters_in x ++ cs) (concat-flat_map-append xs ys) ∙ sym (append_assoc (clusters_in x) (flat_map clusters_in xs) (flat_map clusters_in ys))

-- ---- cuts of clusters, and those of the clusters of a line among them

pub cuts-in : (front own back : List (List ℕ)) (n : ℕ) → length (concat front) ≤ n → n ≤ length (concat front) + length (concat own) →
    Contains (0 ∷ ends_from 0 (front ++ (own ++ back))) n → Contains (0 ∷ ends_from 0 own) (n - length (concat front))
cuts-in front own back n low high found =
    let start = length (concat front) in
    let parts : ends_from 0 (front ++ (own ++ back)) ≡ ends_from 0 front ++ (ends_from (0 + start) own ++ ends_from (0 + start + length (concat own)) back) =
    ends_from-append 0 front (own ++ back) ∙ ap (λ zs. ends_from 0 front ++ zs) (ends_from-append (0 + start) own back) in
    let at_start : n ≡ start → Contains (0 ∷ ends_from 0 own) (n - start) =
    λ is. let none : 0 ≡ n - start = omega arith in subst (Contains (0 ∷ ends_from 0 own)) none (first 0 _) in
    ⊎_elim
    (λ here. at_start (omega arith))
    (λ past. ⊎_elim
    (λ in_front. let le = ends_from-le 0 front n in_front in at_start (omega arith))
    (λ others. ⊎_elim
    (λ in_own.
    let moved : 0 + start ≡ start + 0 = omega arith in
    later 0 _ _ (ends_from-back 0 start own n (subst (λ m. Contains (ends_from m own) n) moved in_own)))
    (λ in_back.
    let ge = low-le _ _ (ends_from-rises (0 + start + length (concat own)) back) n in_back in
    let last : 0 + length (concat own) ≡ n - start = omega arith in
    subst (Contains (0 ∷ ends_from 0 own)) last (ends_from-last 0 own))
    (Contains-append_cases (ends_from (0 + start) own) _ n others))
    (Contains-append_cases (ends_from 0 front) _ n (subst (λ zs. Contains zs n) parts past)))
    (first_or_later 0 _ n found)

pub cuts-from : (front own back : List (List ℕ)) (n : ℕ) → Contains (0 ∷ ends_from 0 own) n →
    Contains (0 ∷ ends_from 0 (front ++ (own ++ back))) (length (concat front) + n)
cuts-from front own back n found =
    let start = length (concat front) in
    let rest = ends_from (0 + start) own ++ ends_from (0 + start + length (concat own)) back in
    let parts : ends_from 0 (front ++ (own ++ back)) ≡ ends_from 0 front ++ rest =
    ends_from-append 0 front (own ++ back) ∙ ap (λ zs. ends_from 0 front ++ zs) (ends_from-append (0 + start) own back) in
    subst (λ zs. Contains (0 ∷ zs) (start + n)) (sym parts)
    (⊎_elim
    (λ here.
    let at : 0 + start ≡ start + n = omega arith in
    Contains-append_left (0 ∷ ends_from 0 front) rest (start + n) (subst (Contains (0 ∷ ends_from 0 front)) at (ends_from-last 0 front)))
    (λ past.
    let moved : start + 0 ≡ 0 + start = omega arith in
    Contains-append_right (0 ∷ ends_from 0 front) rest (start + n)
    (Contains-append_left (ends_from (0 + start) own) _ (start + n)
    (subst (λ m. Contains (ends_from m own) (start + n)) moved (ends_from-moved 0 start own n past))))
    (first_or_later 0 _ n found))

-- the clusters of lines are the lines
pub clusters-whole : (line : List ℕ) → all_scalars line ≡ true → concat (clusters_in line) ≡ line
clusters-whole line scalars = concat-clusters (encode_utf8_all line) (line, (scalars, refl)) ∙ chars-encodes line scalars

pub lines-whole : (lines : List (List ℕ)) → all_scalars (concat lines) ≡ true → concat (flat_map clusters_in lines) ≡ concat lines
lines-whole [] scalars = refl
lines-whole (line ∷ lines) scalars =
    let parts = all_scalars-parts line (concat lines) scalars in
    concat-append (clusters_in line) (flat_map clusters_in lines) ∙ ap₂ (λ xs ys. xs ++ ys) (clusters-whole line parts.0) (lines-whole lines parts.1)

module _ (text : List ℕ) (line : LogicalLine) (are : AreParts text line) (scalars : all_scalars text ≡ true) where
  text-parts : text ≡ concat are.front ++ (line.text ++ concat are.back)
  text-parts = text-is text line are

  -- the characters of the line are characters, and it ends within the text
  pub scalars-line : all_scalars line.text ≡ true
  scalars-line =
      let back = (all_scalars-parts (concat are.front) _ (subst (λ t. all_scalars t ≡ true) text-parts scalars)).1 in
      (all_scalars-parts line.text _ back).0

  pub end-le : line.start + length line.text ≤ length text
  end-le =
      omega (arith, are.start, ap length text-parts, length-append (concat are.front) (line.text ++ concat are.back), length-append line.text (concat are.back))

  front-long : length (concat (flat_map clusters_in are.front)) ≡ line.start
  front-long =
      ap length (lines-whole are.front (all_scalars-parts (concat are.front) _ (subst (λ t. all_scalars t ≡ true) text-parts scalars)).0) ∙ sym are.start

  clusters-parts : flat_map clusters_in (logical_lines text) ≡ flat_map clusters_in are.front ++ (clusters_in line.text ++ flat_map clusters_in are.back)
  clusters-parts = ap (flat_map clusters_in) are.parts ∙ concat-flat_map-append are.front (line.text ∷ are.back)

  -- THE BOUNDARIES OF A TEXT IN A LINE are those of the line
  pub place-in_line : (n : ℕ) → line.start ≤ n → n ≤ line.start + length line.text → IsPlace text n → Contains (0 ∷ ends_from 0 (clusters_in line.text)) (n - line.start)
  place-in_line n low high place =
      let own = clusters_in line.text in
      let long = ap length (clusters-whole line.text scalars-line) in
      let start = front-long in
      let found = cuts-in (flat_map clusters_in are.front) own (flat_map clusters_in are.back) n (omega arith) (omega arith)
      (subst (λ cs. Contains (0 ∷ ends_from 0 cs) n) clusters-parts place) in
      subst (λ m. Contains (0 ∷ ends_from 0 own) (n - m)) start found

  pub place-from_line : (n : ℕ) → Contains (0 ∷ ends_from 0 (clusters_in line.text)) n → IsPlace text (line.start + n)
  place-from_line n found =
      subst (λ cs. Contains (0 ∷ ends_from 0 cs) (line.start + n)) (sym clusters-parts)
      (subst (λ m. Contains (0 ∷ ends_from 0 (flat_map clusters_in are.front ++ (clusters_in line.text ++ flat_map clusters_in are.back))) (m + n)) front-long
      (cuts-from (flat_map clusters_in are.front) (clusters_in line.text) (flat_map clusters_in are.back) n found))
