-- How many characters an edit inserts.
use Rattle.std.proofs.Common.{◌≡◌, ℕ, zero, suc, ◌+◌, ◌<◌, ◌≤◌, inl, inr, Bool, true, false, cond, if◌then◌else◌, nat_lt, ◌==◌, List, [], ◌∷◌, ◌++◌, length, map, flat_map, count_by, Option, Some, None, length-append, refl, ap, sym, ◌∙◌, arith}
use Rattle.std.specs.Prelude.{unwrap_or}
use Rattle.std.specs.List.{AllByRecursion, range_with_len}
use Rattle.std.proofs.lemmas.Bool.{cases_eq, eq-eqb, ne_eqb, lt-ltb}
use Rattle.std.proofs.lemmas.List.{length-map}
use Rattle.std.proofs.lemmas.List.Sums.{sum_by-append, sum_by-cons}
use Rattle.subset_runs.specs.Subset.{count}
use Rattle.subset_runs.proofs.ForCallers.{count-append}
use Rattle.plain_edits.specs.declared.delta.Delta.{Delta}
use Rattle.plain_edits.specs.declared.delta.UnitDelta.{UnitDelta}
use Rattle.plain_edits.specs.declared.delta.El.{El}
use Rattle.plain_edits.specs.declared.delta.El.TheVariants.{Copy, Insert}
use Rattle.plain_text.specs.Text.{gap_at, gap_of}
use Rattle.plain_edits.specs.Delta.{adds, insertions}
use Rattle.plain_edits.specs.declared.delta.Added.{Added}
use Rattle.plain_edits.specs.UnitDelta.{AreAdds, IsUnitDelta, unit_adds}
use Rattle.plain_text.specs.Woven.{woven}
use Rattle.plain_edits.specs.History.{Tagged, History, head, visible_at, text_at, inserted_count}
use Rattle.plain_edits.specs.Edits.{PlainEdit, with_deletion, edited, inserted_at, is_deleted_by, plain_edit}
use Rattle.plain_edits.specs.Delta.{inserted_len}
use Rattle.plain_text.proofs.callers.ListLemmas.{count_by-yes, flat_map_same}
use Rattle.plain_edits.proofs.callers.HistoryLemmas.{AllByRecursion-inserted_at}
use Rattle.plain_text.proofs.callers.TextLemmas.{gap_at_iff}
use Rattle.delta_core.specs.Units.{IsUnitsOf}
use Rattle.rev_list.specs.WithoutText.{insertion_flags}
use Rattle.rev_rebase.specs.Rebase.{added_text, text_of_edit}
use Rattle.rev_rebase.proofs.ForCallers.{count-insertion_flags}

-- ---- texts by their places are as long as the texts

length-both : {Y : Type 0} (f g : ℕ → List Y) (xs : List ℕ) →
    length (flat_map (λ i. f i ++ g i) xs) ≡ length (flat_map f xs) + length (flat_map g xs)
length-both f g [] = refl
length-both f g (x ∷ xs) =
    omega (
      arith,
      length-both f g xs,
      length-append (f x ++ g x) (flat_map (λ i. f i ++ g i) xs),
      length-append (f x) (g x),
      length-append (f x) (flat_map f xs),
      length-append (g x) (flat_map g xs),
    )

length-nothing : (Y : Type 0) (xs : List ℕ) → length (flat_map {X = ℕ} {A = Y} (λ _. []) xs) ≡ 0
length-nothing Y [] = refl
length-nothing Y (x ∷ xs) = length-nothing Y xs

text_before : {Y : Type 0} (text : List Y) (at from n : ℕ) → at < from →
    length (flat_map (λ index. if at == index then text else []) (range_with_len from n)) ≡ 0
text_before text at from zero below = refl
text_before text at from (suc n) below =
    ap (λ b. length ((if b then text else []) ++ flat_map (λ index. if at == index then text else []) (range_with_len (from + 1) n)))
    (ne_eqb at from (λ hit. omega (arith, hit, below))) ∙
    text_before text at (from + 1) n (omega (arith, below))

text_once : {Y : Type 0} (text : List Y) (at from n : ℕ) → from ≤ at → at < from + n →
    length (flat_map (λ index. if at == index then text else []) (range_with_len from n)) ≡ length text
text_once text at from zero low high = absurd (omega (arith, low, high))
text_once {Y = Y} text at from (suc n) low high =
    elim (cases_eq at from) [
      | inl here ↦
          ap (λ b. length ((if b then text else []) ++ rest)) (eq-eqb at from here) ∙
          omega (arith, length-append text rest, text_before text at (from + 1) n (omega (arith, here)))
      | inr other ↦
          ap (λ b. length ((if b then text else []) ++ rest)) (ne_eqb at from other) ∙
          text_once text at (from + 1) n (omega (arith, other, low)) (omega (arith, high))
    ]
  where
    rest : List Y
    rest = flat_map (λ index. if at == index then text else []) (range_with_len (from + 1) n)

length-by_place : {X Y : Type 0} (place : X → ℕ) (texts : X → List Y) (n : ℕ) (xs : List X) → AllByRecursion (λ x. place x < n) xs →
    length (flat_map (λ index. flat_map (λ x. if place x == index then texts x else []) xs) (range_with_len 0 n)) ≡ length (flat_map texts xs)
length-by_place place texts n [] within = length-nothing _ (range_with_len 0 n)
length-by_place place texts n (x ∷ xs) within =
    length-both (λ index. if place x == index then texts x else []) (λ index. flat_map (λ y. if place y == index then texts y else []) xs) (range_with_len 0 n) ∙
    omega (
      arith,
      text_once (texts x) (place x) 0 n (omega arith) (omega (arith, within.0)),
      length-by_place place texts n xs within.1,
      length-append (texts x) (flat_map texts xs),
    )

-- ---- the characters of a delta

gap_of-le : (text : List ℕ) (at : ℕ) → gap_of text at ≤ length text
gap_of-le text at = go (gap_at text at) refl
  where
    go : (found : Option ℕ) → gap_at text at ≡ found → unwrap_or found 0 ≤ length text
    go None is = omega arith
    go (Some gap) is = ((gap_at_iff text at gap).0 is).0

insertions_within : (text : List ℕ) (gap : ℕ) (els : List El) → gap ≤ length text →
    AllByRecursion (λ added. added.gap < length text + 1) (insertions text gap els)
insertions_within text gap [] within = tt
insertions_within text gap (Insert added ∷ els) within = (omega (arith, within), insertions_within text gap els within)
insertions_within text gap (Copy a b ∷ els) within = insertions_within text (gap_of text b) els (gap_of-le text b)

length-insertions : (text : List ℕ) (gap : ℕ) (els : List El) → length (flat_map (λ added. added.text) (insertions text gap els)) ≡ inserted_len els
length-insertions text gap [] = refl
length-insertions text gap (Insert added ∷ els) =
    length-append added (flat_map (λ more. more.text) (insertions text gap els)) ∙ ap (λ n. length added + n) (length-insertions text gap els)
length-insertions text gap (Copy a b ∷ els) = length-insertions text (gap_of text b) els

-- what a delta adds over all gaps of a text, also where it does not fit
pub length-adds : (text : List ℕ) (delta : Delta) → length (flat_map (adds text delta) (range_with_len 0 (length text + 1))) ≡ inserted_len delta.els
length-adds text delta =
    length-by_place (λ added. added.gap) (λ added. added.text) (length text + 1) (insertions text 0 delta.els) (insertions_within text 0 delta.els (omega arith)) ∙
    length-insertions text 0 delta.els

pub length-added_text : (text : List ℕ) (delta : Delta) (units : UnitDelta) → IsUnitsOf text delta units → length (added_text units) ≡ inserted_len delta.els
length-added_text text delta units is =
    ap length (flat_map_same (unit_adds units) (adds text delta) is.added (range_with_len 0 (units.base + 1))) ∙
    (ap (λ n. length (flat_map (adds text delta) (range_with_len 0 (n + 1)))) is.base ∙ length-adds text delta)

-- ---- the characters of a unit delta

adds-within : (base from : ℕ) (adds : List Added) → AreAdds base from adds → AllByRecursion (λ added. added.gap < base + 1) adds
adds-within base from [] are = tt
adds-within base from (added ∷ adds) are = (omega (arith, are.1), adds-within base (added.gap + 1) adds are.3)

pub length-units : (units : UnitDelta) → IsUnitDelta units → length (added_text units) ≡ length (flat_map (λ added. added.text) units.added)
length-units units is =
    length-by_place (λ added. added.gap) (λ added. added.text) (units.base + 1) units.added (adds-within units.base 0 units.added is.adds)

-- ---- the characters of an edit

abbrev is_later : Tagged → Bool
is_later tagged = nat_lt 0 tagged.inserted

pub count_by-all : {X : Type 0} (p : X → Bool) (xs : List X) → AllByRecursion (λ x. p x ≡ true) xs → count_by p xs ≡ length xs
count_by-all p [] all = refl
count_by-all p (x ∷ xs) all = count_by-yes p x xs all.0 ∙ omega (arith, count_by-all p xs all.1)

count-trues : {X : Type 0} (xs : List X) → count (map (λ _. true) xs) ≡ length xs
count-trues [] = refl
count-trues (x ∷ xs) = omega (arith, count-trues xs)

abbrev one : Tagged → ℕ
one tagged = cond (is_later tagged) 1 0

same_one : (rev : ℕ) (b : Bool) (tagged : Tagged) → one (if b then with_deletion rev tagged else tagged) ≡ one tagged
same_one rev true tagged = refl
same_one rev false tagged = refl

spent_woven : (rev : ℕ) (between : ℕ → List Tagged) (drops : ℕ → Tagged → Bool) → ((i : ℕ) → count_by is_later (between i) ≡ length (between i)) →
    (index : ℕ) (xs : List Tagged) →
    count_by is_later (woven between (λ i t. (if drops i t then with_deletion rev t else t) ∷ []) index xs) ≡
    count_by is_later xs + count (woven (λ i. map (λ _. true) (between i)) (λ _ _. false ∷ []) index xs)
spent_woven rev between drops new index [] = omega (arith, new index, count-trues (between index))
spent_woven rev between drops new index (x ∷ xs) =
    let tag : Tagged = if drops index x then with_deletion rev x else x in
    let rest : List Tagged = woven between (λ i t. (if drops i t then with_deletion rev t else t) ∷ []) (index + 1) xs in
    let flags : List Bool = woven (λ i. map (λ _. true) (between i)) (λ _ _. false ∷ []) (index + 1) xs in
    omega (
      arith,
      sum_by-append one (between index) (tag ∷ rest),
      sum_by-cons one tag rest,
      sum_by-cons one x xs,
      same_one rev (drops index x) x,
      new index,
      count-trues (between index),
      count-append (map (λ _. true) (between index)) (false ∷ flags),
      spent_woven rev between drops new (index + 1) xs,
    )

inserted_count-flags : (h : History) (e : PlainEdit) → inserted_count (edited h e) ≡ inserted_count h + count (insertion_flags h e)
inserted_count-flags h e = spent_woven (head h + 1) (inserted_at h e) (is_deleted_by h e) new 0 h.characters
  where
    new : (i : ℕ) → count_by is_later (inserted_at h e i) ≡ length (inserted_at h e i)
    new i =
        count_by-all is_later (inserted_at h e i)
        (AllByRecursion-inserted_at (λ tagged. is_later tagged ≡ true) h e (λ c. lt-ltb 0 (head h + 1) (omega arith)) i)

pub inserted_count-edited : (h : History) (e : PlainEdit) → inserted_count (edited h e) ≡ inserted_count h + length (text_of_edit h e)
inserted_count-edited h e = inserted_count-flags h e ∙ ap (λ n. inserted_count h + n) (count-insertion_flags h e)

-- an edit spends the characters of its delta
pub inserted_count-plain : (h : History) (base : ℕ) (delta : Delta) (group priority author : ℕ) →
    inserted_count (edited h (plain_edit h base delta group priority author)) ≡ inserted_count h + inserted_len delta.els
inserted_count-plain h base delta group priority author =
    inserted_count-edited h (plain_edit h base delta group priority author) ∙
    ap (λ n. inserted_count h + n)
    (ap (λ n. length (flat_map (adds (text_at h base) delta) (range_with_len 0 (n + 1)))) (sym (length-map (visible_at h base) (λ tagged. tagged.character))) ∙
    length-adds (text_at h base) delta)
