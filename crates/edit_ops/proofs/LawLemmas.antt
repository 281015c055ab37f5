-- What replacements come to, in plain lists.
use Rattle.std.proofs.Common.{◌≡◌, ⊎_elim, ℕ, zero, suc, ◌+◌, ◌-◌, ◌<◌, ◌≤◌, Bool, true, false, List, [], ◌∷◌, ◌++◌, map, cond, length, take, drop, get_or, append-nil, length-append, refl, sym, ap, ap₂, ◌∙◌, arith}
use Rattle.std.specs.Prelude.{nat_lt, nat_le, ◌==◌, ◌&&◌, if◌then◌else◌}
use Rattle.std.specs.List.{AllByRecursion, count_by, filter, range_with_len, sum_by}
use Rattle.std.proofs.lemmas.Bool.{cases_Bool, cases_lt, eq-eqb, le-leb, le-ltb, lt-leb, lt-ltb, ne_eqb}
use Rattle.std.proofs.lemmas.List.Sums.{sum_by-cons}
use Rattle.plain_text.specs.Woven.{woven}
use Rattle.plain_text.specs.declared.selection.Region.{Region}
use Rattle.plain_edits.specs.Delta.{applied}
use Rattle.plain_edits.specs.UnitDelta.{unit_adds, unit_keeps}
use Rattle.plain_edits.specs.declared.delta.UnitDelta.{UnitDelta}
use Rattle.plain_edits.proofs.callers.CaretLemmas.{sum-last}
use Rattle.selection_core.specs.Selection.{caret_of, greater_end, lesser_end}
use Rattle.edit_ops.specs.declared.replacement.Replacement.{Replacement}
use Rattle.edit_ops.specs.Replacements.{IsEditOf, added_by, carets_with, gap_with, kept_by, replaced_by, text_with}

-- what a text becomes from an index on
abbrev pub applied_from : (ℕ → Bool) → (ℕ → List ℕ) → ℕ → List ℕ → List ℕ
applied_from kept added index text = woven added (λ i c. if kept i then c ∷ [] else []) index text

-- ---- the same edit gives the same text

applied_from_same : (kept kept' : ℕ → Bool) (added added' : ℕ → List ℕ) (index : ℕ) (text : List ℕ) → ((i : ℕ) → i < index + length text → kept i ≡ kept' i) →
    ((gap : ℕ) → added gap ≡ added' gap) → applied_from kept added index text ≡ applied_from kept' added' index text
applied_from_same kept kept' added added' index [] keeps adds = adds index
applied_from_same kept kept' added added' index (c ∷ text) keeps adds =
    ap₂ (λ front back. front ++ back) (adds index)
    (ap₂ (λ b back. (if b then c ∷ [] else []) ++ back) (keeps index (omega arith))
    (applied_from_same kept kept' added added' (index + 1) text (λ i below. keeps i (omega arith)) adds))

pub text_with-edit : (text : List ℕ) (replacements : List Replacement) (units : UnitDelta) → IsEditOf (length text) replacements units →
    applied (unit_keeps units) (unit_adds units) text ≡ text_with replacements text
text_with-edit text replacements units is =
    applied_from_same (unit_keeps units) (kept_by replacements) (unit_adds units) (added_by replacements) 0 text (λ i below. is.kept i (omega arith)) is.added

-- ---- what keeps all

whole-applied_from : (kept : ℕ → Bool) (added : ℕ → List ℕ) (index : ℕ) (text : List ℕ) → ((i : ℕ) → kept i ≡ true) → ((gap : ℕ) → added gap ≡ []) →
    applied_from kept added index text ≡ text
whole-applied_from kept added index [] keeps adds = adds index
whole-applied_from kept added index (c ∷ text) keeps adds =
    rw (adds index, keeps index) (ap (λ rest. c ∷ rest) (whole-applied_from kept added (index + 1) text keeps adds))

-- an empty range has no character
pub outside-empty : (start end index : ℕ) → end ≤ start → (nat_le start index && nat_lt index end) ≡ false
outside-empty start end index none =
    ⊎_elim
    (λ (left : index < start). rw (lt-leb start index left) refl)
    (λ (reached : start ≤ index). rw (le-leb start index reached, le-ltb index end (omega arith)) refl)
    (cases_lt index start)

kept_by-empty : (replacements : List Replacement) (index : ℕ) → AllByRecursion (λ r. (r.range.end ≤ r.range.start) × (r.text ≡ [])) replacements →
    kept_by replacements index ≡ true
kept_by-empty [] index all = refl
kept_by-empty (r ∷ replacements) index all =
    rw (outside-empty r.range.start r.range.end index all.0.0) (kept_by-empty replacements index all.1)

pub no_text : (b : Bool) (text : List ℕ) → text ≡ [] → (if b then text else []) ≡ []
no_text true text none = none
no_text false text none = refl

pub added_by-none : (replacements : List Replacement) (gap : ℕ) → AllByRecursion (λ r. r.text ≡ []) replacements → added_by replacements gap ≡ []
added_by-none [] gap all = refl
added_by-none (r ∷ replacements) gap all = rw (no_text (r.range.start == gap) r.text all.0) (added_by-none replacements gap all.1)

texts_of : (replacements : List Replacement) → AllByRecursion (λ r. (r.range.end ≤ r.range.start) × (r.text ≡ [])) replacements →
    AllByRecursion (λ r. r.text ≡ []) replacements
texts_of [] all = all
texts_of (r ∷ replacements) all = (all.0.1, texts_of replacements all.1)

pub text_with-empty : (text : List ℕ) (replacements : List Replacement) →
    AllByRecursion (λ r. (r.range.end ≤ r.range.start) × (r.text ≡ [])) replacements → text_with replacements text ≡ text
text_with-empty text replacements all =
    whole-applied_from (kept_by replacements) (added_by replacements) 0 text (λ i. kept_by-empty replacements i all)
    (λ gap. added_by-none replacements gap (texts_of replacements all))

-- ---- what deletions leave

rest-applied_from : (kept : ℕ → Bool) (added : ℕ → List ℕ) (at : ℕ → ℕ) (index : ℕ) (text : List ℕ) → ((gap : ℕ) → added gap ≡ []) →
    ((i : ℕ) → i < length text → at (index + i) ≡ get_or text i 0) →
    applied_from kept added index text ≡ map at (filter kept (range_with_len index (length text)))
rest-applied_from kept added at index [] adds same = adds index
rest-applied_from kept added at index (c ∷ text) adds same =
    let first : index ≡ index + 0 = omega arith in
    let here : c ≡ at index = sym (ap at first ∙ same 0 (omega arith)) in
    let later : (i : ℕ) → i < length text → at (index + 1 + i) ≡ get_or text i 0 =
    λ i below. let sum : index + 1 + i ≡ index + suc i = omega arith in ap at sum ∙ same (suc i) (omega arith) in
    let others = rest-applied_from kept added at (index + 1) text adds later in
    ⊎_elim
    (λ (keeps : kept index ≡ true). rw (adds index, keeps) (ap₂ (λ x xs. x ∷ xs) here others))
    (λ (drops : kept index ≡ false). rw (adds index, drops) others)
    (cases_Bool (kept index))

pub text_with-deletions : (text : List ℕ) (replacements : List Replacement) → AllByRecursion (λ r. r.text ≡ []) replacements →
    text_with replacements text ≡ map (λ index. get_or text index 0) (filter (kept_by replacements) (range_with_len 0 (length text)))
text_with-deletions text replacements all =
    rest-applied_from (kept_by replacements) (added_by replacements) (λ index. get_or text index 0) 0 text (λ gap. added_by-none replacements gap all)
    (λ i below. let same : 0 + i ≡ i = omega arith in ap (λ n. get_or text n 0) same)

-- ---- sums of what is alike

count_all : (p : ℕ → Bool) (from n : ℕ) → ((i : ℕ) → i < from + n → p i ≡ true) → count_by p (range_with_len from n) ≡ n
count_all p from zero each = refl
count_all p from (suc n) each =
    let one : cond (p from) 1 0 ≡ suc zero = ap (λ b. cond b 1 0) (each from (omega arith)) in
    omega (arith, sum_by-cons (λ i. cond (p i) 1 0) from (range_with_len (from + 1) n), one, count_all p (from + 1) n (λ i below. each i (omega arith)))

sum_none : (f : ℕ → ℕ) (from n : ℕ) → ((i : ℕ) → i < from + n → f i ≡ 0) → sum_by f (range_with_len from n) ≡ 0
sum_none f from zero each = refl
sum_none f from (suc n) each =
    omega (arith, sum_by-cons f from (range_with_len (from + 1) n), each from (omega arith), sum_none f (from + 1) n (λ i below. each i (omega arith)))

-- ---- typing over one range

module _ (start end : ℕ) (chars : List ℕ) (rises : start ≤ end) where
  abbrev one : List Replacement
  one = record { range = record { start = start; end = end }; text = chars } ∷ []

  keeps-before : (index : ℕ) → index < start → kept_by one index ≡ true
  keeps-before index left = rw (lt-leb start index left) refl

  keeps-within : (index : ℕ) → start ≤ index → index < end → kept_by one index ≡ false
  keeps-within index reached left = rw (le-leb start index reached, lt-ltb index end left) refl

  keeps-past : (index : ℕ) → end ≤ index → kept_by one index ≡ true
  keeps-past index past = rw (le-leb start index (omega (arith, rises)), le-ltb index end past) refl

  adds-at : (gap : ℕ) → start ≡ gap → added_by one gap ≡ chars
  adds-at gap same = rw (eq-eqb start gap same) (append-nil chars)

  adds-elsewhere : (gap : ℕ) → (start ≡ gap → ⊥) → added_by one gap ≡ []
  adds-elsewhere gap differ = rw (ne_eqb start gap differ) refl

  typed-past : (index : ℕ) (text : List ℕ) → start < index → end ≤ index + length text →
      applied_from (kept_by one) (added_by one) index text ≡ drop (end - index) text
  typed-past index [] past within =
      let none : end - index ≡ 0 = omega arith in
      rw none (adds-elsewhere index (λ same. omega (arith, same)))
  typed-past index (c ∷ text) past within =
      let off = adds-elsewhere index (λ same. omega (arith, same)) in
      let others = typed-past (index + 1) text (omega arith) (omega arith) in
      ⊎_elim
      (λ (inside : index < end).
      let more : end - index ≡ suc (end - (index + 1)) = omega arith in
      rw (off, keeps-within index (omega arith) inside, more) others)
      (λ (beyond : end ≤ index).
      let none : end - index ≡ 0 = omega arith in
      let none_later : end - (index + 1) ≡ 0 = omega arith in
      rw (off, keeps-past index beyond, none) (ap (λ rest. c ∷ rest) (others ∙ ap (λ n. drop n text) none_later)))
      (cases_lt index end)

  typed-up_to : (index : ℕ) (text : List ℕ) → index ≤ start → end ≤ index + length text →
      applied_from (kept_by one) (added_by one) index text ≡ take (start - index) text ++ (chars ++ drop (end - index) text)
  typed-up_to index [] ahead within =
      let none : start - index ≡ 0 = omega (arith, rises) in
      let none_end : end - index ≡ 0 = omega arith in
      rw (none, none_end) (adds-at index (omega (arith, rises)) ∙ sym (append-nil chars))
  typed-up_to index (c ∷ text) ahead within =
      ⊎_elim
      (λ (left : index < start).
      let off = adds-elsewhere index (λ same. omega (arith, same)) in
      let more : start - index ≡ suc (start - (index + 1)) = omega arith in
      let more_end : end - index ≡ suc (end - (index + 1)) = omega (arith, rises) in
      rw (off, keeps-before index left, more, more_end) (ap (λ rest. c ∷ rest) (typed-up_to (index + 1) text (omega arith) (omega arith))))
      (λ (reached : start ≤ index).
      let none : start - index ≡ 0 = omega arith in
      let on = adds-at index (omega arith) in
      let others = typed-past (index + 1) text (omega arith) (omega arith) in
      ⊎_elim
      (λ (inside : index < end).
      let more : end - index ≡ suc (end - (index + 1)) = omega arith in
      rw (on, keeps-within index reached inside, none, more) (ap (λ rest. chars ++ rest) others))
      (λ (beyond : end ≤ index).
      let none_end : end - index ≡ 0 = omega arith in
      let none_later : end - (index + 1) ≡ 0 = omega arith in
      rw (on, keeps-past index beyond, none, none_end) (ap (λ rest. chars ++ c ∷ rest) (others ∙ ap (λ n. drop n text) none_later)))
      (cases_lt index end))
      (cases_lt index start)

  caret-typed : gap_with one start ≡ start + length chars
  caret-typed =
      let kept = count_all (kept_by one) 0 start (λ i below. keeps-before i (omega arith)) in
      let before = sum_none (λ gap. length (added_by one gap)) 0 start (λ gap below. ap length (adds-elsewhere gap (λ same. omega (arith, same)))) in
      let here : length (added_by one (0 + start)) ≡ length chars = ap length (adds-at (0 + start) (omega arith)) in
      omega (arith, kept, before, here, sum-last (λ gap. length (added_by one gap)) 0 start)

pub typing : (text chars : List ℕ) (region : Region) → greater_end region ≤ length text →
    (text_with (replaced_by chars region ∷ []) text ≡ take (lesser_end region) text ++ (chars ++ drop (greater_end region) text)) ×
    (carets_with (replaced_by chars region ∷ []) ≡ caret_of (lesser_end region + length chars) ∷ [])
typing text chars region inside =
    let low : lesser_end region - 0 ≡ lesser_end region = omega arith in
    let high : greater_end region - 0 ≡ greater_end region = omega arith in (
      typed-up_to (lesser_end region) (greater_end region) chars (omega arith) 0 text (omega arith) (omega (arith, inside)) ∙
          ap₂ (λ s e. take s text ++ (chars ++ drop e text)) low high,
      ap (λ gap. caret_of gap ∷ []) (caret-typed (lesser_end region) (greater_end region) chars (omega arith)),
    )

-- ---- the length of the text after

length-if : (b : Bool) (c : ℕ) → length (if b then c ∷ [] else []) ≡ cond b 1 0
length-if true c = refl
length-if false c = refl

length-applied_from : (kept : ℕ → Bool) (added : ℕ → List ℕ) (index : ℕ) (text : List ℕ) →
    length (applied_from kept added index text) ≡
    count_by kept (range_with_len index (length text)) + sum_by (λ gap. length (added gap)) (range_with_len index (length text + 1))
length-applied_from kept added index [] =
    let one : 0 + 1 ≡ suc zero = omega arith in
    omega
    (arith, sum_by-cons (λ gap. length (added gap)) index [], ap (λ n. sum_by (λ gap. length (added gap)) (range_with_len index n)) one)
length-applied_from kept added index (c ∷ text) =
    let more : suc (length text) + 1 ≡ suc (length text + 1) = omega arith in
    let here = (if kept index then c ∷ [] else []) in
    let rest = applied_from kept added (index + 1) text in
    omega (
      arith,
      length-append (added index) (here ++ rest),
      length-append here rest,
      length-if (kept index) c,
      sum_by-cons (λ i. cond (kept i) 1 0) index (range_with_len (index + 1) (length text)),
      sum_by-cons (λ gap. length (added gap)) index (range_with_len (index + 1) (length text + 1)),
      ap (λ n. sum_by (λ gap. length (added gap)) (range_with_len index n)) more,
      length-applied_from kept added (index + 1) text,
    )

pub length-text_with : (text : List ℕ) (replacements : List Replacement) → length (text_with replacements text) ≡ gap_with replacements (length text)
length-text_with text replacements = length-applied_from (kept_by replacements) (added_by replacements) 0 text
