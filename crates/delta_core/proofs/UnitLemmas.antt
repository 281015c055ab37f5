-- Lemmas on a delta as it becomes a unit delta, element by element.
use Rattle.std.proofs.Common.{◌≡◌, ℕ, zero, suc, true, false, Bool, not, ◌+◌, ◌≤◌, List, Option, Some, None, [], ◌∷◌, ◌++◌, length, append-nil, append_assoc, refl, ap, sym, ◌∙◌, arith, zero-add}
use Rattle.std.specs.Prelude.{if◌then◌else◌, nat_lt, ◌==◌, ◌||◌, unwrap_or, is_some, nat_le, ◌&&◌}
use Rattle.std.proofs.lemmas.Str.{len_utf8_bounds}
use Rattle.std.proofs.lemmas.Bool.{ltb-false, false≢true}
use Rattle.plain_text.specs.declared.run.Run.{Run}
use Rattle.plain_edits.specs.declared.delta.Misfit.{Misfit}
use Rattle.plain_edits.specs.declared.delta.El.{El}
use Rattle.plain_edits.specs.declared.delta.El.TheVariants.{Copy, Insert}
use Rattle.plain_edits.specs.declared.delta.Delta.{Delta}
use Rattle.plain_edits.specs.declared.delta.UnitDelta.{UnitDelta}
use Rattle.plain_text.specs.Text.{byte_len, gap_at, gap_of, is_place, place_of}
use Rattle.plain_edits.specs.Delta.{copy_misfit, copies_misfit, or_later, is_in_runs, text_at_gap, kept_runs, insertions, keeps, adds, applied, Fits}
use Rattle.plain_edits.specs.UnitDelta.{unit_keeps, unit_adds, IsCanonical}
use Rattle.plain_text.specs.Woven.{woven}
use Rattle.delta_core.specs.Inner.{run_to}
use Rattle.delta_core.specs.Units.{IsUnitsOf}
use Rattle.delta_core.specs.Inner.{PutsElement}
use Rattle.plain_text.proofs.callers.PlaceLemmas.{IsPlaced-from, gap_from-seam}

if_none : (b : Bool) (misfit : Misfit) (later : Option Misfit) → (if b then Some misfit else later) ≡ None → (b ≡ false) × (later ≡ None)
if_none true misfit later none = absurd cc
if_none false misfit later none = (refl, none)

not_false : (b : Bool) → not b ≡ false → b ≡ true
not_false true e = refl
not_false false e = absurd (false≢true (sym e))

or_none : (b c : Bool) → (b || c) ≡ false → (b ≡ false) × (c ≡ false)
or_none true c e = absurd (false≢true (sym e))
or_none false c e = (refl, e)

later_none : (one later : Option Misfit) → or_later one later ≡ None → (one ≡ None) × (later ≡ None)
later_none None later none = (refl, none)
later_none (Some misfit) later none = absurd cc

-- what the ends of a copy that fits are
pub record CopyFits (text : List ℕ) (end a b : ℕ) : Type 0 where
  pub after : end ≤ a
  pub rises : a ≤ b
  pub within : b ≤ byte_len text
  pub start : is_place text a ≡ true
  pub stop : is_place text b ≡ true

pub CopyFits-from : (text : List ℕ) (end a b : ℕ) (els : List El) → copies_misfit text end (Copy a b ∷ els) ≡ None → CopyFits text end a b × (copies_misfit text b els ≡ None)
CopyFits-from text end a b els none =
    let parts = later_none (copy_misfit text end a b) (copies_misfit text b els) none in
    let order = if_none (nat_lt b a || nat_lt a end) _ _ parts.0 in
    let far = if_none (nat_lt (byte_len text) b) _ _ order.1 in
    let one = if_none (not (is_place text a)) _ _ far.1 in
    let other = if_none (not (is_place text b)) _ _ one.1 in
    let tests = or_none (nat_lt b a) (nat_lt a end) order.0 in (
      record {
        after = ltb-false a end tests.1;
        rises = ltb-false b a tests.0;
        within = ltb-false (byte_len text) b far.0;
        start = not_false (is_place text a) one.0;
        stop = not_false (is_place text b) other.0;
      },
      parts.1,
    )

gap_le_place : (text : List ℕ) (gap : ℕ) → gap ≤ length text → gap ≤ place_of text gap
gap_le_place text zero within = omega arith
gap_le_place [] (suc gap) within = absurd (omega arith)
gap_le_place (c ∷ text) (suc gap) within = omega (arith, gap_le_place text gap (omega arith), len_utf8_bounds c)

pub gap_of-le : (text : List ℕ) (at : ℕ) → is_place text at ≡ true → gap_of text at ≤ at
gap_of-le text at is =
    let found = IsPlaced-from text at is in
    omega (arith, gap_le_place text found.0 found.1.within, found.1.place, found.1.of)

pub PutsElement-copy : (text : List ℕ) (at a b : ℕ) (old passed new : UnitDelta) (n m : ℕ) → old.base ≡ gap_of text at →
    CopyFits text at a b → gap_of text at + n ≡ gap_of text a → gap_of text a + m ≡ gap_of text b →
    passed.base ≡ old.base + n → ((index : ℕ) → unit_keeps passed index ≡ unit_keeps old index) → ((gap : ℕ) → unit_adds passed gap ≡ unit_adds old gap) →
    new.base ≡ passed.base + m → ((index : ℕ) → unit_keeps new index ≡ (unit_keeps passed index || is_in_runs (run_to passed.base (passed.base + m) ∷ []) index)) →
    ((gap : ℕ) → unit_adds new gap ≡ unit_adds passed gap) → PutsElement text at (Copy a b) old new b
PutsElement-copy text at a b old passed new n m base good over through passed_base passed_kept passed_added new_base new_kept new_added =
    let first : passed.base ≡ gap_of text a = omega arith in
    let last : passed.base + m ≡ gap_of text b = omega arith in
    record {
      place = good.stop;
      base = omega arith;
      fits = λ els none. (CopyFits-from text at a b els none).1;
      kept = λ els index.
          let here : unit_keeps new index ≡ (unit_keeps old index || is_in_runs (run_to (gap_of text a) (gap_of text b) ∷ []) index) =
          rw (← first, ← last, ← passed_kept index) (new_kept index) in
          ap (λ x. x || is_in_runs (kept_runs text els) index) here ∙ one_run (unit_keeps old index) (gap_of text a) (gap_of text b) (kept_runs text els) index;
      added = λ els gap. ap (λ t. t ++ text_at_gap (insertions text (gap_of text b) els) gap) (new_added gap ∙ passed_added gap);
    }
  where
    one_run : (x : Bool) (from to : ℕ) (runs : List Run) (i : ℕ) →
        ((x || is_in_runs (run_to from to ∷ []) i) || is_in_runs runs i) ≡ (x || is_in_runs (run_to from to ∷ runs) i)
    one_run true from to runs i = refl
    one_run false from to runs i = ap (λ y. y || is_in_runs runs i) (last (nat_le from i && nat_lt i to))
      where
        last : (y : Bool) → (y || false) ≡ y
        last true = refl
        last false = refl

pub PutsElement-insert : (text more : List ℕ) (at : ℕ) (old new : UnitDelta) → is_place text at ≡ true → old.base ≡ gap_of text at → new.base ≡ old.base →
    ((index : ℕ) → unit_keeps new index ≡ unit_keeps old index) →
    ((gap : ℕ) → unit_adds new gap ≡ unit_adds old gap ++ (if old.base == gap then more else [])) → PutsElement text at (Insert more) old new at
PutsElement-insert text more at old new place base new_base new_kept new_added = record {
  place = place;
  base = new_base ∙ base;
  fits = λ els none. none;
  kept = λ els index. ap (λ x. x || is_in_runs (kept_runs text els) index) (new_kept index);
  added = λ els gap.
      ap (λ t. t ++ text_at_gap (insertions text (gap_of text at) els) gap) (new_added gap ∙ ap (λ k. unit_adds old gap ++ (if k == gap then more else [])) base) ∙
      append_assoc (unit_adds old gap) (if gap_of text at == gap then more else []) (text_at_gap (insertions text (gap_of text at) els) gap);
}

-- ---- the elements so far

pub record IsReading (text : List ℕ) (els : List El) (units : UnitDelta) (at : ℕ) (rest : List El) : Type 0 where
  pub place : is_place text at ≡ true
  pub base : units.base ≡ gap_of text at
  pub fits : copies_misfit text at rest ≡ None
  pub kept : (index : ℕ) → (unit_keeps units index || is_in_runs (kept_runs text rest) index) ≡ is_in_runs (kept_runs text els) index
  pub added : (gap : ℕ) → unit_adds units gap ++ text_at_gap (insertions text (gap_of text at) rest) gap ≡ text_at_gap (insertions text 0 els) gap

pub IsReading-start : (text : List ℕ) (delta : Delta) (units : UnitDelta) → Fits text delta → units.base ≡ 0 →
    ((index : ℕ) → unit_keeps units index ≡ false) → ((gap : ℕ) → unit_adds units gap ≡ []) → IsReading text delta.els units 0 delta.els
IsReading-start text delta units good base none_kept none_added = record {
  place = starts text;
  base = base ∙ sym (start_gap text);
  fits = (if_fits (delta.base_len == byte_len text) good);
  kept = λ index. ap (λ b. b || is_in_runs (kept_runs text delta.els) index) (none_kept index);
  added = λ gap. rw (none_added gap, start_gap text) refl;
}
  where
    starts : (t : List ℕ) → is_place t 0 ≡ true
    starts [] = refl
    starts (c ∷ t) = refl

    start_gap : (t : List ℕ) → gap_of t 0 ≡ 0
    start_gap [] = refl
    start_gap (c ∷ t) = refl

    if_fits : (b : Bool) → (if b then copies_misfit text 0 delta.els else Some (record { kind = 1; at = delta.base_len })) ≡ None → copies_misfit text 0 delta.els ≡ None
    if_fits true none = none
    if_fits false none = absurd cc

pub IsReading-next : (text : List ℕ) (els : List El) (units new : UnitDelta) (at end : ℕ) (rest more : List El) (el : El) → IsReading text els units at rest →
    rest ≡ el ∷ more → PutsElement text at el units new end → IsReading text els new end more
IsReading-next text els units new at end rest more el reading next put = record {
  place = put.place;
  base = put.base;
  fits = put.fits more (ap (λ xs. copies_misfit text at xs) (sym next) ∙ reading.fits);
  kept = λ index. put.kept more index ∙ ap (λ xs. unit_keeps units index || is_in_runs (kept_runs text xs) index) (sym next) ∙ reading.kept index;
  added = λ gap. put.added more gap ∙ ap (λ xs. unit_adds units gap ++ text_at_gap (insertions text (gap_of text at) xs) gap) (sym next) ∙ reading.added gap;
}

one_fits : (text : List ℕ) (at : ℕ) (el : El) (more : List El) → copies_misfit text at (el ∷ more) ≡ None → copies_misfit text at (el ∷ []) ≡ None
one_fits text at (Insert added) more none = refl
one_fits text at (Copy a b) more none = ap (λ o. or_later o None) (later_none (copy_misfit text at a b) (copies_misfit text b more) none).0

pub IsReading-fits : (text : List ℕ) (els : List El) (units : UnitDelta) (at : ℕ) (rest more : List El) (el : El) → IsReading text els units at rest →
    rest ≡ el ∷ more → copies_misfit text at (el ∷ []) ≡ None
IsReading-fits text els units at rest more el reading next = one_fits text at el more (ap (λ xs. copies_misfit text at xs) (sym next) ∙ reading.fits)

pub is_place-end : (text : List ℕ) → is_place text (byte_len text) ≡ true
is_place-end text = ap is_some (ap (λ t. gap_at t (byte_len text)) (sym (append-nil text)) ∙ gap_from-seam 0 text [])

pub gap_of-end : (text : List ℕ) → gap_of text (byte_len text) ≡ length text
gap_of-end text = ap (λ o. unwrap_or o 0) (ap (λ t. gap_at t (byte_len text)) (sym (append-nil text)) ∙ gap_from-seam 0 text []) ∙ zero-add (length text)

pub place_within : (text : List ℕ) (at : ℕ) → is_place text at ≡ true → at ≤ byte_len text
place_within text at is =
    let found = IsPlaced-from text at is in
    omega (arith, found.1.place, place_of-le text found.0)
  where
    place_of-le : (t : List ℕ) (gap : ℕ) → place_of t gap ≤ byte_len t
    place_of-le t zero = omega arith
    place_of-le [] (suc gap) = omega arith
    place_of-le (c ∷ t) (suc gap) = omega (arith, place_of-le t gap)

pub applied-same : (k k' : ℕ → Bool) (f f' : ℕ → List ℕ) (text : List ℕ) → ((i : ℕ) → k i ≡ k' i) → ((i : ℕ) → f i ≡ f' i) → applied k f text ≡ applied k' f' text
applied-same k k' f f' text keeps_same adds_same = from 0 text
  where
    from : (i : ℕ) (t : List ℕ) → woven f (λ index c. if k index then c ∷ [] else []) i t ≡ woven f' (λ index c. if k' index then c ∷ [] else []) i t
    from i [] = adds_same i
    from i (c ∷ t) = rw (adds_same i, keeps_same i, from (i + 1) t) refl

or_false : (a : Bool) → (a || false) ≡ a
or_false true = refl
or_false false = refl

pub IsUnitsOf-all : (text : List ℕ) (delta : Delta) (units passed result : UnitDelta) (at n : ℕ) (rest : List El) → IsReading text delta.els units at rest → rest ≡ [] →
    gap_of text at + n ≡ gap_of text (byte_len text) → passed.base ≡ units.base + n → ((index : ℕ) → unit_keeps passed index ≡ unit_keeps units index) →
    ((gap : ℕ) → unit_adds passed gap ≡ unit_adds units gap) → IsCanonical result → result.base ≡ passed.base →
    ((index : ℕ) → unit_keeps result index ≡ unit_keeps passed index) → ((gap : ℕ) → unit_adds result gap ≡ unit_adds passed gap) → IsUnitsOf text delta result
IsUnitsOf-all text delta units passed result at n rest reading none over p_base p_kept p_added canonical r_base r_kept r_added =
    let kept : (index : ℕ) → unit_keeps result index ≡ keeps text delta index =
    λ index. r_kept index ∙ p_kept index ∙ sym (or_false (unit_keeps units index)) ∙
    ap (λ xs. unit_keeps units index || is_in_runs (kept_runs text xs) index) (sym none) ∙ reading.kept index in
    let added : (gap : ℕ) → unit_adds result gap ≡ adds text delta gap =
    λ gap. r_added gap ∙ p_added gap ∙ sym (append-nil (unit_adds units gap)) ∙
    ap (λ xs. unit_adds units gap ++ text_at_gap (insertions text (gap_of text at) xs) gap) (sym none) ∙ reading.added gap in
    record {
      canonical = canonical;
      base = omega (arith, r_base, p_base, reading.base, over, gap_of-end text);
      kept = kept;
      added = added;
      leads = applied-same (unit_keeps result) (keeps text delta) (unit_adds result) (adds text delta) text kept added;
    }
