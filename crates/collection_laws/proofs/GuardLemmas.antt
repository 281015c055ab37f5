-- A history may forget when it is loaded, and after each step that may come.
use Rattle.std.proofs.Common.{◌≡◌, ℕ, zero, suc, ◌+◌, ◌-◌, ◌<◌, ◌≤◌, Bool, true, false, if◌then◌else◌, nat_lt, List, [], ◌∷◌, ◌++◌, length, map, take, drop, slice_get, refl, ap, ap₂, subst, sym, ◌∙◌, inl, inr, arith, append-nil}
use Rattle.std.specs.Prelude.{◌⊎◌}
use Rattle.std.specs.List.{AllByRecursion, suffix_len}
use Rattle.std.proofs.lemmas.Bool.{both_ways, le-ltb, lt-ltb}
use Rattle.std.proofs.lemmas.List.{take-append-drop, drop-append-le}
use Rattle.std.proofs.Math.Seq.{drop-nil}
use Rattle.plain_text.specs.Woven.{woven, nth_index}
use Rattle.plain_text.proofs.callers.ListLemmas.{AllByRecursion-append, AllByRecursion-map, AllByRecursion-woven, nth_index-here, nth_index-yes, nth_index-no, flat_map_none}
use Rattle.plain_edits.specs.declared.rank.Rank.{Rank}
use Rattle.plain_edits.specs.History.{Tagged, inserted_by, Revision, edit, undo, History, loaded, head, revision_at, is_visible, IsTaggedBy}
use Rattle.plain_edits.specs.Place.{index_right_of, later_run, left_in_run, insertion_place}
use Rattle.plain_edits.specs.Edits.{PlainEdit, gap_count, inserted_at, is_deleted_by, with_deletion, edited, insertion_rank}
use Rattle.plain_edits.specs.HistorySteps.{Step, edits, undoes, collects, after_step, MayCome, is_edit, AreBased}
use Rattle.plain_edits.proofs.callers.HistoryLemmas.{AllByRecursion-inserted_at, becomes, revision_at-append, revision_at-push, is_visible-append, is_visible-deleted_later}
use Rattle.plain_edits.proofs.callers.PlaceLemmas.{is_visible-inserted, left_in_run-le, length-left, length-later_run, later_run-le, later_run_is_later}
use Rattle.plain_edits.proofs.callers.WellFormedLemmas.{IsWellFormed-loaded, IsWellFormed-after_step}
use Rattle.collection_laws.specs.MayForget.{edit_base, base_of, is_guarded, AreGuarded, IsInsertedFirst, MayForget}
use Rattle.collection_laws.proofs.ListLemmas.{all_both, AllByRecursion-drop}

-- an edit's base is before it
edit_base-le : (before n : ℕ) (revisions : List Revision) → AreBased before revisions → edit_base (slice_get revisions n) ≤ before + n
edit_base-le before n [] based = omega arith
edit_base-le before zero (edit base group priority author ∷ revisions) based = omega (arith, based.0)
edit_base-le before zero (undo groups ∷ revisions) based = omega arith
edit_base-le before (suc n) (edit base group priority author ∷ revisions) based = omega (arith, edit_base-le (before + 1) n revisions based.1)
edit_base-le before (suc n) (undo groups ∷ revisions) based = omega (arith, edit_base-le (before + 1) n revisions based)

pub base_of-le : (revisions : List Revision) (rev : ℕ) → AreBased 0 revisions → base_of revisions rev ≤ rev
base_of-le revisions zero based = omega arith
base_of-le revisions (suc n) based = omega (arith, edit_base-le 0 n revisions based)

-- characters that came later are passed over
is_guarded-past : (revisions : List Revision) (base : ℕ) (later rest : List Tagged) → AllByRecursion (λ tagged. base < tagged.inserted) later →
    is_guarded revisions base (later ++ rest) ≡ is_guarded revisions base rest
is_guarded-past revisions base [] rest each = refl
is_guarded-past revisions base (tagged ∷ later) rest each =
    ap (λ b. if b then is_guarded revisions base (later ++ rest) else is_visible revisions base tagged) (lt-ltb base tagged.inserted each.0) ∙
    is_guarded-past revisions base later rest each.1

-- ---- after more revisions

is_guarded-append : (revisions more : List Revision) (base : ℕ) (xs : List Tagged) → base ≤ length revisions →
    AllByRecursion (IsTaggedBy (length revisions)) xs → is_guarded (revisions ++ more) base xs ≡ is_guarded revisions base xs
is_guarded-append revisions more base [] within each = refl
is_guarded-append revisions more base (x ∷ xs) within each =
    ap₂ (λ a b. if nat_lt base x.inserted then a else b) (is_guarded-append revisions more base xs within each.1)
    (is_visible-append revisions more base x within each.0)

AreGuarded-append : (revisions more : List Revision) (xs : List Tagged) → AreBased 0 revisions → AllByRecursion (IsTaggedBy (length revisions)) xs →
    AreGuarded revisions xs → AreGuarded (revisions ++ more) xs
AreGuarded-append revisions more [] based each guarded = tt
AreGuarded-append revisions more (x ∷ xs) based each guarded =
    let there = revision_at-append revisions more x.inserted each.0.inserted in (
      λ is.
          ap (λ r. is_guarded (revisions ++ more) (edit_base r) xs) there ∙
          is_guarded-append revisions more (base_of revisions x.inserted) xs
          (omega (arith, base_of-le revisions x.inserted based, each.0.inserted)) each.1 ∙ guarded.0 (sym (ap is_edit there) ∙ is),
      AreGuarded-append revisions more xs based each.1 guarded.1,
    )

-- ---- an insertion place is guarded

is_guarded-shown : (revisions : List Revision) (base gap : ℕ) (xs : List Tagged) →
    is_guarded revisions base (drop (nth_index (is_visible revisions base) gap xs) xs) ≡ true
is_guarded-shown revisions base zero [] = refl
is_guarded-shown revisions base (suc gap) [] = refl
is_guarded-shown revisions base zero (x ∷ xs) = by (is_visible revisions base x) refl (is_guarded-shown revisions base 0 xs)
  where
    by : (b : Bool) → is_visible revisions base x ≡ b → is_guarded revisions base (drop (nth_index (is_visible revisions base) 0 xs) xs) ≡ true →
        is_guarded revisions base (drop (nth_index (is_visible revisions base) 0 (x ∷ xs)) (x ∷ xs)) ≡ true
    by true seen rest =
        ap (λ n. is_guarded revisions base (drop n (x ∷ xs))) (nth_index-here (is_visible revisions base) x xs seen) ∙
        ap (λ b. if b then is_guarded revisions base xs else is_visible revisions base x)
        (le-ltb base x.inserted (is_visible-inserted revisions base x seen)) ∙ seen
    by false unseen rest =
        (let next : nth_index (is_visible revisions base) 0 (x ∷ xs) ≡ suc (nth_index (is_visible revisions base) 0 xs) =
        omega (arith, nth_index-no (is_visible revisions base) 0 x xs unseen) in
        ap (λ n. is_guarded revisions base (drop n (x ∷ xs))) next) ∙ rest
is_guarded-shown revisions base (suc gap) (x ∷ xs) =
    by (is_visible revisions base x) refl (is_guarded-shown revisions base gap xs) (is_guarded-shown revisions base (suc gap) xs)
  where
    by : (b : Bool) → is_visible revisions base x ≡ b →
        is_guarded revisions base (drop (nth_index (is_visible revisions base) gap xs) xs) ≡ true →
        is_guarded revisions base (drop (nth_index (is_visible revisions base) (suc gap) xs) xs) ≡ true →
        is_guarded revisions base (drop (nth_index (is_visible revisions base) (suc gap) (x ∷ xs)) (x ∷ xs)) ≡ true
    by true seen here next =
        (let more : nth_index (is_visible revisions base) (suc gap) (x ∷ xs) ≡ suc (nth_index (is_visible revisions base) gap xs) =
        omega (arith, nth_index-yes (is_visible revisions base) gap x xs seen) in
        ap (λ n. is_guarded revisions base (drop n (x ∷ xs))) more) ∙ here
    by false unseen here next =
        (let more : nth_index (is_visible revisions base) (suc gap) (x ∷ xs) ≡ suc (nth_index (is_visible revisions base) (suc gap) xs) =
        omega (arith, nth_index-no (is_visible revisions base) (suc gap) x xs unseen) in
        ap (λ n. is_guarded revisions base (drop n (x ∷ xs))) more) ∙ next

pub drop-drop : {X : Type 0} (k n m : ℕ) (xs : List X) → k ≡ n + m → drop k xs ≡ drop m (drop n xs)
drop-drop k zero m xs sum = (let same : k ≡ m = omega (arith, sum) in ap (λ i. drop i xs) same)
drop-drop k (suc n) m [] sum = drop-nil k ∙ sym (drop-nil m)
drop-drop zero (suc n) m (x ∷ xs) sum = absurd (omega (arith, sum))
drop-drop (suc k) (suc n) m (x ∷ xs) sum = drop-drop k n m xs (omega (arith, sum))

is_guarded-place : (history : History) (base : ℕ) (rank : Rank) (gap : ℕ) →
    is_guarded history.revisions base (drop (insertion_place history base rank gap) history.characters) ≡ true
is_guarded-place history base rank gap =
    (let at : insertion_place history base rank gap ≡ length left - count + j =
    omega (arith, length-left history base gap, length-later_run history base gap) in
    ap (λ n. is_guarded history.revisions base (drop n history.characters)) at) ∙
    ap (λ xs. is_guarded history.revisions base (drop (length left - count + j) xs)) (sym (take-append-drop q history.characters)) ∙
    ap (is_guarded history.revisions base) (drop-append-le (length left - count + j) left (drop q history.characters)
    (omega (arith, length-left history base gap, length-later_run history base gap, later_run-le history base gap, inside))) ∙
    ap (λ xs. is_guarded history.revisions base (xs ++ drop q history.characters)) (drop-drop (length left - count + j) (length left - count) j left refl) ∙
    is_guarded-past history.revisions base (drop j (later_run history base gap)) (drop q history.characters)
    (AllByRecursion-drop (λ tagged. base < tagged.inserted) j (later_run history base gap) (later_run_is_later history base gap)) ∙
    is_guarded-shown history.revisions base gap history.characters
  where
    q : ℕ
    q = index_right_of history base gap

    left : List Tagged
    left = take q history.characters

    count : ℕ
    count = suffix_len (λ tagged. nat_lt base tagged.inserted) left

    j : ℕ
    j = left_in_run history.revisions rank (length (later_run history base gap)) (later_run history base gap)

    inside : j ≤ length (later_run history base gap)
    inside = left_in_run-le history.revisions rank (length (later_run history base gap)) (later_run history base gap)

-- ---- after an edit

module _ (history : History) (e : PlainEdit) (within : e.base ≤ head history) (based : AreBased 0 history.revisions) where
  abbrev made : Revision
  made = edit e.base e.group e.priority e.author

  abbrev now : List Revision
  now = history.revisions ++ made ∷ []

  abbrev weave : ℕ → List Tagged → List Tagged
  weave index xs = woven (inserted_at history e) (becomes history e) index xs

  -- the weave behind its first gap
  abbrev behind : ℕ → List Tagged → List Tagged
  behind index [] = []
  behind index (x ∷ xs) = becomes history e index x ++ weave (index + 1) xs

  weave-behind : (index : ℕ) (xs : List Tagged) → weave index xs ≡ inserted_at history e index ++ behind index xs
  weave-behind index [] = sym (append-nil (inserted_at history e index))
  weave-behind index (x ∷ xs) = refl

  -- what the edit inserts is passed over at each base
  is_guarded-weave : (base index : ℕ) (xs : List Tagged) → base ≤ head history →
      is_guarded now base (weave index xs) ≡ is_guarded now base (behind index xs)
  is_guarded-weave base index xs below =
      ap (is_guarded now base) (weave-behind index xs) ∙
      is_guarded-past now base (inserted_at history e index) (behind index xs)
      (AllByRecursion-inserted_at (λ tagged. base < tagged.inserted) history e (λ c. omega (arith, below)) index)

  is_guarded-behind : (base index : ℕ) (xs : List Tagged) → base ≤ head history → AllByRecursion (IsTaggedBy (head history)) xs →
      is_guarded now base (behind index xs) ≡ is_guarded history.revisions base xs
  is_guarded-behind base index [] below sound = refl
  is_guarded-behind base index (x ∷ xs) below sound =
      by (is_deleted_by history e index x) (is_guarded-weave base (index + 1) xs below ∙ is_guarded-behind base (index + 1) xs below sound.1)
    where
      by : (b : Bool) → is_guarded now base (weave (index + 1) xs) ≡ is_guarded history.revisions base xs →
          is_guarded now base ((if b then with_deletion (head history + 1) x else x) ∷ weave (index + 1) xs) ≡
          is_guarded history.revisions base (x ∷ xs)
      by true rest =
          ap₂ (λ a b. if nat_lt base x.inserted then a else b) rest
          (is_visible-deleted_later now base (head history + 1) x (omega (arith, below)) ∙
          is_visible-append history.revisions (made ∷ []) base x below sound.0)
      by false rest =
          ap₂ (λ a b. if nat_lt base x.inserted then a else b) rest (is_visible-append history.revisions (made ∷ []) base x below sound.0)

  -- new characters in front of what guards them
  AreGuarded-new : (new rest : List Tagged) → AllByRecursion (λ tagged. tagged.inserted ≡ head history + 1) new →
      ((is_guarded now e.base rest ≡ true) ⊎ (new ≡ [])) → AreGuarded now rest → AreGuarded now (new ++ rest)
  AreGuarded-new [] rest each guard guarded = guarded
  AreGuarded-new (t ∷ new) rest each (inl guard) guarded = (
    λ is.
        ap (λ rev. is_guarded now (base_of now rev) (new ++ rest)) each.0 ∙
        ap (λ r. is_guarded now (edit_base r) (new ++ rest)) (revision_at-push history.revisions made) ∙
        is_guarded-past now e.base new rest (later new each.1) ∙ guard,
    AreGuarded-new new rest each.1 (inl guard) guarded,
  )
    where
      later : (xs : List Tagged) → AllByRecursion (λ tagged. tagged.inserted ≡ head history + 1) xs → AllByRecursion (λ tagged. e.base < tagged.inserted) xs
      later [] all = tt
      later (x ∷ xs) all = (omega (arith, all.0, within), later xs all.1)
  AreGuarded-new (t ∷ new) rest each (inr none) guarded = absurd (cc)

  -- an old character in front of the weave of what is right of it
  AreGuarded-old : (index : ℕ) (x : Tagged) (xs : List Tagged) → AllByRecursion (IsTaggedBy (head history)) (x ∷ xs) →
      AreGuarded history.revisions (x ∷ xs) → AreGuarded now (weave (index + 1) xs) → AreGuarded now (behind index (x ∷ xs))
  AreGuarded-old index x xs sound guarded rest = by (is_deleted_by history e index x)
    where
      there : revision_at now x.inserted ≡ revision_at history.revisions x.inserted
      there = revision_at-append history.revisions (made ∷ []) x.inserted sound.0.inserted

      here : is_edit (revision_at now x.inserted) ≡ true → is_guarded now (base_of now x.inserted) (weave (index + 1) xs) ≡ true
      here is =
          let below : base_of history.revisions x.inserted ≤ head history =
          omega (arith, base_of-le history.revisions x.inserted based, sound.0.inserted) in
          ap (λ r. is_guarded now (edit_base r) (weave (index + 1) xs)) there ∙
          is_guarded-weave (base_of history.revisions x.inserted) (index + 1) xs below ∙
          is_guarded-behind (base_of history.revisions x.inserted) (index + 1) xs below sound.1 ∙ guarded.0 (sym (ap is_edit there) ∙ is)

      by : (b : Bool) → AreGuarded now ((if b then with_deletion (head history + 1) x else x) ∷ weave (index + 1) xs)
      by true = (here, rest)
      by false = (here, rest)

  -- an index is guarded, or the edit inserts nothing there
  abbrev IsHit : ℕ → List Tagged → Type 0
  IsHit index xs = (is_guarded history.revisions e.base xs ≡ true) ⊎ (inserted_at history e index ≡ [])

  woven_in : (index : ℕ) (xs : List Tagged) → AllByRecursion (IsTaggedBy (head history)) xs → IsHit (index + 0) xs →
      AreGuarded now (behind index xs) → AreGuarded now (weave index xs)
  woven_in index xs sound hit rest =
      subst (AreGuarded now) (sym (weave-behind index xs))
      (AreGuarded-new (inserted_at history e index) (behind index xs)
      (AllByRecursion-inserted_at (λ tagged. tagged.inserted ≡ head history + 1) history e (λ c. refl) index) (front hit) rest)
    where
      front : IsHit (index + 0) xs → ((is_guarded now e.base (behind index xs) ≡ true) ⊎ (inserted_at history e index ≡ []))
      front (inl guard) = inl (is_guarded-behind e.base index xs within sound ∙ guard)
      front (inr none) = inr ((let same : index ≡ index + 0 = omega arith in ap (inserted_at history e) same) ∙ none)

  AreGuarded-weave : (index : ℕ) (xs : List Tagged) → AllByRecursion (IsTaggedBy (head history)) xs → AreGuarded history.revisions xs →
      ((d : ℕ) → IsHit (index + d) (drop d xs)) → AreGuarded now (weave index xs)
  AreGuarded-weave index [] sound guarded hits = woven_in index [] sound (hits 0) tt
  AreGuarded-weave index (x ∷ xs) sound guarded hits =
      woven_in index (x ∷ xs) sound (hits 0)
      (AreGuarded-old index x xs sound guarded
      (AreGuarded-weave (index + 1) xs sound.1 guarded.1 (λ d.
      let next : index + suc d ≡ index + 1 + d = omega arith in subst (λ i. IsHit i (drop d xs)) next (hits (suc d)))))

  AreGuarded-edited : AllByRecursion (IsTaggedBy (head history)) history.characters → AreGuarded history.revisions history.characters →
      AreGuarded now (edited history e).characters
  AreGuarded-edited sound guarded = AreGuarded-weave 0 history.characters sound guarded (λ d. hit d (is_guarded history.revisions e.base (drop d history.characters)) refl)
    where
      hit : (d : ℕ) (b : Bool) → is_guarded history.revisions e.base (drop d history.characters) ≡ b →
          (is_guarded history.revisions e.base (drop d history.characters) ≡ true) ⊎ (inserted_at history e (0 + d) ≡ [])
      hit d true guard = inl guard
      hit d false bare =
          inr (flat_map_none (λ gap. insertion_place history e.base (insertion_rank e) gap) (λ gap. map (inserted_by (head history + 1)) (e.added gap)) (0 + d) 0
          (gap_count history e.base) (λ gap low high at. both_ways _ bare
          ((let place : d ≡ insertion_place history e.base (insertion_rank e) gap = omega (arith, at) in
          ap (λ n. is_guarded history.revisions e.base (drop n history.characters)) place) ∙
          is_guarded-place history e.base (insertion_rank e) gap)))

IsInsertedFirst-edited : (history : History) (e : PlainEdit) → AllByRecursion (IsTaggedBy (head history)) history.characters →
    AllByRecursion IsInsertedFirst history.characters → AllByRecursion IsInsertedFirst (edited history e).characters
IsInsertedFirst-edited history e sound first =
    AllByRecursion-woven IsInsertedFirst (λ tagged. IsTaggedBy (head history) tagged × IsInsertedFirst tagged) (inserted_at history e) (becomes history e)
    (AllByRecursion-inserted_at IsInsertedFirst history e (λ c. tt))
    (λ index tagged is. (by (is_deleted_by history e index tagged) tagged is, tt)) 0 history.characters
    (all_both (IsTaggedBy (head history)) IsInsertedFirst history.characters sound first)
  where
    by : (b : Bool) (tagged : Tagged) → IsTaggedBy (head history) tagged × IsInsertedFirst tagged →
        IsInsertedFirst (if b then with_deletion (head history + 1) tagged else tagged)
    by true tagged is =
        AllByRecursion-append (λ rev. tagged.inserted < rev) tagged.deleted ((head history + 1) ∷ []) is.1 (omega (arith, is.0.inserted), tt)
    by false tagged is = is.1

-- ---- the invariant

pub MayForget-loaded : (text : List ℕ) → MayForget (loaded text)
MayForget-loaded text = record {
  formed = IsWellFormed-loaded text;
  first = AllByRecursion-map IsInsertedFirst (inserted_by 0) (λ c. tt) text;
  guarded = unedited text;
}
  where
    unedited : (cs : List ℕ) → AreGuarded [] (map (inserted_by 0) cs)
    unedited [] = tt
    unedited (c ∷ cs) = (λ is. absurd (both_ways false refl is), unedited cs)

pub MayForget-after_step : (history : History) (step : Step) → MayForget history → MayCome history step → MayForget (after_step history step)
MayForget-after_step history (edits e) forgets may = record {
  formed = IsWellFormed-after_step history (edits e) forgets.formed may;
  first = IsInsertedFirst-edited history e forgets.formed.sound forgets.first;
  guarded = AreGuarded-edited history e may.known forgets.formed.based forgets.formed.sound forgets.guarded;
}
MayForget-after_step history (undoes groups) forgets may = record {
  formed = IsWellFormed-after_step history (undoes groups) forgets.formed may;
  first = forgets.first;
  guarded =
      AreGuarded-append history.revisions (undo groups ∷ []) history.characters forgets.formed.based forgets.formed.sound forgets.guarded;
}
MayForget-after_step history (collects floor groups) forgets may = record {
  formed = IsWellFormed-after_step history (collects floor groups) forgets.formed may;
  first = forgets.first;
  guarded = forgets.guarded;
}
