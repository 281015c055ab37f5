-- A collection that drops nothing: the later records may follow as they are.
use Rattle.std.proofs.Common.{◌≡◌, ℕ, ◌+◌, ◌-◌, ◌<◌, ◌≤◌, Bool, true, false, List, [], ◌∷◌, length, map, Some, slice_get, refl, ap, ap₂, sym, ◌∙◌, arith}
use Rattle.std.specs.Prelude.{suc, replicate}
use Rattle.std.specs.List.{AllByRecursion}
use Rattle.std.proofs.lemmas.List.{length-map}
use Rattle.subset_runs.specs.Subset.{count, expand, shrink}
use Rattle.plain_edits.specs.History.{History, head}
use Rattle.plain_edits.specs.Collection.{is_dropped, MayCollect}
use Rattle.plain_edits.specs.HistorySteps.{HasRisingSet, IsByEdits}
use Rattle.plain_edits.specs.Undo.{undone_now}
use Rattle.collection_laws.proofs.ForCallers.{head-left}
use Rattle.rev_list.specs.declared.step.RevStep.{RevStep}
use Rattle.rev_list.specs.declared.step.RevStep.TheVariants.{Edit, Undo}
use Rattle.rev_list.specs.declared.records.RevRecord.{RevRecord}
use Rattle.rev_list.specs.Edit.{after_revision}
use Rattle.rev_list.specs.Kept.{dead_now, grown_by, IsOpen}
use Rattle.rev_list.specs.Until.{after_records, history_until, AreRecordsAfter, IsGoneOn, IsRecordAt, MayAllFollow, MayFollow, MayGoOn}
use Rattle.rev_list.proofs.ForCallers.{length-dead_now}
use Rattle.rev_collect.specs.Later.{collected_until, record_without, step_without, HasLengthsOf, IsLeftUntil, IsOfLength}
use Rattle.rev_collect.proofs.LaterLemmas.{next_left}
use Rattle.rev_collect.proofs.StepLemmas.{dead-left, undone_left}
use Rattle.rev_collect.proofs.UntilLemmas.{edits-then, floor-then, head-then, sound-then}

-- ---- none of some flags

none_are : (flags : List Bool) → count flags ≡ 0 → flags ≡ replicate (length flags) false
none_are [] none = refl
none_are (true ∷ flags) none = absurd (omega (arith, none))
none_are (false ∷ flags) none = ap (λ rest. false ∷ rest) (none_are flags (omega (arith, none)))

shrink-none : (flags by : List Bool) → length flags ≡ length by → count by ≡ 0 → shrink flags by ≡ flags
shrink-none [] [] same none = refl
shrink-none [] (b ∷ by) same none = absurd (omega (arith, same))
shrink-none (x ∷ flags) [] same none = absurd (omega (arith, same))
shrink-none (x ∷ flags) (true ∷ by) same none = absurd (omega (arith, none))
shrink-none (x ∷ flags) (false ∷ by) same none =
    ap (λ rest. x ∷ rest) (shrink-none flags by (omega (arith, same)) (omega (arith, none)))

expand-none : (flags by : List Bool) → count flags ≡ 0 → count (expand flags by) ≡ 0
expand-none flags [] none = refl
expand-none flags (true ∷ by) none = omega (arith, expand-none flags by none)
expand-none [] (false ∷ by) none = omega (arith, expand-none [] by none)
expand-none (true ∷ flags) (false ∷ by) none = absurd (omega (arith, none))
expand-none (false ∷ flags) (false ∷ by) none = omega (arith, expand-none flags by (omega (arith, none)))

grown-none : (dropped : List Bool) (step : RevStep) → count dropped ≡ 0 → count (grown_by dropped step) ≡ 0
grown-none dropped (Edit e) none = expand-none dropped e.inserted none
grown-none dropped (Undo groups) none = none

-- ---- a record without nothing

step-whole : (dropped : List Bool) (step : RevStep) → IsOfLength (length dropped) step → count dropped ≡ 0 → step_without dropped step ≡ step
step-whole dropped (Edit e) fits none =
    ap₂ (λ inserted deleted. Edit (record {
      base = e.base;
      priority = e.priority;
      group = e.group;
      author = e.author;
      inserted = inserted;
      deleted = deleted;
    })) (shrink-none e.inserted dropped fits.0 none) (shrink-none e.deleted dropped fits.1 none)
step-whole dropped (Undo groups) fits none = refl

record-whole : (dropped : List Bool) (r : RevRecord) → HasLengthsOf (length dropped) r → count dropped ≡ 0 → record_without dropped r ≡ r
record-whole dropped r fits none =
    ap₂ (λ step turned. record { step = step; turned = turned }) (step-whole dropped r.step fits.step none) (shrink-none r.turned dropped fits.turned none)

-- ---- the later records

module _ (history : History) (floor : ℕ) (groups : List ℕ) (may : MayCollect history floor groups)
    (edits : AllByRecursion (IsByEdits history.revisions) history.characters) (sets : AllByRecursion HasRisingSet history.revisions)
    (free : AllByRecursion (IsOpen history.collected) history.revisions) where
  -- what is left up to a revision, of whose characters none is dropped
  pub record IsWholeUntil (rev : ℕ) (left : History) : Type 0 where
    pub dropped : List Bool
    pub is_left : IsLeftUntil history floor groups rev left dropped
    pub none : count dropped ≡ 0

  whole-next : (rev : ℕ) (r : RevRecord) (left : History) → floor < rev → rev ≤ head history → IsRecordAt history rev r → IsWholeUntil (rev - 1) left →
      MayFollow left r × IsWholeUntil rev (after_revision left r.step)
  whole-next rev r left low high is whole =
      let next = next_left history floor groups may edits sets free rev low high r is left whole.dropped whole.is_left in
      let none : count (grown_by whole.dropped r.step) ≡ 0 = grown-none whole.dropped r.step whole.none in (
        rw (record-whole (grown_by whole.dropped r.step) r next.fits none) at next.may,
        record {
          dropped = grown_by whole.dropped r.step;
          is_left = rw (step-whole (grown_by whole.dropped r.step) r.step next.fits.step none) at next.next;
          none = none;
        },
      )

  whole-all : (at : ℕ) (records : List RevRecord) (left : History) → floor ≤ at → length records + at ≡ head history →
      ((k : ℕ) (r : RevRecord) → slice_get records k ≡ Some r → IsRecordAt history (at + 1 + k) r) → IsWholeUntil at left →
      MayAllFollow left records × IsWholeUntil (head history) (after_records left records)
  whole-all at [] left low long each whole =
      let end : at ≡ head history = omega (arith, long) in
      (tt, rw end at whole)
  whole-all at (r ∷ records) left low long each whole =
      let here : at + 1 + 0 ≡ at + 1 = omega arith in
      let first : IsRecordAt history (at + 1) r = rw here at (each 0 r refl) in
      let before : at + 1 - 1 ≡ at = omega arith in
      let one = whole-next (at + 1) r left (omega (arith, low)) (omega (arith, long)) first (rw before whole) in
      let rest = whole-all (at + 1) records (after_revision left r.step) (omega (arith, low)) (omega (arith, long))
      (λ k other found. (let here : at + 1 + 1 + k ≡ at + 1 + suc k = omega arith in rw here (each (suc k) other found))) one.1 in
      ((one.0, rest.0), rest.1)

  -- at the head it shows what the history shows
  module _ (sound : history_until history (head history) ≡ history) (left : History) (whole : IsWholeUntil (head history) left) where
    abbrev now : History
    now = collected_until history floor groups (head history)

    within : head history ≤ head history
    within = omega arith

    low : floor ≤ head history
    low = may.known

    dropped-now : count (map (is_dropped now) now.characters) ≡ 0
    dropped-now = ap count (sym whole.is_left.dropped_is) ∙ whole.none

    pub dead-whole : dead_now left ≡ dead_now history
    dead-whole =
        ap dead_now whole.is_left.left_is ∙
        dead-left now (floor-then history floor groups may edits sets free (head history) low within)
        (edits-then history floor groups may edits sets free (head history) low within) ∙
        shrink-none (dead_now now) (map (is_dropped now) now.characters)
        (length-dead_now now ∙ sym (length-map now.characters (is_dropped now))) dropped-now ∙
        ap dead_now sound

    pub undone-whole : undone_now left ≡ undone_now history
    undone-whole =
        ap undone_now whole.is_left.left_is ∙
        undone_left now (floor-then history floor groups may edits sets free (head history) low within).floor
        (sound-then history floor groups may edits sets free (head history) low within) ∙
        ap undone_now sound

    pub none-whole : replicate (length history.characters) false ≡ map (is_dropped now) now.characters
    none-whole =
        sym (none_are (map (is_dropped now) now.characters) dropped-now ∙
        ap (λ n. replicate n false) (length-map now.characters (is_dropped now) ∙ ap (λ (h : History). length h.characters) sound))

  module _ (sound : history_until history (head history) ≡ history) (left : History) (dropped : List Bool)
      (is_left : IsLeftUntil history floor groups floor left dropped) (none : count dropped ≡ 0) where
    start : IsWholeUntil floor left
    start = record { dropped = dropped; is_left = is_left; none = none }

    head-start : head left ≡ floor
    head-start =
        let was = collected_until history floor groups floor in
        let low : floor ≤ floor = omega arith in
        ap head is_left.left_is ∙ head-left was (floor-then history floor groups may edits sets free floor low may.known).floor ∙
        head-then history floor groups may edits sets free floor low may.known

    all : (records : List RevRecord) → AreRecordsAfter history (head left) records →
        MayAllFollow left records × IsWholeUntil (head history) (after_records left records)
    all records are =
        let later = rw head-start at are in
        whole-all floor records left (omega arith) later.len later.each start

    pub may_go_on : MayGoOn left history
    may_go_on = record {
      kept = (omega (arith, head-start, may.rises), omega (arith, head-start, may.known));
      led = λ records are.
          let made = all records are in
          record {
            may = made.0;
            dead = dead-whole sound (after_records left records) made.1;
            undone = undone-whole sound (after_records left records) made.1;
          };
    }

    pub left_gone_on : (made : History) (none : List Bool) → IsGoneOn left history made → none ≡ replicate (length history.characters) false →
        IsLeftUntil history floor groups (head history) made none
    left_gone_on made none gone is =
        let whole = all gone.records gone.are in
        record {
          left_is = gone.is ∙ whole.1.is_left.left_is;
          dropped_is = is ∙ none-whole sound (after_records left gone.records) whole.1;
        }
