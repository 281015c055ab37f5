-- The records of one list behind another.
use Rattle.std.proofs.Common.{◌≡◌, ℕ, zero, suc, ◌+◌, ◌-◌, ◌^◌, ◌<◌, ◌≤◌, Bool, true, List, [], ◌∷◌, ◌++◌, length, take, drop, Some, slice_get, get_or, ap, sym, ◌∙◌, subst, arith, length-append}
use Rattle.std.specs.List.{AllByRecursion}
use Rattle.std.proofs.lemmas.List.{map-append, length-drop, length-take-le}
use Rattle.std.proofs.lemmas.List.Sums.{fold-append}
use Rattle.plain_edits.specs.History.{History, head, IsSound}
use Rattle.plain_edits.specs.Collection.{is_clean}
use Rattle.plain_edits.specs.HistorySteps.{HasRisingSet}
use Rattle.plain_edits.specs.Undo.{undone_now}
use Rattle.rev_list.specs.declared.records.RevRecord.{RevRecord}
use Rattle.rev_list.specs.Edit.{after_revision}
use Rattle.rev_list.specs.Groups.{Firsts, AreFirstEdits, rev_of, first_after_step}
use Rattle.rev_list.specs.Hidden.{IsKeptAt}
use Rattle.rev_list.specs.Kept.{history_of, steps_of, dead_now, AreKept, HoldsRevisions, IsOpen}
use Rattle.rev_list.specs.Settled.{Settled, settled_history}
use Rattle.rev_list.specs.Until.{after_records, revision_of, AreRecordsAfter, MayAllFollow, MayFollow}
use Rattle.rev_list.proofs.FlagLemmas.{length-steps_of}
use Rattle.rev_list.proofs.HistoryLemmas.{head-after}
use Rattle.rev_list.proofs.RecordLemmas.{all-push, clean-push, collected-after, collected-fold, collected-history_of, floor-after, floor-fold, floor-history_of, head-fold, head-history_of, undone_rises, until_record, AreKept-append, IsPushed}
use Rattle.rev_list.proofs.UntilLemmas.{revisions-after, until_record-next, AreFirstEdits-after, IsRecordAt-read}

-- ---- the records after a revision

found : (records : List RevRecord) (k : ℕ) (r : RevRecord) → slice_get records k ≡ Some r → (k < length records) × (r ≡ get_or records k r)
found [] k r at = absurd cc
found (x ∷ records) zero r at = (omega arith, cc)
found (x ∷ records) (suc k) r at =
    let rest = found records k r at in
    (omega (arith, rest.0), rest.1)

found_behind : (records : List RevRecord) (i k : ℕ) (r : RevRecord) → slice_get (drop i records) k ≡ Some r →
    (i + k < length records) × (r ≡ get_or records (i + k) r)
found_behind records zero k r at =
    let here : zero + k ≡ k = omega arith in
    rw here (found records k r at)
found_behind [] (suc i) k r at = absurd cc
found_behind (x ∷ records) (suc i) k r at =
    let here : suc i + k ≡ suc (i + k) = omega arith in
    let rest = found_behind records i k r at in
    rw here (omega (arith, rest.0), rest.1)

pub records_after : (settled : Settled) (records : List RevRecord) → IsSound (settled_history settled) → AreKept (settled_history settled) records →
    settled.floor + length records < 2 ^ 63 → (i rev : ℕ) → i ≤ length records → rev ≡ settled.floor + i →
    AreRecordsAfter (history_of settled (steps_of records)) rev (drop i records)
records_after settled records sound kept numbers i rev within place = record {
  len = omega (arith, place, within, length-drop i records, head-history_of settled records);
  each = λ k r at.
      let there = found_behind records i k r at in
      IsRecordAt-read settled records sound kept (i + k) r (rev + 1 + k) there.0 there.1 (omega (arith, place)) numbers;
}

-- those after a revision that is kept
pub record IsOnFrom (settled : Settled) (records : List RevRecord) (rev i : ℕ) : Type 0 where
  pub within : i ≤ length records
  pub are : AreRecordsAfter (history_of settled (steps_of records)) rev (drop i records)

pub on_from : (settled : Settled) (records : List RevRecord) → IsSound (settled_history settled) → AreKept (settled_history settled) records →
    settled.floor + length records < 2 ^ 63 → (rev i : ℕ) → IsKeptAt (history_of settled (steps_of records)) rev →
    i ≡ rev - (history_of settled (steps_of records)).floor → IsOnFrom settled records rev i
on_from settled records sound kept numbers rev i there is =
    let floor = floor-history_of settled (steps_of records) in
    let within : i ≤ length records = omega (arith, is, there.1, floor, head-history_of settled records) in
    record {
      within = within;
      are = records_after settled records sound kept numbers i rev within (omega (arith, is, there.0, floor));
    }

-- ---- numbers, and first edits

pub numbers_last : (h : History) (records : List RevRecord) → MayAllFollow h records → head h < 2 ^ 63 → head h + length records < 2 ^ 63
numbers_last h [] may low = omega (arith, low)
numbers_last h (r ∷ records) may low =
    omega (
      arith,
      may.0.has_number,
      head-after h r.step,
      numbers_last (after_revision h r.step) records may.1 (omega (arith, may.0.has_number, head-after h r.step)),
    )

pub firsts-on : (h : History) (records : List RevRecord) (i : ℕ) (r : RevRecord) (firsts more : Firsts) → i < length records → r ≡ get_or records i r →
    AreFirstEdits (until_record h records i).revisions firsts →
    ((group : ℕ) → rev_of more.groups more.revs group ≡ first_after_step (rev_of firsts.groups firsts.revs group) r.step (head h + i + 1) group) →
    AreFirstEdits (until_record h records (suc i)).revisions more
firsts-on h records i r firsts more within is are made =
    let taken : length (take i (steps_of records)) ≡ i = length-take-le i (steps_of records) (omega (arith, within, length-steps_of records)) in
    let here : head h + i + 1 ≡ head (until_record h records i) + 1 = omega (arith, head-fold h (take i (steps_of records)), taken) in
    rw (until_record-next h records i r within is)
    (AreFirstEdits-after (until_record h records i) r.step firsts more are
    (λ group. made group ∙ ap (λ n. first_after_step (rev_of firsts.groups firsts.revs group) r.step n group) here))

-- ---- what a list holds

AreKept-may : (h : History) (records : List RevRecord) → MayAllFollow h records → AreKept h records
AreKept-may h [] may = tt
AreKept-may h (r ∷ records) may = (may.0.follows, may.0.turned, AreKept-may (after_revision h r.step) records may.1)

-- the floor is a revision and clean, undone sets rise, and no edit is of a collected group
record IsWell (h : History) : Type 0 where
  low : h.floor ≤ head h
  sets : AllByRecursion HasRisingSet h.revisions
  clean : is_clean h.revisions h.floor ≡ true
  free : AllByRecursion (IsOpen h.collected) h.revisions

well-next : (h : History) (r : RevRecord) → IsWell h → MayFollow h r → IsWell (after_revision h r.step)
well-next h r well may = record {
  low = omega (arith, well.low, floor-after h r.step, head-after h r.step);
  sets = rw (revisions-after h r.step) (all-push HasRisingSet h.revisions (revision_of h r.step) well.sets may.set);
  clean =
      rw (revisions-after h r.step, floor-after h r.step)
      (clean-push h.revisions (revision_of h r.step) h.floor well.low well.clean may.from);
  free =
      rw (revisions-after h r.step, collected-after h r.step)
      (all-push (IsOpen h.collected) h.revisions (revision_of h r.step) well.free may.is_open);
}

well-all : (h : History) (records : List RevRecord) → IsWell h → MayAllFollow h records → IsWell (after_records h records)
well-all h [] well may = well
well-all h (r ∷ records) well may = well-all (after_revision h r.step) records (well-next h r well may.0) may.1

module _ (settled : Settled) (records later : List RevRecord) (gone dead : List Bool) (first more : Firsts) (groups after : List ℕ)
    (holds : HoldsRevisions settled records gone first groups) (may : MayAllFollow (history_of settled (steps_of records)) later)
    (dead_is : dead ≡ dead_now (after_records (history_of settled (steps_of records)) later))
    (firsts_are : AreFirstEdits (after_records (history_of settled (steps_of records)) later).revisions more)
    (undone_is : after ≡ undone_now (after_records (history_of settled (steps_of records)) later)) where
  abbrev h : History
  h = history_of settled (steps_of records)

  abbrev on : History
  on = after_records h later

  whole_is : history_of settled (steps_of (records ++ later)) ≡ on
  whole_is =
      ap (λ steps. history_of settled steps) (map-append (λ r. r.step) records later) ∙
      fold-append after_revision (settled_history settled) (steps_of records) (steps_of later)

  floor_is : on.floor ≡ settled.floor
  floor_is = floor-fold h (steps_of later) ∙ floor-history_of settled (steps_of records)

  collected_is : on.collected ≡ settled.collected
  collected_is = collected-fold h (steps_of later) ∙ collected-history_of settled (steps_of records)

  well : IsWell on
  well =
      well-all h later (record {
        low = omega (arith, floor-history_of settled (steps_of records), head-history_of settled records);
        sets = holds.sets;
        clean = rw (floor-history_of settled (steps_of records)) holds.clean;
        free = rw (collected-history_of settled (steps_of records)) holds.uncollected;
      }) may

  few : settled.floor + length (records ++ later) < 2 ^ 63
  few =
      omega (
        arith,
        length-append records later,
        head-history_of settled records,
        numbers_last h later may (omega (arith, holds.numbers, head-history_of settled records)),
      )

  pub gone_on : IsPushed settled (records ++ later) dead more after on
  gone_on = record {
    holds = record {
      parts = holds.parts;
      sound = holds.sound;
      at_floor = holds.at_floor;
      kept = AreKept-append (settled_history settled) records later holds.kept (AreKept-may h later may);
      numbers = few;
      dead = dead_is ∙ ap dead_now (sym whole_is);
      first_edits = rw whole_is firsts_are;
      undone = undone_is ∙ ap undone_now (sym whole_is);
      rising = rw undone_is (undone_rises on well.sets).0;
      sets = rw whole_is well.sets;
      clean =
          subst (λ n. is_clean (history_of settled (steps_of (records ++ later))).revisions n ≡ true) floor_is
          (subst (λ (g : History). is_clean g.revisions on.floor ≡ true) (sym whole_is) well.clean);
      uncollected =
          subst (λ collected. AllByRecursion (IsOpen collected) (history_of settled (steps_of (records ++ later))).revisions) collected_is
          (subst (λ (g : History). AllByRecursion (IsOpen on.collected) g.revisions) (sym whole_is) well.free);
    };
    history = whole_is;
  }
