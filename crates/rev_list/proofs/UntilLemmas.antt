-- The history up to a revision is what the records up to there make, and what one more record makes of it.
use Rattle.std.proofs.Common.{◌≡◌, ℕ, ◌+◌, ◌-◌, ◌^◌, ◌<◌, ◌≤◌, Bool, true, false, cond, not, ◌&&◌, ◌||◌, nat_le, nat_lt, List, [], ◌∷◌, ◌++◌, length, map, take, drop, filter, get_or, refl, ap, ap₂, sym, ◌∙◌, arith, take_all}
use Rattle.std.specs.Prelude.{suc, zero}
use Rattle.std.specs.List.{fold, list_all, AllByRecursion}
use Rattle.std.proofs.lemmas.Bool.{and_parts, lt-ltb}
use Rattle.std.proofs.lemmas.Bool.Decides.{nat_tests}
use Rattle.std.proofs.lemmas.List.{drop-append-le, length-take-le, take-append-drop, take-append-le}
use Rattle.std.proofs.lemmas.List.Folds.{list_all-append}
use Rattle.subset_runs.specs.Subset.{symmetric_difference}
use Rattle.subset_runs.proofs.ForCallers.{length-expand_as, symmetric_difference-back}
use Rattle.plain_text.specs.Numbers.{has, IsRising}
use Rattle.plain_text.proofs.callers.ListLemmas.{AllByRecursion-take}
use Rattle.plain_edits.specs.History.{Tagged, Revision, undo, History, head, group_of, undone, is_there, is_visible, text_at, IsTaggedBy, IsSound}
use Rattle.plain_edits.specs.Edits.{with_deletion, undid}
use Rattle.plain_edits.specs.Collection.{is_based_from, is_clean}
use Rattle.plain_edits.specs.HistorySteps.{HasRisingSet}
use Rattle.plain_edits.specs.Undo.{undone_now}
use Rattle.plain_edits.proofs.callers.FirstLemmas.{is_visible-take}
use Rattle.plain_edits.proofs.callers.HistoryLemmas.{is_visible-later}
use Rattle.rev_list.specs.declared.step.RevStep.{RevStep}
use Rattle.rev_list.specs.declared.step.RevStep.TheVariants.{Edit, Undo}
use Rattle.rev_list.specs.declared.records.RevRecord.{RevRecord}
use Rattle.rev_list.specs.Groups.{Firsts, AreFirstEdits, rev_of, first_after_step}
use Rattle.rev_list.specs.Edit.{edit_revision, new_by, with_new, with_deleted, after_edit, undone_by, after_revision}
use Rattle.rev_list.specs.Settled.{Settled, settled_history}
use Rattle.rev_list.specs.Kept.{history_of, steps_of, dead_now, grown_by, turned_by, Follows, GrowFrom, IsOpen, AreKept, HoldsRevisions}
use Rattle.rev_list.specs.Until.{tagged_until, history_until, revision_of, undone_after_step, IsRecordAt, MayFollow}
use Rattle.rev_list.proofs.TagLemmas.{there_by, there_new_before}
use Rattle.rev_list.proofs.StepLemmas.{filter-there, filter-with_new}
use Rattle.rev_list.proofs.FirstLemmas.{IsFirstEdit-undid}
use Rattle.rev_list.proofs.HistoryLemmas.{head-after, length-after_edit, length-dead_now, undone_now-edit, undone_now-undid}
use Rattle.rev_list.proofs.RecordLemmas.{until_record, until_all, sound-fold, head-then_of, AreKept-drop, AreFirstEdits-edit, HoldsRevisions-push, IsPushed, all-push, clean-push, collected-history_of, floor-history_of, head-history_of, steps_of-push, undone_rises}

-- ---- a character as it was

filter_later : (n rev : ℕ) → n < rev → (ds : List ℕ) → filter (λ d. nat_le d n) (ds ++ rev ∷ []) ≡ filter (λ d. nat_le d n) ds
filter_later n rev later [] = ap (λ b. cond b (rev ∷ []) []) (there_new_before rev n later)
filter_later n rev later (d ∷ ds) = ap (λ rest. cond (nat_le d n) (d ∷ rest) rest) (filter_later n rev later ds)

filter_by : (n : ℕ) (ds : List ℕ) → AllByRecursion (λ d. d ≤ n) ds → filter (λ d. nat_le d n) ds ≡ ds
filter_by n [] all = refl
filter_by n (d ∷ ds) all =
    ap (λ b. cond b (d ∷ filter (λ d. nat_le d n) ds) (filter (λ d. nat_le d n) ds)) (there_by n d all.0) ∙ ap (λ rest. d ∷ rest) (filter_by n ds all.1)

abbrev with_dates : Tagged → List ℕ → Tagged
with_dates t ds = record { character = t.character; inserted = t.inserted; deleted = ds }

deleted_later : (n rev : ℕ) → n < rev → (t : Tagged) → tagged_until n (with_deletion rev t) ≡ tagged_until n t
deleted_later n rev later t = ap (with_dates t) (filter_later n rev later t.deleted)

until_cons : (n : ℕ) (b : Bool) (x y : Tagged) (xs ys : List Tagged) → tagged_until n x ≡ tagged_until n y →
    map (tagged_until n) xs ≡ map (tagged_until n) ys → map (tagged_until n) (cond b (x ∷ xs) xs) ≡ map (tagged_until n) (cond b (y ∷ ys) ys)
until_cons n true x y xs ys first rest = ap₂ (λ t ts. t ∷ ts) first rest
until_cons n false x y xs ys first rest = rest

until-with_deleted : (n rev : ℕ) → n < rev → (xs : List Tagged) (at : List Bool) →
    map (tagged_until n) (filter (is_there n) (with_deleted rev xs at)) ≡ map (tagged_until n) (filter (is_there n) xs)
until-with_deleted n rev later [] at = refl
until-with_deleted n rev later (x ∷ xs) [] = refl
until-with_deleted n rev later (x ∷ xs) (true ∷ at) =
    until_cons n (is_there n x) (with_deletion rev x) x (filter (is_there n) (with_deleted rev xs at)) (filter (is_there n) xs) (deleted_later n rev later x)
    (until-with_deleted n rev later xs at)
until-with_deleted n rev later (x ∷ xs) (false ∷ at) =
    until_cons n (is_there n x) x x (filter (is_there n) (with_deleted rev xs at)) (filter (is_there n) xs) refl (until-with_deleted n rev later xs at)

all_until : (n : ℕ) (xs : List Tagged) → AllByRecursion (IsTaggedBy n) xs → map (tagged_until n) xs ≡ xs
all_until n [] all = refl
all_until n (x ∷ xs) all = ap₂ (λ t ts. t ∷ ts) (ap (with_dates x) (filter_by n x.deleted all.0.deleted)) (all_until n xs all.1)

-- ---- the history up to a revision

abbrev with_parts : History → List Tagged → List Revision → History
with_parts h characters revisions = record { characters = characters; revisions = revisions; floor = h.floor; collected = h.collected }

-- up to the head it is the history
pub until-head : (h : History) → IsSound h → history_until h (head h) ≡ h
until-head h sound =
    ap₂ (with_parts h) (ap (map (tagged_until (head h))) (filter-there (head h) h.characters sound) ∙ all_until (head h) h.characters sound)
    (take_all (head h) h.revisions (omega arith))

-- one more revision changes nothing of what was before it
until-after : (h : History) (r : RevStep) (n : ℕ) → Follows h r → n ≤ head h → history_until (after_revision h r) n ≡ history_until h n
until-after h (Edit e) n next within =
    ap₂ (with_parts h)
    (until-with_deleted n (head h + 1) (omega (arith, within)) (with_new (new_by (head h + 1)) h.characters e.inserted) e.deleted ∙
    ap (map (tagged_until n)) (filter-with_new (head h + 1) n h.characters e.inserted (omega (arith, within)) next.grown))
    (take-append-le n h.revisions (edit_revision e ∷ []) within)
until-after h (Undo groups) n next within =
    ap (with_parts h (map (tagged_until n) (filter (is_there n) h.characters))) (take-append-le n h.revisions (undo (undone_by h groups) ∷ []) within)

until-fold : (h : History) (records : List RevRecord) (n : ℕ) → AreKept h records → n ≤ head h →
    history_until (fold after_revision h (steps_of records)) n ≡ history_until h n
until-fold h [] n kept within = refl
until-fold h (r ∷ records) n kept within =
    until-fold (after_revision h r.step) records n kept.2 (omega (arith, within, head-after h r.step)) ∙ until-after h r.step n kept.0 within

-- ---- what it shows

over : (d rev : ℕ) → nat_le d rev ≡ false → rev < d
over d rev is = grind (arith, nat_tests)

all-filter : (p : ℕ → Bool) (rev : ℕ) → ((d : ℕ) → rev < d → p d ≡ true) → (ds : List ℕ) → list_all p (filter (λ d. nat_le d rev) ds) ≡ list_all p ds
all-filter p rev passes [] = refl
all-filter p rev passes (d ∷ ds) = by (nat_le d rev) refl (all-filter p rev passes ds)
  where
    by : (b : Bool) → nat_le d rev ≡ b → list_all p (filter (λ d. nat_le d rev) ds) ≡ list_all p ds →
        list_all p (cond b (d ∷ filter (λ d. nat_le d rev) ds) (filter (λ d. nat_le d rev) ds)) ≡ (p d && list_all p ds)
    by true is rest = ap (λ b. p d && b) rest
    by false is rest = rest ∙ sym (ap (λ b. b && list_all p ds) (passes d (over d rev is)))

shown_until : (revisions : List Revision) (rev at : ℕ) → at ≤ rev → (t : Tagged) →
    is_visible (take rev revisions) at (tagged_until rev t) ≡ is_visible revisions at t
shown_until revisions rev at within t =
    is_visible-take revisions rev at (tagged_until rev t) within ∙
    ap (λ b. nat_le t.inserted at && not (has (undone revisions at) (group_of revisions t.inserted)) && b)
    (all-filter (λ d. nat_lt at d || has (undone revisions at) (group_of revisions d)) rev
    (λ d later. ap (λ b. b || has (undone revisions at) (group_of revisions d)) (lt-ltb at d (omega (arith, later, within)))) t.deleted)

pub text_at-until : (h : History) (rev at : ℕ) → at ≤ rev → text_at (history_until h rev) at ≡ text_at h at
text_at-until h rev at within = shown h.characters
  where
    then : Tagged → Bool
    then = is_visible (take rev h.revisions) at

    now : Tagged → Bool
    now = is_visible h.revisions at

    texts : List Tagged → List ℕ
    texts xs = map (λ t. t.character) xs

    cons : (t : Tagged) (a b : Bool) (xs ys : List Tagged) → a ≡ b → texts xs ≡ texts ys →
        texts (cond a (tagged_until rev t ∷ xs) xs) ≡ texts (cond b (t ∷ ys) ys)
    cons t true b xs ys same rest = ap (λ ts. t.character ∷ ts) rest ∙ ap (λ c. texts (cond c (t ∷ ys) ys)) same
    cons t false b xs ys same rest = rest ∙ ap (λ c. texts (cond c (t ∷ ys) ys)) same

    shown : (xs : List Tagged) → texts (filter then (map (tagged_until rev) (filter (is_there rev) xs))) ≡ texts (filter now xs)
    shown [] = refl
    shown (t ∷ xs) = by (is_there rev t) refl (shown xs)
      where
        by : (b : Bool) → is_there rev t ≡ b → texts (filter then (map (tagged_until rev) (filter (is_there rev) xs))) ≡ texts (filter now xs) →
            texts (filter then (map (tagged_until rev) (cond b (t ∷ filter (is_there rev) xs) (filter (is_there rev) xs)))) ≡
            texts (cond (now t) (t ∷ filter now xs) (filter now xs))
        by true there rest =
            cons t (then (tagged_until rev t)) (now t) (filter then (map (tagged_until rev) (filter (is_there rev) xs))) (filter now xs)
            (shown_until h.revisions rev at within t) rest
        by false gone rest =
            rest ∙ sym (ap (λ b. texts (cond b (t ∷ filter now xs) (filter now xs)))
            (is_visible-later h.revisions at t (omega (arith, over t.inserted rev gone, within))))

-- ---- the records up to a revision

steps_of-take : (records : List RevRecord) (i : ℕ) → steps_of (take i records) ≡ take i (steps_of records)
steps_of-take records zero = refl
steps_of-take [] (suc i) = refl
steps_of-take (r ∷ records) (suc i) = ap (λ steps. r.step ∷ steps) (steps_of-take records i)

AreKept-take : (h : History) (records : List RevRecord) (i : ℕ) → AreKept h records → AreKept h (take i records)
AreKept-take h records zero kept = tt
AreKept-take h [] (suc i) kept = tt
AreKept-take h (r ∷ records) (suc i) kept = (kept.0, kept.1, AreKept-take (after_revision h r.step) records i kept.2)

pub until_record-next : (h : History) (records : List RevRecord) (i : ℕ) (r : RevRecord) → i < length records → r ≡ get_or records i r →
    until_record h records (suc i) ≡ after_revision (until_record h records i) r.step
until_record-next h [] i r within is = absurd (omega (arith, within))
until_record-next h (x ∷ records) zero r within is = ap (λ (y : RevRecord). after_revision h y.step) (sym is)
until_record-next h (x ∷ records) (suc i) r within is = until_record-next (after_revision h x.step) records i r (omega (arith, within)) is

kept_at : (h : History) (records : List RevRecord) (i : ℕ) (r : RevRecord) → AreKept h records → i < length records → r ≡ get_or records i r →
    Follows (until_record h records i) r.step × (r.turned ≡ turned_by (until_record h records i) r.step)
kept_at h [] i r kept within is = absurd (omega (arith, within))
kept_at h (x ∷ records) zero r kept within is = rw is (kept.0, kept.1)
kept_at h (x ∷ records) (suc i) r kept within is = kept_at (after_revision h x.step) records i r kept.2 (omega (arith, within)) is

pub clean-take : (revisions : List Revision) (n floor : ℕ) → floor ≤ length (take n revisions) → is_clean revisions floor ≡ true →
    is_clean (take n revisions) floor ≡ true
clean-take revisions n floor within clean =
    (and_parts (is_clean (take n revisions) floor) (list_all (is_based_from floor) (drop n revisions))
    (sym (list_all-append (is_based_from floor) (drop floor (take n revisions)) (drop n revisions)) ∙
    ap (list_all (is_based_from floor)) (sym (drop-append-le floor (take n revisions) (drop n revisions) within) ∙
    ap (drop floor) (take-append-drop n revisions)) ∙ clean)).0

module _ (settled : Settled) (records : List RevRecord) (sound : IsSound (settled_history settled)) (kept : AreKept (settled_history settled) records) where
  abbrev start : History
  start = settled_history settled

  abbrev whole : History
  whole = history_of settled (steps_of records)

  abbrev up_to : ℕ → History
  up_to i = until_record start records i

  pub until_is : (i : ℕ) → i ≤ length records → history_until whole (settled.floor + i) ≡ up_to i
  until_is i within =
      let here : settled.floor + i ≡ head (up_to i) = sym (head-then_of settled records sound kept i within) in
      ap (λ (h : History). history_until h (settled.floor + i)) (sym (until_all start records i)) ∙
      until-fold (up_to i) (drop i records) (settled.floor + i) (AreKept-drop start records i kept) (omega (arith, here)) ∙
      ap (history_until (up_to i)) here ∙ until-head (up_to i) (sound-fold start (take i (steps_of records)) sound)

  pub IsRecordAt-read : (i : ℕ) (r : RevRecord) (rev : ℕ) → i < length records → r ≡ get_or records i r → rev ≡ settled.floor + 1 + i →
      settled.floor + length records < 2 ^ 63 → IsRecordAt whole rev r
  IsRecordAt-read i r rev within is place numbers =
      let before : rev - 1 ≡ settled.floor + i = omega (arith, place) in
      let now : rev ≡ settled.floor + suc i = omega (arith, place) in
      let was : history_until whole (rev - 1) ≡ up_to i = ap (history_until whole) before ∙ until_is i (omega (arith, within)) in
      let is_now : history_until whole rev ≡ up_to (suc i) = ap (history_until whole) now ∙ until_is (suc i) (omega (arith, within)) in
      let parts = kept_at start records i r kept within is in
      record {
        follows = rw was parts.0;
        turned = parts.1 ∙ ap (λ (h : History). turned_by h r.step) (sym was);
        next = is_now ∙ until_record-next start records i r within is ∙ ap (λ (h : History). after_revision h r.step) (sym was);
        has_number = omega (arith, place, within, numbers);
      }

  -- the records up to there make it
  pub until-taken : (i : ℕ) → history_of settled (steps_of (take i records)) ≡ up_to i
  until-taken i = ap (fold after_revision (settled_history settled)) (steps_of-take records i)

  pub until_from_floor : (i : ℕ) → i ≤ length records → history_until whole (whole.floor + i) ≡ up_to i
  until_from_floor i within = ap (λ n. history_until whole (n + i)) (floor-history_of settled (steps_of records)) ∙ until_is i within

  -- what is undone after one more record
  pub undone-next : (i : ℕ) (r : RevRecord) → i < length records → r ≡ get_or records i r →
      undone_now (up_to (suc i)) ≡ undone_after_step (undone_now (up_to i)) r.step
  undone-next i r within is = ap undone_now (until_record-next start records i r within is) ∙ by r.step
    where
      by : (step : RevStep) → undone_now (after_revision (up_to i) step) ≡ undone_after_step (undone_now (up_to i)) step
      by (Edit e) = undone_now-edit (up_to i) e
      by (Undo groups) = undone_now-undid (up_to i) (undone_by (up_to i) groups)

-- the first edits after one more step
pub AreFirstEdits-after : (h : History) (step : RevStep) (first more : Firsts) → AreFirstEdits h.revisions first →
    ((group : ℕ) → rev_of more.groups more.revs group ≡ first_after_step (rev_of first.groups first.revs group) step (head h + 1) group) →
    AreFirstEdits (after_revision h step).revisions more
AreFirstEdits-after h (Edit e) first more are made = AreFirstEdits-edit h e first more are made
AreFirstEdits-after h (Undo groups) first more are made =
    λ group. rw (made group) (IsFirstEdit-undid h (undone_by h groups) group (rev_of first.groups first.revs group) (are group))

module _ (settled : Settled) (records : List RevRecord) (gone : List Bool) (first : Firsts) (groups : List ℕ)
    (holds : HoldsRevisions settled records gone first groups) where
  abbrev now_of : History
  now_of = history_of settled (steps_of records)

  pub firsts-next : (i : ℕ) (r : RevRecord) (firsts more : Firsts) → i < length records → r ≡ get_or records i r →
      AreFirstEdits (until_record (settled_history settled) records i).revisions firsts →
      ((group : ℕ) → rev_of more.groups more.revs group ≡ first_after_step (rev_of firsts.groups firsts.revs group) r.step (settled.floor + i + 1) group) →
      AreFirstEdits (until_record (settled_history settled) records (suc i)).revisions more
  firsts-next i r firsts more within is are made =
      let here : settled.floor + i + 1 ≡ head (until_record (settled_history settled) records i) + 1 =
      omega (arith, head-then_of settled records holds.sound holds.kept i (omega (arith, within))) in
      rw (until_record-next (settled_history settled) records i r within is)
      (AreFirstEdits-after (until_record (settled_history settled) records i) r.step firsts more are
      (λ group. made group ∙ ap (λ n. first_after_step (rev_of firsts.groups firsts.revs group) r.step n group) here))

  -- the list up to a revision
  module _ (i : ℕ) (within : i ≤ length records) (dead : List Bool) (firsts : Firsts) (set : List ℕ)
      (dead_is : dead ≡ dead_now (until_record (settled_history settled) records i))
      (firsts_are : AreFirstEdits (until_record (settled_history settled) records i).revisions firsts)
      (set_is : set ≡ undone_now (until_record (settled_history settled) records i)) where
    abbrev then_is : History
    then_is = until_record (settled_history settled) records i

    history-until : history_of settled (steps_of (take i records)) ≡ then_is
    history-until = until-taken settled records holds.sound holds.kept i

    revisions_are : then_is.revisions ≡ take (settled.floor + i) now_of.revisions
    revisions_are = ap (λ (h : History). h.revisions) (sym (until_is settled records holds.sound holds.kept i within))

    sets_then : AllByRecursion HasRisingSet then_is.revisions
    sets_then = rw revisions_are (AllByRecursion-take HasRisingSet (settled.floor + i) now_of.revisions holds.sets)

    pub HoldsRevisions-until : HoldsRevisions settled (take i records) dead firsts set
    HoldsRevisions-until =
        let long : settled.floor ≤ length then_is.revisions = omega (arith, head-then_of settled records holds.sound holds.kept i within) in
        record {
          parts = holds.parts;
          sound = holds.sound;
          at_floor = holds.at_floor;
          kept = AreKept-take (settled_history settled) records i holds.kept;
          numbers = omega (arith, holds.numbers, length-take-le i records within, within);
          dead = dead_is ∙ ap dead_now (sym history-until);
          first_edits = rw history-until firsts_are;
          undone = set_is ∙ ap undone_now (sym history-until);
          rising = rw set_is (undone_rises then_is sets_then).0;
          sets = rw history-until sets_then;
          clean =
              rw (history-until, revisions_are)
              (clean-take now_of.revisions (settled.floor + i) settled.floor (rw revisions_are at long) holds.clean);
          uncollected =
              rw (history-until, revisions_are)
              (AllByRecursion-take (IsOpen settled.collected) (settled.floor + i) now_of.revisions holds.uncollected);
        }

-- ---- one more record

pub revisions-after : (h : History) (step : RevStep) → (after_revision h step).revisions ≡ h.revisions ++ revision_of h step ∷ []
revisions-after h (Edit e) = refl
revisions-after h (Undo groups) = refl

-- what is dead before a step, and after it, over one union
pub lengths_after : (h : History) (step : RevStep) → Follows h step → length (grown_by (dead_now h) step) ≡ length (dead_now (after_revision h step))
lengths_after h (Edit e) next =
    length-expand_as false (dead_now h) e.inserted ∙ sym (length-dead_now (after_edit h e) ∙ length-after_edit h e next)
lengths_after h (Undo groups) next = length-dead_now h ∙ sym (length-dead_now (undid h (undone_by h groups)))

module _ (h : History) (r : RevRecord) (may : MayFollow h r) where
  pub grows : GrowFrom (length (dead_now h)) (r.step ∷ [])
  grows = by r.step may.follows
    where
      by : (step : RevStep) → Follows h step → GrowFrom (length (dead_now h)) (step ∷ [])
      by (Edit e) next = (omega (arith, next.grown, length-dead_now h), tt)
      by (Undo groups) next = tt

  pub turned_length : length (grown_by (dead_now h) r.step) ≡ length r.turned
  turned_length = sym (ap length may.turned ∙ both (grown_by (dead_now h) r.step) (dead_now (after_revision h r.step)) (lengths_after h r.step may.follows))
    where
      both : (xs ys : List Bool) → length xs ≡ length ys → length (symmetric_difference xs ys) ≡ length xs
      both [] ys same = refl
      both (x ∷ xs) [] same = absurd (omega (arith, same))
      both (x ∷ xs) (y ∷ ys) same = omega (arith, both xs ys (omega (arith, same)))

  pub turned_forward : symmetric_difference (grown_by (dead_now h) r.step) r.turned ≡ dead_now (after_revision h r.step)
  turned_forward =
      ap (symmetric_difference (grown_by (dead_now h) r.step)) may.turned ∙
      symmetric_difference-back (grown_by (dead_now h) r.step) (dead_now (after_revision h r.step)) (lengths_after h r.step may.follows)

pub push_follows : (settled : Settled) (records : List RevRecord) (newest : RevRecord) (gone dead : List Bool) (first more : Firsts) (groups after : List ℕ) →
    HoldsRevisions settled records gone first groups → MayFollow (history_of settled (steps_of records)) newest →
    dead ≡ symmetric_difference (grown_by gone newest.step) newest.turned →
    ((group : ℕ) → rev_of more.groups more.revs group ≡ first_after_step (rev_of first.groups first.revs group) newest.step (settled.floor + length records + 1) group) →
    after ≡ undone_after_step groups newest.step →
    IsPushed settled (records ++ newest ∷ []) dead more after (after_revision (history_of settled (steps_of records)) newest.step)
push_follows settled records newest gone dead first more groups after holds may dead_is made after_is = record {
  holds =
      HoldsRevisions-push settled records newest gone dead first more groups after holds may.has_number may.follows may.turned
      (dead_is ∙ ap (λ flags. symmetric_difference (grown_by flags newest.step) newest.turned) holds.dead ∙ turned_forward h newest may)
      (AreFirstEdits-after h newest.step first more holds.first_edits
      (λ group. made group ∙ ap (λ n. first_after_step (rev_of first.groups first.revs group) newest.step (n + 1) group) (sym (head-history_of settled records))))
      undone_is (rising newest.step may.set after_is)
      (rw (revisions-after h newest.step) (all-push HasRisingSet h.revisions (revision_of h newest.step) holds.sets may.set))
      (rw (revisions-after h newest.step)
      (clean-push h.revisions (revision_of h newest.step) settled.floor (omega (arith, head-history_of settled records)) holds.clean
      (rw (floor-history_of settled (steps_of records)) at may.from)))
      (rw (revisions-after h newest.step)
      (all-push (IsOpen settled.collected) h.revisions (revision_of h newest.step) holds.uncollected
      (rw (collected-history_of settled (steps_of records)) at may.is_open)));
  history = steps_of-push records newest settled;
}
  where
    h : History
    h = history_of settled (steps_of records)

    undone_is : after ≡ undone_now (after_revision h newest.step)
    undone_is = after_is ∙ ap (λ set. undone_after_step set newest.step) holds.undone ∙ by newest.step
      where
        by : (step : RevStep) → undone_after_step (undone_now h) step ≡ undone_now (after_revision h step)
        by (Edit e) = sym (undone_now-edit h e)
        by (Undo others) = sym (undone_now-undid h (undone_by h others))

    rising : (step : RevStep) → HasRisingSet (revision_of h step) → after ≡ undone_after_step groups step → IsRising after
    rising (Edit e) set is = rw is holds.rising
    rising (Undo others) set is = rw (is, holds.undone) set.0
