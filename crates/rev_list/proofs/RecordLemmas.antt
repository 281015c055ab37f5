-- What a list keeps up to the floor, and in its records.
use Rattle.std.proofs.Common.{◌≡◌, ℕ, ◌+◌, ◌-◌, ◌^◌, ◌<◌, ◌≤◌, Bool, true, false, not, ◌&&◌, ◌||◌, ◌==◌, nat_le, List, [], ◌∷◌, ◌++◌, length, map, take, drop, Some, slice_get, get_or, refl, ap, ap₂, sym, ◌∙◌, arith, suc-add, take_all, length-append}
use Rattle.std.specs.Prelude.{suc, zero, replicate}
use Rattle.std.specs.List.{fold, list_all, range_with_len, AllByRecursion}
use Rattle.std.proofs.lemmas.Bool.{and_from, and_parts, le-leb, ne_eqb}
use Rattle.std.proofs.lemmas.List.{drop-append-le, map-append, length-map, length-drop, length-take-le, take-append-drop}
use Rattle.std.proofs.lemmas.List.Sums.{fold-append}
use Rattle.std.proofs.lemmas.Option.{slice_get_past, slice_get_read}
use Rattle.subset_runs.specs.Subset.{expand, symmetric_difference}
use Rattle.plain_text.specs.Numbers.{has, flipped, IsRising}
use Rattle.plain_text.proofs.callers.ListLemmas.{AllByRecursion-append}
use Rattle.plain_edits.specs.History.{Tagged, inserted_by, Revision, edit, undo, History, head, loaded, edit_group, undone_after, is_visible_under, IsTaggedBy, IsSound}
use Rattle.plain_edits.proofs.callers.HistoryLemmas.{undone_all}
use Rattle.plain_edits.specs.Edits.{undid}
use Rattle.plain_edits.specs.Collection.{is_based_from, is_clean}
use Rattle.plain_edits.specs.HistorySteps.{is_edit, HasRisingSet, IsByEdits}
use Rattle.plain_edits.specs.Undo.{undone_now}
use Rattle.rev_list.specs.Under.{is_hidden_under}
use Rattle.rev_list.specs.declared.edit.RevEdit.{RevEdit}
use Rattle.rev_list.specs.declared.step.RevStep.{RevStep}
use Rattle.rev_list.specs.declared.step.RevStep.TheVariants.{Edit, Undo}
use Rattle.rev_list.specs.declared.records.RevRecord.{RevRecord}
use Rattle.rev_list.specs.declared.settled.SettledGroup.{SettledGroup}
use Rattle.rev_list.specs.Groups.{Firsts, AreFirstEdits, rev_of, first_after, first_with}
use Rattle.rev_list.specs.Edit.{edit_revision, after_edit, undone_by, after_revision, IsKnownGroup, MayPush, MayPushUndo}
use Rattle.rev_list.specs.Hidden.{is_hidden, hidden_at, union_at, hidden_then, IsRevisionAt, AreRevisionsAfter, IsDeletedLater, AreDeletedLater, IsKeptAt}
use Rattle.rev_list.specs.Settled.{Settled, AreInsertedApart, AreSettled, AreSettledGroups, HasLengths, IsEnd, IsSettledGroup, MaySettle, hidden_by_groups, without_first, settled_at_head, settled_characters, settled_history, settled_loaded, settled_said, ending_at}
use Rattle.rev_list.specs.Kept.{history_of, steps_of, dead_now, dead_after, turned_by, IsNext, IsOpen, Follows, GrowFrom, AreKept, HoldsRevisions}
use Rattle.rev_list.specs.Inner.{dead_later}
use Rattle.rev_list.proofs.FlagLemmas.{IsBack, IsTurn, IsTurn-edit, IsTurn-undo, length-steps_of, steps_of-at}
use Rattle.rev_list.proofs.FirstLemmas.{IsFirstEdit-loaded, IsFirstEdit-edit, IsFirstEdit-undid}
use Rattle.rev_list.proofs.StepLemmas.{filter-there}
use Rattle.rev_list.proofs.SettledLemmas.{hides_by_groups}
use Rattle.rev_list.proofs.TagLemmas.{has_deleted_before}
use Rattle.rev_list.proofs.CharacterLemmas.{by_edits-fold, flags_then-fold, later-fold, no_text-fold, revision_at-fold}
use Rattle.rev_list.proofs.UpToFloorLemmas.{IsLastEdit, IsSaidIn, edits_listed, groups_said, last_edits, settled_by_edits, settled_clean, settled_no_text, settled_open, settled_sets, settled_sound, IsFirstEdit-settled}
use Rattle.rev_list.proofs.HistoryLemmas.{head-after, sound-after, length-after_edit, hidden_at-later, hidden_then-later, hidden_under_then-later, hidden_then-head, length-dead_now, dead_now-edit, dead_now-undid, undone_now-edit, undone_now-undid, IsRevisionAt-now, IsRevisionAt-later}

-- the history after the first so many
abbrev pub until_record : History → List RevRecord → ℕ → History
until_record h records i = fold after_revision h (take i (steps_of records))

pub head-fold : (h : History) (steps : List RevStep) → head (fold after_revision h steps) ≡ head h + length steps
head-fold h [] = omega arith
head-fold h (r ∷ steps) = omega (arith, head-fold (after_revision h r) steps, head-after h r)

pub floor-after : (h : History) (r : RevStep) → (after_revision h r).floor ≡ h.floor
floor-after h (Edit e) = refl
floor-after h (Undo groups) = refl

pub collected-after : (h : History) (r : RevStep) → (after_revision h r).collected ≡ h.collected
collected-after h (Edit e) = refl
collected-after h (Undo groups) = refl

pub floor-fold : (h : History) (steps : List RevStep) → (fold after_revision h steps).floor ≡ h.floor
floor-fold h [] = refl
floor-fold h (r ∷ steps) = floor-fold (after_revision h r) steps ∙ floor-after h r

pub collected-fold : (h : History) (steps : List RevStep) → (fold after_revision h steps).collected ≡ h.collected
collected-fold h [] = refl
collected-fold h (r ∷ steps) = collected-fold (after_revision h r) steps ∙ collected-after h r

pub sound-fold : (h : History) (steps : List RevStep) → IsSound h → IsSound (fold after_revision h steps)
sound-fold h [] sound = sound
sound-fold h (r ∷ steps) sound = sound-fold (after_revision h r) steps (sound-after h r sound)

-- ---- parts of the records

pub AreKept-drop : (h : History) (records : List RevRecord) (i : ℕ) → AreKept h records → AreKept (until_record h records i) (drop i records)
AreKept-drop h records zero kept = kept
AreKept-drop h [] (suc i) kept = tt
AreKept-drop h (r ∷ records) (suc i) kept = AreKept-drop (after_revision h r.step) records i kept.2

steps_of-drop_all : (records : List RevRecord) (i : ℕ) → steps_of (drop i records) ≡ drop i (steps_of records)
steps_of-drop_all records zero = refl
steps_of-drop_all [] (suc i) = refl
steps_of-drop_all (r ∷ records) (suc i) = steps_of-drop_all records i

pub AreKept-append : (h : History) (records more : List RevRecord) → AreKept h records → AreKept (fold after_revision h (steps_of records)) more → AreKept h (records ++ more)
AreKept-append h [] more kept rest = rest
AreKept-append h (r ∷ records) more kept rest = (kept.0, kept.1, AreKept-append (after_revision h r.step) records more kept.2 rest)

pub until_all : (h : History) (records : List RevRecord) (i : ℕ) → fold after_revision (until_record h records i) (steps_of (drop i records)) ≡ fold after_revision h (steps_of records)
until_all h records i =
    ap (λ steps. fold after_revision (until_record h records i) steps) (steps_of-drop_all records i) ∙
    sym (fold-append after_revision h (take i (steps_of records)) (drop i (steps_of records))) ∙
    ap (λ steps. fold after_revision h steps) (take-append-drop i (steps_of records))

-- what a set hides at an earlier revision
hidden_under_then-fold : (h : History) (records : List RevRecord) (set : List ℕ) (n : ℕ) → AreKept h records → n ≤ head h →
    map (is_hidden_under (fold after_revision h (steps_of records)) set n) (union_at (fold after_revision h (steps_of records)) n) ≡
    map (is_hidden_under h set n) (union_at h n)
hidden_under_then-fold h [] set n kept le = refl
hidden_under_then-fold h (r ∷ records) set n kept le =
    hidden_under_then-fold (after_revision h r.step) records set n kept.2 (omega (arith, head-after h r.step)) ∙
    hidden_under_then-later h r.step set n kept.0 le

-- ---- a walk from the head back

turn_of : (h : History) (step : RevStep) → IsSound h → Follows h step → IsTurn (dead_now (after_revision h step)) step (turned_by h step) (dead_now h)
turn_of h (Edit e) sound next =
    IsTurn-edit (dead_now h) (dead_now (after_edit h e)) e (omega (arith, next.grown, length-dead_now h))
    (length-dead_now (after_edit h e) ∙ length-after_edit h e next)
turn_of h (Undo groups) sound next =
    IsTurn-undo (dead_now h) (dead_now (undid h (undone_by h groups))) groups (length-dead_now h ∙ sym (length-dead_now (undid h (undone_by h groups))))

back_of : (h : History) (r : RevRecord) → IsSound h → Follows h r.step → r.turned ≡ turned_by h r.step → IsBack (dead_now (after_revision h r.step)) r (dead_now h)
back_of h r sound next turned_is =
    let turn = rw (← turned_is) at (turn_of h r.step sound next) in
    record { same_length = turn.same_length; fits = turn.fits; back = turn.back }

pub back_at : (h : History) (records : List RevRecord) (i : ℕ) (r : RevRecord) → IsSound h → AreKept h records → i < length records → r ≡ get_or records i r →
    IsBack (dead_now (until_record h records (suc i))) r (dead_now (until_record h records i))
back_at h [] i r sound kept lt is = absurd (omega arith)
back_at h (x ∷ records) zero r sound kept lt is = rw is (back_of h x sound kept.0 kept.1)
back_at h (x ∷ records) (suc i) r sound kept lt is = back_at (after_revision h x.step) records i r (sound-after h x.step sound) kept.2 (omega arith) is

-- ---- a walk forward

pub grow_from : (h : History) (records : List RevRecord) → AreKept h records → GrowFrom (length h.characters) (steps_of records)
grow_from h [] kept = tt
grow_from h (r ∷ records) kept = by r.step kept.0 (grow_from (after_revision h r.step) records kept.2)
  where
    by : (step : RevStep) → Follows h step → GrowFrom (length (after_revision h step).characters) (steps_of records) → GrowFrom (length h.characters) (step ∷ steps_of records)
    by (Edit e) next rest = (next.grown, rw (length-after_edit h e next) at rest)
    by (Undo groups) next rest = rest

hidden_at-fold : (h : History) (records : List RevRecord) (n : ℕ) → AreKept h records → n ≤ head h → hidden_at (fold after_revision h (steps_of records)) n ≡ fold dead_later (hidden_at h n) (steps_of records)
hidden_at-fold h [] n kept le = refl
hidden_at-fold h (r ∷ records) n kept le =
    hidden_at-fold (after_revision h r.step) records n kept.2 (omega (arith, head-after h r.step))
    ∙ ap (λ xs. fold dead_later xs (steps_of records)) (hidden_at-later h r.step n kept.0 le)

hidden_then-fold : (h : History) (records : List RevRecord) (n : ℕ) → AreKept h records → n ≤ head h → hidden_then (fold after_revision h (steps_of records)) n ≡ hidden_then h n
hidden_then-fold h [] n kept le = refl
hidden_then-fold h (r ∷ records) n kept le =
    hidden_then-fold (after_revision h r.step) records n kept.2 (omega (arith, head-after h r.step))
    ∙ hidden_then-later h r.step n kept.0 le

IsRevisionAt-fold : (h : History) (records : List RevRecord) (d : RevStep) (rev : ℕ) → AreKept h records → rev ≤ head h → IsRevisionAt h rev d → IsRevisionAt (fold after_revision h (steps_of records)) rev d
IsRevisionAt-fold h [] d rev kept le is = is
IsRevisionAt-fold h (r ∷ records) d rev kept le is =
    IsRevisionAt-fold (after_revision h r.step) records d rev kept.2 (omega (arith, head-after h r.step)) (IsRevisionAt-later h r.step d rev kept.0 le is)

IsRevisionAt-fold_at : (h : History) (records : List RevRecord) (i : ℕ) (d : RevStep) (rev : ℕ) → IsSound h → AreKept h records → slice_get (steps_of records) i ≡ Some d → rev ≡ head h + 1 + i →
    IsRevisionAt (fold after_revision h (steps_of records)) rev d
IsRevisionAt-fold_at h [] i d rev sound kept at is = absurd cc
IsRevisionAt-fold_at h (r ∷ records) zero d rev sound kept at is =
    let same : rev ≡ head h + 1 = omega arith in
    let one : r.step ≡ d = cc in
    rw (same, ← one) (IsRevisionAt-fold (after_revision h r.step) records r.step (head h + 1) kept.2 (omega (arith, head-after h r.step)) (IsRevisionAt-now h r.step sound kept.0))
IsRevisionAt-fold_at h (r ∷ records) (suc i) d rev sound kept at is =
    IsRevisionAt-fold_at (after_revision h r.step) records i d rev (sound-after h r.step sound) kept.2 at (omega (arith, head-after h r.step))

-- ---- what is up to the floor

length-range : (from n : ℕ) → length (range_with_len from n) ≡ n
length-range from zero = refl
length-range from (suc n) = ap suc (length-range (from + 1) n)

pub head-settled : (settled : Settled) → head (settled_history settled) ≡ settled.floor
head-settled settled =
    length-map (range_with_len 1 settled.floor) (λ rev. settled_said settled.undone (ending_at settled.groups rev)) ∙ length-range 1 settled.floor

-- nothing there came after the floor
none_later : (floor : ℕ) (xs : List Tagged) → AllByRecursion (IsTaggedBy floor) xs → AllByRecursion (IsDeletedLater floor) xs
none_later floor [] sound = tt
none_later floor (x ∷ xs) sound = (λ over. absurd (omega (arith, over, sound.0.inserted)), none_later floor xs sound.1)

settled_later : (settled : Settled) → IsSound (settled_history settled) → AreDeletedLater (settled_history settled)
settled_later settled sound = none_later settled.floor (settled_history settled).characters (rw (head-settled settled) at sound)

settled_characters-loaded : (len : ℕ) → settled_characters len [] ≡ map (inserted_by 0) (replicate len 0)
settled_characters-loaded zero = refl
settled_characters-loaded (suc len) = ap (λ rest. record { character = 0; inserted = 0; deleted = [] } ∷ rest) (settled_characters-loaded len)

pub history-loaded : (len : ℕ) → settled_history (settled_loaded len) ≡ loaded (replicate len 0)
history-loaded len = ap (λ characters. record { characters = characters; revisions = []; floor = 0; collected = [] }) (settled_characters-loaded len)

-- ---- a list of revisions

loaded_sound : (len : ℕ) → AllByRecursion (IsTaggedBy 0) (settled_characters len [])
loaded_sound zero = tt
loaded_sound (suc len) = (record { inserted = omega arith; deleted = tt }, loaded_sound len)

none_hidden : (h : History) (len : ℕ) → is_hidden h (head h) (record { character = 0; inserted = 0; deleted = [] }) ≡ false →
    map (is_hidden h (head h)) (settled_characters len []) ≡ replicate len false
none_hidden h zero shown = refl
none_hidden h (suc len) shown = ap₂ (λ b flags. b ∷ flags) shown (none_hidden h len shown)

apart_loaded : (len : ℕ) → AreInsertedApart len []
apart_loaded zero = tt
apart_loaded (suc len) = (tt, apart_loaded len)

pub holds_loaded : (len : ℕ) → HoldsRevisions (settled_loaded len) [] (replicate len false) (record { groups = 0 ∷ []; revs = 0 ∷ [] }) []
holds_loaded len = record {
  parts = record { rising = tt; uncollected = tt; lengths = tt; ends = tt; apart = apart_loaded len };
  sound = loaded_sound len;
  at_floor = refl;
  kept = tt;
  numbers = omega arith;
  dead = sym (none_hidden (settled_history (settled_loaded len)) len refl);
  first_edits = IsFirstEdit-loaded;
  undone = refl;
  rising = tt;
  sets = tt;
  clean = refl;
  uncollected = tt;
}

pub head-history_of : (settled : Settled) (records : List RevRecord) → head (history_of settled (steps_of records)) ≡ settled.floor + length records
head-history_of settled records =
    omega (arith, head-fold (settled_history settled) (steps_of records), length-steps_of records, head-settled settled)

pub floor-history_of : (settled : Settled) (steps : List RevStep) → (history_of settled steps).floor ≡ settled.floor
floor-history_of settled steps = floor-fold (settled_history settled) steps

pub collected-history_of : (settled : Settled) (steps : List RevStep) → (history_of settled steps).collected ≡ settled.collected
collected-history_of settled steps = collected-fold (settled_history settled) steps

-- a revision from the floor to the head is so many after the floor
pub record IsPlaced (settled : Settled) (records : List RevRecord) (rev : ℕ) : Type 0 where
  pub from : settled.floor ≤ rev
  pub within : rev - settled.floor ≤ length records
  pub is : rev ≡ settled.floor + (rev - settled.floor)

pub placed : (settled : Settled) (records : List RevRecord) (rev : ℕ) → IsKeptAt (history_of settled (steps_of records)) rev → IsPlaced settled records rev
placed settled records rev kept =
    let from : settled.floor ≤ rev = rw (floor-history_of settled (steps_of records)) at kept.0 in
    record {
      from = from;
      within = omega (arith, kept.1, head-history_of settled records);
      is = omega (arith, from);
    }

module _ (settled : Settled) (records : List RevRecord) (sound : IsSound (settled_history settled)) (kept : AreKept (settled_history settled) records) where
  abbrev start : History
  start = settled_history settled

  pub sound-history_of : IsSound (history_of settled (steps_of records))
  sound-history_of = sound-fold start (steps_of records) sound

  pub later-history_of : AreDeletedLater (history_of settled (steps_of records))
  later-history_of = later-fold start (steps_of records) sound (settled_later settled sound)

  pub by_edits-history_of : AreSettled settled →
      AllByRecursion (IsByEdits (history_of settled (steps_of records)).revisions) (history_of settled (steps_of records)).characters
  by_edits-history_of parts = by_edits-fold start (steps_of records) sound (settled_by_edits settled parts)

  pub no_text-history_of : AllByRecursion (λ tagged. tagged.character ≡ 0) (history_of settled (steps_of records)).characters
  no_text-history_of = no_text-fold start (steps_of records) (settled_no_text settled)

  abbrev then_of : ℕ → History
  then_of i = until_record start records i

  pub head-then_of : (i : ℕ) → i ≤ length records → head (then_of i) ≡ settled.floor + i
  head-then_of i le = omega (arith, head-fold start (take i (steps_of records)), length-take-steps, head-settled settled)
    where
      length-take-steps : length (take i (steps_of records)) ≡ i
      length-take-steps = length-take-le i (steps_of records) (omega (arith, le, length-steps_of records))

  -- a revision that is so many after the floor
  pub hidden_then-history_of : (i rev : ℕ) → i ≤ length records → rev ≡ settled.floor + i → hidden_then (history_of settled (steps_of records)) rev ≡ dead_now (then_of i)
  hidden_then-history_of i rev le is =
      let here : rev ≡ head (then_of i) = omega (arith, is, head-then_of i le) in
      ap (λ h. hidden_then h rev) (sym (until_all start records i)) ∙
      hidden_then-fold (then_of i) (drop i records) rev (AreKept-drop start records i kept) (omega (arith, here)) ∙
      ap (λ n. hidden_then (then_of i) n) here ∙
      hidden_then-head (then_of i) (sound-fold start (take i (steps_of records)) sound)

  pub hidden_at-history_of : (i rev : ℕ) → i ≤ length records → rev ≡ settled.floor + i →
      hidden_at (history_of settled (steps_of records)) rev ≡ fold dead_later (dead_now (then_of i)) (drop i (steps_of records))
  hidden_at-history_of i rev le is =
      let here : rev ≡ head (then_of i) = omega (arith, is, head-then_of i le) in
      ap (λ h. hidden_at h rev) (sym (until_all start records i)) ∙
      hidden_at-fold (then_of i) (drop i records) rev (AreKept-drop start records i kept) (omega (arith, here)) ∙
      ap₂ (λ n steps. fold dead_later (hidden_at (then_of i) n) steps) here (steps_of-drop_all records i)

  pub grow_from-history_of : (i : ℕ) → i ≤ length records → GrowFrom (length (dead_now (then_of i))) (drop i (steps_of records))
  grow_from-history_of i le =
      rw (length-dead_now (then_of i), ← steps_of-drop_all records i)
      (grow_from (then_of i) (drop i records) (AreKept-drop start records i kept))

  pub back_at-history_of : (i : ℕ) (r : RevRecord) → i < length records → r ≡ get_or records i r → IsBack (dead_now (then_of (suc i))) r (dead_now (then_of i))
  back_at-history_of i r lt is = back_at start records i r sound kept lt is

  pub then_of-all : (i : ℕ) → length records ≤ i → then_of i ≡ history_of settled (steps_of records)
  then_of-all i le = ap (λ steps. fold after_revision start steps) (take_all i (steps_of records) (omega (arith, le, length-steps_of records)))

  pub IsRevisionAt-history_of : (i : ℕ) (d : RevStep) (rev : ℕ) → slice_get (steps_of records) i ≡ Some d → rev ≡ settled.floor + 1 + i →
      IsRevisionAt (history_of settled (steps_of records)) rev d
  IsRevisionAt-history_of i d rev at is = IsRevisionAt-fold_at start records i d rev sound kept at (omega (arith, is, head-settled settled))

  -- a record that is read
  pub IsRevisionAt-read : (i : ℕ) (r : RevRecord) (rev : ℕ) → i < length records → r ≡ get_or records i r → rev ≡ settled.floor + 1 + i →
      IsRevisionAt (history_of settled (steps_of records)) rev r.step
  IsRevisionAt-read i r rev lt is e =
      IsRevisionAt-history_of i r.step rev
      (slice_get_read (steps_of records) (length (steps_of records)) i r.step (omega arith) (omega (arith, lt, length-steps_of records)) (steps_of-at records i r lt is)) e

  pub AreRevisionsAfter-history_of : (after : List RevStep) (i base : ℕ) → i ≤ length records → base ≡ settled.floor + i → after ≡ drop i (steps_of records) →
      AreRevisionsAfter (history_of settled (steps_of records)) base after
  AreRevisionsAfter-history_of after i base le here is = record {
    len = omega (arith, here, le, ap length is, length-drop i (steps_of records), head-history_of settled records, length-steps_of records);
    each = λ k e at.
        IsRevisionAt-history_of (i + k) e (base + 1 + k) (sym (slice_get-drop (steps_of records) i k) ∙ (ap (λ xs. slice_get xs k) (sym is) ∙ at))
        (omega (arith, here));
  }
    where
      slice_get-drop : {X : Type 0} (xs : List X) (n i : ℕ) → slice_get (drop n xs) i ≡ slice_get xs (n + i)
      slice_get-drop xs zero i = ap (λ k. slice_get xs k) (omega arith)
      slice_get-drop [] (suc n) i = sym (slice_get_past [] (suc n + i) (omega arith))
      slice_get-drop (x ∷ xs) (suc n) i = slice_get-drop xs n i ∙ sym (ap (λ k. slice_get (x ∷ xs) k) (suc-add n i))

-- ---- what a set hides at the floor

length-settled_characters : (len : ℕ) (groups : List SettledGroup) → length (settled_characters len groups) ≡ len
length-settled_characters zero groups = refl
length-settled_characters (suc len) groups = ap suc (length-settled_characters len (map without_first groups))

module _ (settled : Settled) (records : List RevRecord) (parts : AreSettled settled) (sound : IsSound (settled_history settled)) (kept : AreKept (settled_history settled) records) where
  abbrev whole : History
  whole = history_of settled (steps_of records)

  abbrev floor_is : whole.floor ≡ settled.floor
  floor_is = floor-history_of settled (steps_of records)

  shown : (set : List ℕ) → map (is_hidden_under whole set settled.floor) (union_at whole settled.floor) ≡ hidden_by_groups set settled.len settled.groups
  shown set =
      let there = filter-there settled.floor (settled_history settled).characters (rw (head-settled settled) at sound) in
      hidden_under_then-fold (settled_history settled) records set settled.floor kept (omega (arith, head-settled settled)) ∙
      ap (λ xs. map (is_hidden_under (settled_history settled) set settled.floor) xs) there ∙
      hides_by_groups (settled_history settled).revisions set settled.floor settled.len settled.groups parts.lengths parts.ends parts.apart

  pub len_is : length (union_at whole whole.floor) ≡ settled.len
  len_is =
      let there = filter-there settled.floor (settled_history settled).characters (rw (head-settled settled) at sound) in
      let flags = hidden_under_then-fold (settled_history settled) records [] settled.floor kept (omega (arith, head-settled settled)) in
      ap (λ n. length (union_at whole n)) floor_is ∙
      sym (length-map (union_at whole settled.floor) (is_hidden_under whole [] settled.floor)) ∙ ap length flags ∙
      length-map (union_at (settled_history settled) settled.floor) (is_hidden_under (settled_history settled) [] settled.floor) ∙
      ap length there ∙ length-settled_characters settled.len settled.groups

  pub settled_lengths : AllByRecursion (HasLengths (length (union_at whole whole.floor))) settled.groups
  settled_lengths = rw len_is parts.lengths

  pub settled_hides : (set : List ℕ) →
      map (is_hidden_under whole set whole.floor) (union_at whole whole.floor) ≡ hidden_by_groups set (length (union_at whole whole.floor)) settled.groups
  settled_hides set =
      ap (λ n. map (is_hidden_under whole set n) (union_at whole n)) floor_is ∙ shown set ∙ ap (λ n. hidden_by_groups set n settled.groups) (sym len_is)

  -- what the groups say of the history
  said_whole : (g : SettledGroup) → IsEnd (settled_history settled).revisions settled.floor g → IsLastEdit settled g → IsSaidIn (settled_history settled).characters g → IsSettledGroup whole g
  said_whole g end is said =
      let there = filter-there settled.floor (settled_history settled).characters (rw (head-settled settled) at sound) in
      let le : settled.floor ≤ head (settled_history settled) = omega (arith, head-settled settled) in
      let at = revision_at-fold (settled_history settled) (steps_of records) g.last (omega (arith, is.1, le)) in
      record {
        within = omega (arith, is.1, floor_is);
        edits = ap is_edit at ∙ is.0;
        group = ap edit_group at ∙ end.said;
        inserted =
            said.inserted ∙ ap (map (λ tagged. tagged.inserted == g.last)) (sym there) ∙
            sym (flags_then-fold (λ tagged. tagged.inserted == g.last) (settled_history settled) records settled.floor (λ rev t over. refl) kept le) ∙
            ap (λ n. map (λ tagged. tagged.inserted == g.last) (union_at whole n)) (sym floor_is);
        deleted =
            said.deleted ∙ ap (map (λ tagged. has tagged.deleted g.last)) (sym there) ∙
            sym (flags_then-fold (λ tagged. has tagged.deleted g.last) (settled_history settled) records settled.floor
            (λ rev t over. has_deleted_before rev g.last t (omega (arith, over, is.1))) kept le) ∙
            ap (λ n. map (λ tagged. has tagged.deleted g.last) (union_at whole n)) (sym floor_is);
      }

  all_said_whole : (groups : List SettledGroup) → AllByRecursion (IsEnd (settled_history settled).revisions settled.floor) groups → AllByRecursion (IsLastEdit settled) groups →
      AllByRecursion (IsSaidIn (settled_history settled).characters) groups → AllByRecursion (IsSettledGroup whole) groups
  all_said_whole [] ends lasts said = tt
  all_said_whole (g ∷ groups) ends lasts said = (said_whole g ends.0 lasts.0 said.0, all_said_whole groups ends.1 lasts.1 said.1)

  pub settled_are : AreSettledGroups whole settled.groups
  settled_are = record {
    rising = parts.rising;
    each = all_said_whole settled.groups parts.ends (last_edits settled parts) (groups_said settled parts);
    all = λ rev le edits.
        let within : rev ≤ settled.floor = omega (arith, le, floor_is) in
        edits_listed settled rev within
        (sym (ap is_edit (revision_at-fold (settled_history settled) (steps_of records) rev (omega (arith, within, head-settled settled)))) ∙ edits);
  }

-- ---- the next revision

pub steps_of-push : (records : List RevRecord) (newest : RevRecord) (settled : Settled) →
    history_of settled (steps_of (records ++ newest ∷ [])) ≡ after_revision (history_of settled (steps_of records)) newest.step
steps_of-push records newest settled =
    ap (λ steps. history_of settled steps) (map-append (λ r. r.step) records (newest ∷ [])) ∙
    fold-append after_revision (settled_history settled) (steps_of records) (newest.step ∷ [])

pub clean-push : (revisions : List Revision) (last : Revision) (floor : ℕ) → floor ≤ length revisions → is_clean revisions floor ≡ true → is_based_from floor last ≡ true →
    is_clean (revisions ++ last ∷ []) floor ≡ true
clean-push revisions last floor within clean from =
    ap (list_all (is_based_from floor)) (drop-append-le floor revisions (last ∷ []) within) ∙ more (drop floor revisions) clean
  where
    more : (rs : List Revision) → list_all (is_based_from floor) rs ≡ true → list_all (is_based_from floor) (rs ++ last ∷ []) ≡ true
    more [] all = ap (λ b. b && true) from
    more (r ∷ rs) all =
        let parts = and_parts (is_based_from floor r) (list_all (is_based_from floor) rs) all in
        and_from (is_based_from floor r) (list_all (is_based_from floor) (rs ++ last ∷ [])) parts.0 (more rs parts.1)

pub HoldsRevisions-push : (settled : Settled) (records : List RevRecord) (newest : RevRecord) (gone dead : List Bool) (first more : Firsts) (groups after : List ℕ) →
    HoldsRevisions settled records gone first groups → head (history_of settled (steps_of records)) < 2 ^ 63 - 1 →
    Follows (history_of settled (steps_of records)) newest.step → newest.turned ≡ turned_by (history_of settled (steps_of records)) newest.step →
    dead ≡ dead_now (after_revision (history_of settled (steps_of records)) newest.step) →
    AreFirstEdits (after_revision (history_of settled (steps_of records)) newest.step).revisions more →
    after ≡ undone_now (after_revision (history_of settled (steps_of records)) newest.step) → IsRising after →
    AllByRecursion HasRisingSet (after_revision (history_of settled (steps_of records)) newest.step).revisions →
    is_clean (after_revision (history_of settled (steps_of records)) newest.step).revisions settled.floor ≡ true →
    AllByRecursion (IsOpen settled.collected) (after_revision (history_of settled (steps_of records)) newest.step).revisions →
    HoldsRevisions settled (records ++ newest ∷ []) dead more after
HoldsRevisions-push settled records newest gone dead first more groups after was has_number next turned_is dead_is first_edits groups_are rising sets clean free = record {
  parts = was.parts;
  sound = was.sound;
  at_floor = was.at_floor;
  kept = AreKept-append (settled_history settled) records (newest ∷ []) was.kept (next, turned_is, tt);
  numbers = omega (arith, has_number, head-history_of settled records, length-append records (newest ∷ []));
  dead = dead_is ∙ ap dead_now (sym (steps_of-push records newest settled));
  first_edits = rw (steps_of-push records newest settled) first_edits;
  undone = groups_are ∙ ap undone_now (sym (steps_of-push records newest settled));
  rising = rising;
  sets = rw (steps_of-push records newest settled) sets;
  clean = rw (steps_of-push records newest settled) clean;
  uncollected = rw (steps_of-push records newest settled) free;
}

-- what a list is and keeps after one more record
pub record IsPushed (settled : Settled) (records : List RevRecord) (dead : List Bool) (first : Firsts) (groups : List ℕ) (after : History) : Type 0 where
  pub holds : HoldsRevisions settled records dead first groups
  pub history : history_of settled (steps_of records) ≡ after

-- the first edits after one more edit, where the kept ones are known group by group
pub AreFirstEdits-edit : (h : History) (e : RevEdit) (first more : Firsts) → AreFirstEdits h.revisions first →
    ((group : ℕ) → rev_of more.groups more.revs group ≡ first_after (rev_of first.groups first.revs group) e.group (head h + 1) group) →
    AreFirstEdits (after_edit h e).revisions more
AreFirstEdits-edit h e first more are made = λ group.
    rw (made group) (IsFirstEdit-edit h e group (rev_of first.groups first.revs group) (are group))

-- one more revision for which it holds
pub all-push : (P : Revision → Type 0) (revisions : List Revision) (last : Revision) → AllByRecursion P revisions → P last → AllByRecursion P (revisions ++ last ∷ [])
all-push P revisions last all is = AllByRecursion-append P revisions (last ∷ []) all (is, tt)

-- a set that may be undone does not have group 0
without_loaded : (h : History) (groups : List ℕ) → AllByRecursion (IsKnownGroup h) groups → has groups 0 ≡ false
without_loaded h [] known = refl
without_loaded h (group ∷ groups) known =
    ap₂ (λ a b. a || b) (ne_eqb group 0 (λ is. omega (arith, is, known.0.0))) (without_loaded h groups known.1)

pub push_edit : (settled : Settled) (records : List RevRecord) (newest : RevRecord) (e : RevEdit) (gone dead : List Bool) (first more : Firsts) (groups : List ℕ) →
    HoldsRevisions settled records gone first groups → MayPush (history_of settled (steps_of records)) e → newest.step ≡ Edit e →
    newest.turned ≡ symmetric_difference (expand gone e.inserted) (dead_after (has groups e.group) gone e) → dead ≡ dead_after (has groups e.group) gone e →
    ((group : ℕ) → rev_of more.groups more.revs group ≡ first_after (rev_of first.groups first.revs group) e.group (settled.floor + length records + 1) group) →
    IsPushed settled (records ++ newest ∷ []) dead more groups (after_edit (history_of settled (steps_of records)) e)
push_edit settled records newest e gone dead first more groups holds may step_is turned_is dead_is made =
    let h : History = history_of settled (steps_of records) in
    let within : settled.floor ≤ head h = omega (arith, head-history_of settled records) in
    let from : nat_le settled.floor e.base ≡ true = le-leb settled.floor e.base (rw (floor-history_of settled (steps_of records)) at may.base_kept) in
    let next : IsNext h e = record { grown = may.grown; same_length = may.same_length } in
    let now : dead_after (has groups e.group) gone e ≡ dead_now (after_edit h e) =
    ap₂ (λ set flags. dead_after (has set e.group) flags e) holds.undone holds.dead ∙ sym (dead_now-edit h e (sound-history_of settled records holds.sound holds.kept) next) in
    let before : symmetric_difference (expand gone e.inserted) (dead_after (has groups e.group) gone e) ≡ turned_by h (Edit e) =
    ap₂ (λ flags after. symmetric_difference (expand flags e.inserted) after) holds.dead now in
    let firsts : AreFirstEdits (after_edit h e).revisions more =
    AreFirstEdits-edit h e first more holds.first_edits
    (λ group. made group ∙ ap (λ n. first_after (rev_of first.groups first.revs group) e.group (n + 1) group) (sym (head-history_of settled records))) in
    record {
      holds = HoldsRevisions-push settled records newest gone dead first more groups groups holds may.has_number (rw step_is next) (turned_is ∙ before ∙ ap (turned_by h) (sym step_is))
          (dead_is ∙ now ∙ ap (λ step. dead_now (after_revision h step)) (sym step_is))
          (rw step_is firsts)
          (holds.undone ∙ sym (undone_now-edit h e) ∙ ap (λ step. undone_now (after_revision h step)) (sym step_is)) holds.rising
          (rw step_is (all-push HasRisingSet h.revisions (edit_revision e) holds.sets tt))
          (rw step_is (clean-push h.revisions (edit_revision e) settled.floor within holds.clean from))
          (rw step_is
          (all-push (IsOpen settled.collected) h.revisions (edit_revision e) holds.uncollected
          (ap (λ groups. has groups e.group) (sym (collected-history_of settled (steps_of records))) ∙ may.group_kept)));
      history = steps_of-push records newest settled ∙ ap (after_revision h) step_is;
    }

pub push_undo : (settled : Settled) (records : List RevRecord) (newest : RevRecord) (differ : List ℕ) (gone dead : List Bool) (first : Firsts) (groups after : List ℕ) →
    HoldsRevisions settled records gone first groups →
    MayPushUndo (history_of settled (steps_of records)) (undone_by (history_of settled (steps_of records)) differ) dead → newest.step ≡ Undo differ →
    newest.turned ≡ symmetric_difference gone dead → after ≡ flipped groups differ →
    IsPushed settled (records ++ newest ∷ []) dead first after (undid (history_of settled (steps_of records)) (undone_by (history_of settled (steps_of records)) differ))
push_undo settled records newest differ gone dead first groups after holds may step_is turned_is after_is =
    let h : History = history_of settled (steps_of records) in
    let within : settled.floor ≤ head h = omega (arith, head-history_of settled records) in
    let set : List ℕ = undone_by h differ in
    let now : dead ≡ dead_now (undid h set) = may.hidden ∙ sym (dead_now-undid h set (sound-history_of settled records holds.sound holds.kept)) in
    let before : symmetric_difference gone dead ≡ turned_by h (Undo differ) = ap₂ (λ flags later. symmetric_difference flags later) holds.dead now in
    let groups_are : after ≡ set = after_is ∙ ap (λ xs. flipped xs differ) holds.undone in
    let firsts : AreFirstEdits (undid h set).revisions first =
    λ group. IsFirstEdit-undid h set group (rev_of first.groups first.revs group) (holds.first_edits group) in
    record {
      holds = HoldsRevisions-push settled records newest gone dead first first groups after holds may.has_number (rw step_is tt) (turned_is ∙ before ∙ ap (turned_by h) (sym step_is))
          (now ∙ ap (λ step. dead_now (after_revision h step)) (sym step_is))
          (rw step_is firsts)
          (groups_are ∙ sym (undone_now-undid h set) ∙ ap (λ step. undone_now (after_revision h step)) (sym step_is)) (rw groups_are may.allowed.rising)
          (rw step_is (all-push HasRisingSet h.revisions (undo set) holds.sets (may.allowed.rising, without_loaded h set may.allowed.known)))
          (rw step_is (clean-push h.revisions (undo set) settled.floor within holds.clean refl))
          (rw step_is (all-push (IsOpen settled.collected) h.revisions (undo set) holds.uncollected tt));
      history = steps_of-push records newest settled ∙ ap (after_revision h) step_is;
    }

-- the two sets of positions of an undo have one length
pub undo_lengths : (settled : Settled) (records : List RevRecord) (set : List ℕ) (gone dead : List Bool) (first : Firsts) (groups : List ℕ) → HoldsRevisions settled records gone first groups →
    MayPushUndo (history_of settled (steps_of records)) set dead → length gone ≡ length dead
undo_lengths settled records set gone dead first groups holds may =
    let h : History = history_of settled (steps_of records) in
    ap length holds.dead ∙ length-dead_now h ∙ sym (length-map h.characters (is_hidden_under h set (head h))) ∙ sym (ap length may.hidden)

-- ---- a list whose floor is its head

rising_undone : (groups : List ℕ) (revisions : List Revision) → HasRisingSet (undo groups) → AllByRecursion HasRisingSet revisions →
    HasRisingSet (undo (undone_after groups revisions))
rising_undone groups [] up sets = up
rising_undone groups (edit base group priority author ∷ revisions) up sets = rising_undone groups revisions up sets.1
rising_undone groups (undo more ∷ revisions) up sets = rising_undone more revisions sets.0 sets.1

-- what is undone at the head is a rising set without group 0
pub undone_rises : (h : History) → AllByRecursion HasRisingSet h.revisions → HasRisingSet (undo (undone_now h))
undone_rises h sets = rw (undone_all h.revisions) (rising_undone [] h.revisions (tt, refl) sets)

dead-settled : (settled : Settled) → AreSettled settled → undone_now (settled_history settled) ≡ settled.undone →
    dead_now (settled_history settled) ≡ hidden_by_groups settled.undone settled.len settled.groups
dead-settled settled parts undone_is =
    ap₂ (λ n set. map (λ t. not (is_visible_under (settled_history settled).revisions set n t)) (settled_history settled).characters) (head-settled settled) undone_is ∙
    hides_by_groups (settled_history settled).revisions settled.undone settled.floor settled.len settled.groups parts.lengths parts.ends parts.apart

abbrev settled_by : List SettledGroup → ℕ → ℕ → List ℕ → List ℕ → Settled
settled_by groups floor len undone collected = record { floor = floor; len = len; groups = groups; undone = undone; collected = collected }

pub settled_same : {f f' l l' : ℕ} {u u' c c' : List ℕ} (groups : List SettledGroup) → f ≡ f' → l ≡ l' → u ≡ u' → c ≡ c' →
    settled_by groups f l u c ≡ settled_by groups f' l' u' c'
settled_same {f} {f'} {l} {l'} {u} {u'} {c} {c'} groups floor len undone collected =
    ap₂ (λ n m. settled_by groups n m u c) floor len ∙ ap₂ (λ xs ys. settled_by groups f' l' xs ys) undone collected

-- what may stand for all up to the head of a list is what another list keeps
pub holds_settled : (settled new : Settled) (records : List RevRecord) (gone dead : List Bool) (first firsts : Firsts) (groups : List ℕ) (more : List SettledGroup) (collected : List ℕ) →
    HoldsRevisions settled records gone first groups → MaySettle (history_of settled (steps_of records)) more collected dead →
    new ≡ settled_at_head (history_of settled (steps_of records)) more collected (length dead) →
    ((group : ℕ) → rev_of firsts.groups firsts.revs group ≡ first_with (rev_of (0 ∷ []) (0 ∷ []) group) more group) →
    HoldsRevisions new [] dead firsts groups
holds_settled settled new records gone dead first firsts groups more collected holds may is made =
    let h : History = history_of settled (steps_of records) in
    let parts : AreSettled new = rw is may.parts in
    let set : List ℕ = undone_now h in
    let undone_is : undone_now (settled_history new) ≡ undone_now h = ap (λ s. undone_now (settled_history s)) is ∙ may.undone in
    let up : HasRisingSet (undo (undone_now h)) = undone_rises h holds.sets in
    record {
      parts = parts;
      sound = rw (head-settled new) (settled_sound new parts);
      at_floor = undone_is ∙ ap (λ (s : Settled). s.undone) (sym is);
      kept = tt;
      numbers = omega (arith, holds.numbers, ap (λ (s : Settled). s.floor) is, head-history_of settled records);
      dead =
          may.hidden ∙ ap (λ (s : Settled). hidden_by_groups s.undone s.len s.groups) (sym is) ∙
          sym (dead-settled new parts (undone_is ∙ ap (λ (s : Settled). s.undone) (sym is)));
      first_edits = λ group. rw (made group, ap (λ (s : Settled). s.groups) (sym is)) (IsFirstEdit-settled new group parts);
      undone = holds.undone ∙ sym undone_is;
      rising = holds.rising;
      sets = settled_sets new (rw (ap (λ (s : Settled). s.undone) is) up);
      clean = settled_clean new;
      uncollected = settled_open new parts;
    }
