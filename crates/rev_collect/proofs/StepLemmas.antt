-- One more revision after a collection: what is left goes along with it.
use Rattle.std.proofs.Common.{◌≡◌, ℕ, ◌+◌, ◌≤◌, Bool, true, false, cond, not, ◌&&◌, ◌||◌, List, [], ◌∷◌, length, map, filter, refl, ap, ap₂, sym, ◌∙◌, arith}
use Rattle.std.specs.List.{AllByRecursion}
use Rattle.std.proofs.lemmas.List.{length-map}
use Rattle.subset_runs.specs.Subset.{count, expand, expand_as, shrink, symmetric_difference}
use Rattle.subset_runs.proofs.ForCallers.{length-expand_as}
use Rattle.plain_text.specs.Numbers.{has, flipped}
use Rattle.plain_edits.specs.History.{Tagged, Revision, edit, undo, History, head, undone, IsTaggedBy, IsSound}
use Rattle.plain_edits.specs.Edits.{with_deletion, undid}
use Rattle.plain_edits.specs.Collection.{is_dropped, is_based_from}
use Rattle.plain_edits.specs.HistorySteps.{HasRisingSet, IsByEdits}
use Rattle.plain_edits.specs.Undo.{undone_now}
use Rattle.collection_laws.specs.Left.{left_of, settled}
use Rattle.collection_laws.proofs.ForCallers.{HasFloor, LeavesUndone, head-left, is_dropped-later, is_kept-deleted, is_kept-new, is_kept-new_deleted, is_visible-left, leaves-edit, left_of-undid_by, revisions-later, settled-deleted, settled-later, settled-new, settled-new_deleted, sifted-later, undone-left}
use Rattle.rev_list.specs.declared.edit.RevEdit.{RevEdit}
use Rattle.rev_list.specs.declared.step.RevStep.{RevStep}
use Rattle.rev_list.specs.declared.step.RevStep.TheVariants.{Edit, Undo}
use Rattle.rev_list.specs.declared.records.RevRecord.{RevRecord}
use Rattle.rev_list.specs.Edit.{new_by, with_new, with_deleted, after_edit, undone_by, after_revision}
use Rattle.rev_list.specs.Hidden.{is_hidden}
use Rattle.rev_list.specs.Kept.{IsNext, IsOpen, Follows, dead_now, grown_by, turned_by}
use Rattle.rev_list.specs.Until.{revision_of, MayFollow}
use Rattle.rev_list.proofs.ForCallers.{lengths_after, length-dead_now, map-with_new, map_where}
use Rattle.rev_collect.specs.Later.{step_without, record_without}
use Rattle.rev_collect.proofs.CollectLemmas.{shrink-map}
use Rattle.rev_collect.proofs.FlagLemmas.{IsDeletedAlike, expand-shrink, goes-with_deleted, left-with_deleted, left-with_new, length-left_new, length-shrink_same, shrink-at_each}

not_same : (a b : Bool) → not a ≡ not b → a ≡ b
not_same true true same = refl
not_same true false same = absurd cc
not_same false true same = absurd cc
not_same false false same = refl

not_true : (b : Bool) → not b ≡ true → b ≡ false
not_true true is = absurd cc
not_true false is = refl

all-with_new : (P : Tagged → Type 0) (new : Tagged) → P new → (xs : List Tagged) (by : List Bool) → AllByRecursion P xs →
    AllByRecursion P (with_new new xs by)
all-with_new P new one xs [] all = tt
all-with_new P new one xs (true ∷ by) all = (one, all-with_new P new one xs by all)
all-with_new P new one [] (false ∷ by) all = tt
all-with_new P new one (x ∷ xs) (false ∷ by) all = (all.0, all-with_new P new one xs by all.1)

all_where : (P Q : Tagged → Type 0) → ((t : Tagged) → P t → Q t) → (xs : List Tagged) → AllByRecursion P xs → AllByRecursion Q xs
all_where P Q each [] all = tt
all_where P Q each (x ∷ xs) all = (each x all.0, all_where P Q each xs all.1)

module _ (h : History) (within : h.floor ≤ head h) (sound : IsSound h) where
  -- the dropped positions
  abbrev pub gone : List Bool
  gone = map (is_dropped h) h.characters

  -- ---- an edit

  module _ (e : RevEdit) (next : IsNext h e) (is_open : has h.collected e.group ≡ false) where
    abbrev rev : ℕ
    rev = head h + 1

    abbrev after : History
    after = after_edit h e

    abbrev new : Tagged
    new = new_by rev

    abbrev longer : List Tagged
    longer = with_new new h.characters e.inserted

    abbrev last : Revision
    last = edit e.base e.group e.priority e.author

    abbrev goes : Tagged → Bool
    goes = is_dropped after

    abbrev s : Tagged → Tagged
    s = settled after

    abbrev grown_gone : List Bool
    grown_gone = expand gone e.inserted

    goes_old : (t : Tagged) → IsTaggedBy (head h) t → goes t ≡ is_dropped h t
    goes_old t is =
        is_dropped-later h last after.characters within (leaves-edit h e.base e.group e.priority e.author after.characters within is_open) t is

    new_stays : goes new ≡ false
    new_stays = not_true (goes new) (is_kept-new h e.base e.group e.priority e.author after.characters within is_open 0)

    new_same : s new ≡ new
    new_same = settled-new h e.base e.group e.priority e.author after.characters within is_open 0

    gone_old : map goes h.characters ≡ gone
    gone_old = map_where (IsTaggedBy (head h)) goes (is_dropped h) goes_old h.characters sound

    old_alike : (t : Tagged) → IsTaggedBy (head h) t → IsDeletedAlike goes s rev t
    old_alike t is = record {
      goes_alike =
          not_same (goes (with_deletion rev t)) (is_dropped h t)
          (is_kept-deleted h e.base e.group e.priority e.author after.characters within is_open t is) ∙ sym (goes_old t is);
      left_alike =
          settled-deleted h e.base e.group e.priority e.author after.characters within is_open t is ∙
          ap (with_deletion rev) (sym (settled-later h last after.characters within t is));
    }

    new_alike : IsDeletedAlike goes s rev new
    new_alike = record {
      goes_alike =
          not_true (goes (with_deletion rev new)) (is_kept-new_deleted h e.base e.group e.priority e.author after.characters within is_open 0) ∙
          sym new_stays;
      left_alike =
          settled-new_deleted h e.base e.group e.priority e.author after.characters within is_open 0 ∙ ap (with_deletion rev) (sym new_same);
    }

    all_alike : AllByRecursion (IsDeletedAlike goes s rev) longer
    all_alike =
        all-with_new (IsDeletedAlike goes s rev) new new_alike h.characters e.inserted
        (all_where (IsTaggedBy (head h)) (IsDeletedAlike goes s rev) old_alike h.characters sound)

    gone_longer : map goes longer ≡ grown_gone
    gone_longer =
        map-with_new goes new h.characters e.inserted next.grown ∙ ap₂ (λ b flags. expand_as b flags e.inserted) new_stays gone_old

    length_longer : length e.deleted ≡ length longer
    length_longer =
        next.same_length ∙ sym (grows h.characters e.inserted next.grown)
      where
        grows : (xs : List Tagged) (by : List Bool) → length by ≡ length xs + count by → length (with_new new xs by) ≡ length by
        grows xs by is =
            sym (length-map (with_new new xs by) goes) ∙ ap length (map-with_new goes new xs by is) ∙ length-expand_as (goes new) (map goes xs) by

    -- what goes of the longer union
    pub gone-edit : map goes after.characters ≡ grown_gone
    gone-edit = goes-with_deleted goes s rev longer e.deleted all_alike ∙ gone_longer

    left_old : map s (filter (λ t. not (goes t)) h.characters) ≡ (left_of h).characters
    left_old =
        sifted-later h last after.characters within (leaves-edit h e.base e.group e.priority e.author after.characters within is_open) h.characters sound

    left_characters : (left_of after).characters ≡
        with_deleted rev (with_new new (left_of h).characters (shrink e.inserted grown_gone)) (shrink e.deleted grown_gone)
    left_characters =
        left-with_deleted goes s rev longer e.deleted length_longer all_alike ∙
        ap₂ (λ ys flags. with_deleted rev ys (shrink e.deleted flags))
        (left-with_new goes s new new_stays new_same h.characters e.inserted next.grown ∙
        ap₂ (λ ys flags. with_new new ys (shrink e.inserted (expand flags e.inserted))) left_old gone_old) gone_longer

    -- THE EDIT goes along
    pub left-edit : left_of after ≡ after_revision (left_of h) (step_without grown_gone (Edit e))
    left-edit =
        ap₂ (λ characters revisions. record { characters = characters; revisions = revisions; floor = h.floor; collected = h.collected })
        (left_characters ∙
        ap (λ n. with_deleted (n + 1) (with_new (new_by (n + 1)) (left_of h).characters (shrink e.inserted grown_gone)) (shrink e.deleted grown_gone))
        (sym (head-left h within)))
        (revisions-later h last after.characters within)

    pub follows-edit : Follows (left_of h) (step_without grown_gone (Edit e))
    follows-edit = record {
      grown =
          ap (λ flags. length (shrink e.inserted (expand flags e.inserted))) (sym gone_old) ∙
          length-left_new goes s new new_stays new_same h.characters e.inserted next.grown ∙
          ap₂ (λ ys flags. length ys + count (shrink e.inserted (expand flags e.inserted))) left_old gone_old;
      same_length = length-shrink_same e.deleted e.inserted grown_gone next.same_length;
    }

  -- ---- an undo

  pub undone_left : undone_now (left_of h) ≡ undone_now h
  undone_left = ap (undone (left_of h).revisions) (head-left h within) ∙ undone-left h within (head h) within

  module _ (groups : List ℕ) (leaves : LeavesUndone h (undo (undone_by h groups)) h.characters within) where
    pub gone-undo : map (is_dropped (undid h (undone_by h groups))) h.characters ≡ gone
    gone-undo =
        map_where (IsTaggedBy (head h)) (is_dropped (undid h (undone_by h groups))) (is_dropped h)
        (λ t is. is_dropped-later h (undo (undone_by h groups)) h.characters within leaves t is) h.characters sound

    -- THE UNDO goes along
    pub left-undo : left_of (undid h (undone_by h groups)) ≡ undid (left_of h) (undone_by (left_of h) groups)
    left-undo =
        left_of-undid_by h (undone_by h groups) within sound leaves ∙ ap (λ (now : List ℕ). undid (left_of h) (flipped now groups)) (sym undone_left)

  -- ---- either

  -- the groups that are collected allow the step
  abbrev pub Allows : RevStep → Type 0
  Allows (Edit e) = has h.collected e.group ≡ false
  Allows (Undo groups) = LeavesUndone h (undo (undone_by h groups)) h.characters within

  pub gone-step : (step : RevStep) → Follows h step → Allows step →
      map (is_dropped (after_revision h step)) (after_revision h step).characters ≡ grown_by gone step
  gone-step (Edit e) next is = gone-edit e next is
  gone-step (Undo groups) next is = gone-undo groups is

  pub left-step : (step : RevStep) → Follows h step → Allows step →
      left_of (after_revision h step) ≡ after_revision (left_of h) (step_without (grown_by gone step) step)
  left-step (Edit e) next is = left-edit e next is
  left-step (Undo groups) next is = left-undo groups is

  follows-step : (step : RevStep) → Follows h step → Allows step → Follows (left_of h) (step_without (grown_by gone step) step)
  follows-step (Edit e) next is = follows-edit e next is
  follows-step (Undo groups) next is = tt

  from-step : (step : RevStep) → is_based_from h.floor (revision_of h step) ≡ true →
      is_based_from h.floor (revision_of (left_of h) (step_without (grown_by gone step) step)) ≡ true
  from-step (Edit e) is = is
  from-step (Undo groups) is = refl

  open-step : (step : RevStep) → IsOpen h.collected (revision_of h step) →
      IsOpen h.collected (revision_of (left_of h) (step_without (grown_by gone step) step))
  open-step (Edit e) is = is
  open-step (Undo groups) is = tt

  set-step : (step : RevStep) → HasRisingSet (revision_of h step) → HasRisingSet (revision_of (left_of h) (step_without (grown_by gone step) step))
  set-step (Edit e) is = tt
  set-step (Undo groups) is = rw undone_left is

  -- the step's own positions, before and after
  grown-left : (step : RevStep) → Follows h step → dead_now (left_of h) ≡ shrink (dead_now h) gone →
      grown_by (dead_now (left_of h)) (step_without (grown_by gone step) step) ≡ shrink (grown_by (dead_now h) step) (grown_by gone step)
  grown-left (Edit e) next dead =
      ap (λ flags. expand flags (shrink e.inserted (expand gone e.inserted))) dead ∙
      expand-shrink (dead_now h) gone e.inserted (length-dead_now h ∙ sym (length-map h.characters (is_dropped h)))
      (omega (arith, next.grown, length-dead_now h))
  grown-left (Undo groups) next dead = dead

-- ---- what is dead

module _ (h : History) (past : HasFloor h) (edits : AllByRecursion (IsByEdits h.revisions) h.characters) where
  pub dead-left : dead_now (left_of h) ≡ shrink (dead_now h) (map (is_dropped h) h.characters)
  dead-left =
      ap (λ n. map (is_hidden (left_of h) n) (left_of h).characters) (head-left h past.floor) ∙ each h.characters edits ∙
      sym (shrink-map (is_hidden h (head h)) (is_dropped h) h.characters)
    where
      each : (xs : List Tagged) → AllByRecursion (IsByEdits h.revisions) xs →
          map (is_hidden (left_of h) (head h)) (map (settled h) (filter (λ t. not (is_dropped h t)) xs)) ≡
          map (is_hidden h (head h)) (filter (λ t. not (is_dropped h t)) xs)
      each [] all = refl
      each (x ∷ xs) all = by (not (is_dropped h x)) refl (each xs all.1)
        where
          by : (b : Bool) → not (is_dropped h x) ≡ b →
              map (is_hidden (left_of h) (head h)) (map (settled h) (filter (λ t. not (is_dropped h t)) xs)) ≡
              map (is_hidden h (head h)) (filter (λ t. not (is_dropped h t)) xs) →
              map (is_hidden (left_of h) (head h)) (map (settled h) (cond b (x ∷ filter (λ t. not (is_dropped h t)) xs) (filter (λ t. not (is_dropped h t)) xs))) ≡
              map (is_hidden h (head h)) (cond b (x ∷ filter (λ t. not (is_dropped h t)) xs) (filter (λ t. not (is_dropped h t)) xs))
          by true stays rest =
              ap₂ (λ b bs. b ∷ bs) (ap not (is_visible-left h past x all.0 (head h) stays past.floor (λ rev collected. refl))) rest
          by false goes rest = rest

-- ---- the record

module _ (h : History) (sound : IsSound h) (past : HasFloor h) (edits : AllByRecursion (IsByEdits h.revisions) h.characters) (r : RevRecord) (may : MayFollow h r)
    (allows : Allows h past.floor sound r.step) (past_after : HasFloor (after_revision h r.step))
    (edits_after : AllByRecursion (IsByEdits (after_revision h r.step).revisions) (after_revision h r.step).characters) where
  abbrev pub all_gone : List Bool
  all_gone = grown_by (gone h past.floor sound) r.step

  long_after : length (dead_now (after_revision h r.step)) ≡ length all_gone
  long_after =
      length-dead_now (after_revision h r.step) ∙ sym (length-map (after_revision h r.step).characters (is_dropped (after_revision h r.step))) ∙
      ap length (gone-step h past.floor sound r.step may.follows allows)

  pub long_before : length (grown_by (dead_now h) r.step) ≡ length all_gone
  long_before = lengths_after h r.step may.follows ∙ long_after

  turned-left : shrink r.turned all_gone ≡ turned_by (left_of h) (step_without all_gone r.step)
  turned-left =
      ap (λ flags. shrink flags all_gone) may.turned ∙
      shrink-at_each (λ x y. x && not y || y && not x) (grown_by (dead_now h) r.step) (dead_now (after_revision h r.step)) all_gone long_before long_after ∙
      ap₂ symmetric_difference
      (sym (grown-left h past.floor sound r.step may.follows (dead-left h past edits)))
      (sym (ap dead_now (sym (left-step h past.floor sound r.step may.follows allows)) ∙ dead-left (after_revision h r.step) past_after edits_after ∙
      ap (shrink (dead_now (after_revision h r.step))) (gone-step h past.floor sound r.step may.follows allows)))

  -- THE RECORD without what is dropped may follow what is left
  pub may_follow-left : MayFollow (left_of h) (record_without all_gone r)
  may_follow-left = record {
    follows = follows-step h past.floor sound r.step may.follows allows;
    turned = turned-left;
    from = from-step h past.floor sound r.step may.from;
    is_open = open-step h past.floor sound r.step may.is_open;
    set = set-step h past.floor sound r.step may.set;
    has_number = omega (arith, head-left h past.floor, may.has_number);
  }
