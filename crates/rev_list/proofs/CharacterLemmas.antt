-- What stays true of the characters of a list from one revision to the next.
use Rattle.std.proofs.Common.{◌≡◌, ℕ, ◌+◌, ◌<◌, ◌≤◌, Bool, true, false, ◌||◌, ◌==◌, List, [], ◌∷◌, ◌++◌, map, Some, refl, ap, ◌∙◌, arith}
use Rattle.std.specs.List.{fold, AllByRecursion}
use Rattle.plain_text.specs.Numbers.{IsRising}
use Rattle.plain_text.proofs.callers.ListLemmas.{AllByRecursion-append}
use Rattle.plain_edits.specs.History.{Tagged, Revision, undo, History, head, revision_at, IsTaggedBy, IsSound}
use Rattle.plain_edits.specs.Edits.{undid, with_deletion}
use Rattle.plain_edits.specs.HistorySteps.{is_edit, IsByEdits}
use Rattle.plain_edits.proofs.callers.HistoryLemmas.{revision_at-append, revision_at-push}
use Rattle.rev_list.specs.declared.step.RevStep.{RevStep}
use Rattle.rev_list.specs.declared.step.RevStep.TheVariants.{Edit, Undo}
use Rattle.rev_list.specs.declared.records.RevRecord.{RevRecord}
use Rattle.rev_list.specs.Edit.{edit_revision, new_by, with_new, with_deleted, after_edit, undone_by, after_revision}
use Rattle.rev_list.specs.Hidden.{union_at, IsDeletedLater, AreDeletedLater}
use Rattle.rev_list.specs.Kept.{steps_of, Follows, AreKept}
use Rattle.rev_list.proofs.StepLemmas.{tagged_later, tagged-with_new}
use Rattle.rev_list.proofs.HistoryLemmas.{head-after, said_then, sound-after, union_same}

-- ---- no deletion before the insertion

later-with_deleted : (floor rev : ℕ) (xs : List Tagged) (at : List Bool) → AllByRecursion (IsTaggedBy rev) xs → AllByRecursion (IsDeletedLater floor) xs →
    AllByRecursion (IsDeletedLater floor) (with_deleted rev xs at)
later-with_deleted floor rev [] at by later = tt
later-with_deleted floor rev (x ∷ xs) [] by later = later
later-with_deleted floor rev (x ∷ xs) (true ∷ at) by later = (λ over. one_later x.deleted (later.0 over), later-with_deleted floor rev xs at by.1 later.1)
  where
    one_later : (deleted : List ℕ) → AllByRecursion (λ k. x.inserted ≤ k) deleted → AllByRecursion (λ k. x.inserted ≤ k) (deleted ++ rev ∷ [])
    one_later [] all = (by.0.inserted, tt)
    one_later (k ∷ deleted) all = (all.0, one_later deleted all.1)
later-with_deleted floor rev (x ∷ xs) (false ∷ at) by later = (later.0, later-with_deleted floor rev xs at by.1 later.1)

later-with_new : (floor rev : ℕ) (xs : List Tagged) (by : List Bool) → AllByRecursion (IsDeletedLater floor) xs →
    AllByRecursion (IsDeletedLater floor) (with_new (new_by rev) xs by)
later-with_new floor rev xs [] later = tt
later-with_new floor rev xs (true ∷ by) later = (λ over. tt, later-with_new floor rev xs by later)
later-with_new floor rev [] (false ∷ by) later = tt
later-with_new floor rev (x ∷ xs) (false ∷ by) later = (later.0, later-with_new floor rev xs by later.1)

later-after : (h : History) (r : RevStep) → IsSound h → AreDeletedLater h → AreDeletedLater (after_revision h r)
later-after h (Edit e) sound later =
    later-with_deleted h.floor (head h + 1) (with_new (new_by (head h + 1)) h.characters e.inserted) e.deleted
    (tagged-with_new (head h + 1) h.characters e.inserted (tagged_later (head h) (head h + 1) h.characters (omega arith) sound))
    (later-with_new h.floor (head h + 1) h.characters e.inserted later)
later-after h (Undo groups) sound later = later

pub later-fold : (h : History) (steps : List RevStep) → IsSound h → AreDeletedLater h → AreDeletedLater (fold after_revision h steps)
later-fold h [] sound later = later
later-fold h (r ∷ steps) sound later = later-fold (after_revision h r) steps (sound-after h r sound) (later-after h r sound later)

-- ---- all characters are of edits

edits_more : (h : History) (last : Revision) (t : Tagged) → IsTaggedBy (head h) t → IsByEdits h.revisions t → IsByEdits (h.revisions ++ last ∷ []) t
edits_more h last t by is = record {
  inserted = ap (λ r. t.inserted == 0 || is_edit r) (revision_at-append h.revisions (last ∷ []) t.inserted by.inserted) ∙ is.inserted;
  deleted = each t.deleted by.deleted is.deleted;
  rising = is.rising;
}
  where
    each : (deleted : List ℕ) → AllByRecursion (λ rev. rev ≤ head h) deleted → AllByRecursion (λ rev. is_edit (revision_at h.revisions rev) ≡ true) deleted →
        AllByRecursion (λ rev. is_edit (revision_at (h.revisions ++ last ∷ []) rev) ≡ true) deleted
    each [] within all = tt
    each (rev ∷ deleted) within all =
        (ap is_edit (revision_at-append h.revisions (last ∷ []) rev within.0) ∙ all.0, each deleted within.1 all.1)

all_edits_more : (h : History) (last : Revision) (xs : List Tagged) → AllByRecursion (IsTaggedBy (head h)) xs → AllByRecursion (IsByEdits h.revisions) xs →
    AllByRecursion (IsByEdits (h.revisions ++ last ∷ [])) xs
all_edits_more h last [] by all = tt
all_edits_more h last (x ∷ xs) by all = (edits_more h last x by.0 all.0, all_edits_more h last xs by.1 all.1)

rising_last : (n : ℕ) (xs : List ℕ) → IsRising xs → AllByRecursion (λ k. k < n) xs → IsRising (xs ++ n ∷ [])
rising_last n [] up below = (tt, tt)
rising_last n (x ∷ xs) up below = (AllByRecursion-append (λ k. x < k) xs (n ∷ []) up.0 (below.0, tt), rising_last n xs up.1 below.1)

-- a character of the longer list is of edits, and of those before the newest where that deletes it
record IsNewest (h : History) (last : Revision) (t : Tagged) : Type 0 where
  edits : IsByEdits (h.revisions ++ last ∷ []) t
  before : AllByRecursion (λ k. k < head h + 1) t.deleted

module _ (h : History) (last : Revision) (edits : is_edit (Some last) ≡ true) where
  newest_edit : is_edit (revision_at (h.revisions ++ last ∷ []) (head h + 1)) ≡ true
  newest_edit = ap is_edit (revision_at-push h.revisions last) ∙ edits

  below : (deleted : List ℕ) → AllByRecursion (λ rev. rev ≤ head h) deleted → AllByRecursion (λ k. k < head h + 1) deleted
  below [] within = tt
  below (rev ∷ deleted) within = (omega (arith, within.0), below deleted within.1)

  edits-with_new : (xs : List Tagged) (by : List Bool) → AllByRecursion (IsTaggedBy (head h)) xs → AllByRecursion (IsByEdits h.revisions) xs →
      AllByRecursion (IsNewest h last) (with_new (new_by (head h + 1)) xs by)
  edits-with_new xs [] tagged all = tt
  edits-with_new xs (true ∷ by) tagged all = (
    record {
      edits = record { inserted = ap (λ b. (head h + 1) == 0 || b) newest_edit ∙ or_true ((head h + 1) == 0); deleted = tt; rising = tt };
      before = tt;
    },
    edits-with_new xs by tagged all,
  )
    where
      or_true : (b : Bool) → (b || true) ≡ true
      or_true true = refl
      or_true false = refl
  edits-with_new [] (false ∷ by) tagged all = tt
  edits-with_new (x ∷ xs) (false ∷ by) tagged all =
      (record { edits = edits_more h last x tagged.0 all.0; before = below x.deleted tagged.0.deleted }, edits-with_new xs by tagged.1 all.1)

  edits-with_deleted : (xs : List Tagged) (at : List Bool) → AllByRecursion (IsNewest h last) xs →
      AllByRecursion (IsByEdits (h.revisions ++ last ∷ [])) (with_deleted (head h + 1) xs at)
  edits-with_deleted [] at all = tt
  edits-with_deleted (x ∷ xs) [] all = rest (x ∷ xs) all
    where
      rest : (xs : List Tagged) → AllByRecursion (IsNewest h last) xs → AllByRecursion (IsByEdits (h.revisions ++ last ∷ [])) xs
      rest [] all = tt
      rest (x ∷ xs) all = (all.0.edits, rest xs all.1)
  edits-with_deleted (x ∷ xs) (true ∷ at) all = (
    record {
      inserted = all.0.edits.inserted;
      deleted = AllByRecursion-append (λ rev. is_edit (revision_at (h.revisions ++ last ∷ []) rev) ≡ true) x.deleted ((head h + 1) ∷ []) all.0.edits.deleted (newest_edit, tt);
      rising = rising_last (head h + 1) x.deleted all.0.edits.rising all.0.before;
    },
    edits-with_deleted xs at all.1,
  )
  edits-with_deleted (x ∷ xs) (false ∷ at) all = (all.0.edits, edits-with_deleted xs at all.1)

by_edits-after : (h : History) (r : RevStep) → IsSound h → AllByRecursion (IsByEdits h.revisions) h.characters →
    AllByRecursion (IsByEdits (after_revision h r).revisions) (after_revision h r).characters
by_edits-after h (Edit e) sound all =
    edits-with_deleted h (edit_revision e) refl (with_new (new_by (head h + 1)) h.characters e.inserted) e.deleted
    (edits-with_new h (edit_revision e) refl h.characters e.inserted sound all)
by_edits-after h (Undo groups) sound all = all_edits_more h (undo (undone_by h groups)) h.characters sound all

pub by_edits-fold : (h : History) (steps : List RevStep) → IsSound h → AllByRecursion (IsByEdits h.revisions) h.characters →
    AllByRecursion (IsByEdits (fold after_revision h steps).revisions) (fold after_revision h steps).characters
by_edits-fold h [] sound all = all
by_edits-fold h (r ∷ steps) sound all = by_edits-fold (after_revision h r) steps (sound-after h r sound) (by_edits-after h r sound all)

-- ---- no character is said

no_text-with_new : (rev : ℕ) (xs : List Tagged) (by : List Bool) → AllByRecursion (λ t. t.character ≡ 0) xs → AllByRecursion (λ t. t.character ≡ 0) (with_new (new_by rev) xs by)
no_text-with_new rev xs [] all = tt
no_text-with_new rev xs (true ∷ by) all = (refl, no_text-with_new rev xs by all)
no_text-with_new rev [] (false ∷ by) all = tt
no_text-with_new rev (x ∷ xs) (false ∷ by) all = (all.0, no_text-with_new rev xs by all.1)

no_text-with_deleted : (rev : ℕ) (xs : List Tagged) (at : List Bool) → AllByRecursion (λ t. t.character ≡ 0) xs → AllByRecursion (λ t. t.character ≡ 0) (with_deleted rev xs at)
no_text-with_deleted rev [] at all = tt
no_text-with_deleted rev (x ∷ xs) [] all = all
no_text-with_deleted rev (x ∷ xs) (true ∷ at) all = (all.0, no_text-with_deleted rev xs at all.1)
no_text-with_deleted rev (x ∷ xs) (false ∷ at) all = (all.0, no_text-with_deleted rev xs at all.1)

pub no_text-fold : (h : History) (steps : List RevStep) → AllByRecursion (λ t. t.character ≡ 0) h.characters →
    AllByRecursion (λ t. t.character ≡ 0) (fold after_revision h steps).characters
no_text-fold h [] all = all
no_text-fold h (Edit e ∷ steps) all =
    no_text-fold (after_edit h e) steps
    (no_text-with_deleted (head h + 1) (with_new (new_by (head h + 1)) h.characters e.inserted) e.deleted
    (no_text-with_new (head h + 1) h.characters e.inserted all))
no_text-fold h (Undo groups ∷ steps) all = no_text-fold (undid h (undone_by h groups)) steps all

-- ---- what an earlier revision is

pub revision_at-fold : (h : History) (steps : List RevStep) (rev : ℕ) → rev ≤ head h → revision_at (fold after_revision h steps).revisions rev ≡ revision_at h.revisions rev
revision_at-fold h [] rev le = refl
revision_at-fold h (r ∷ steps) rev le = revision_at-fold (after_revision h r) steps rev (omega (arith, le, head-after h r)) ∙ said_then h r rev le

-- flags of the union at an earlier revision that no later deletion turns
pub flags_then-fold : (f : Tagged → Bool) (h : History) (records : List RevRecord) (n : ℕ) → ((rev : ℕ) (t : Tagged) → n < rev → f (with_deletion rev t) ≡ f t) →
    AreKept h records → n ≤ head h → map f (union_at (fold after_revision h (steps_of records)) n) ≡ map f (union_at h n)
flags_then-fold f h [] n same kept le = refl
flags_then-fold f h (r ∷ records) n same kept le =
    flags_then-fold f (after_revision h r.step) records n same kept.2 (omega (arith, le, head-after h r.step)) ∙ once r.step kept.0
  where
    once : (step : RevStep) → Follows h step → map f (union_at (after_revision h step) n) ≡ map f (union_at h n)
    once (Edit e) next = union_same f h e n (λ t. same (head h + 1) t (omega (arith, le))) next le
    once (Undo groups) next = refl
