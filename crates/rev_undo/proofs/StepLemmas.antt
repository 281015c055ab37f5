-- What a set hides of a union, from a revision to the next, and over all of them.
use Rattle.std.proofs.Common.{◌≡◌, ℕ, suc, ◌+◌, ◌≤◌, Bool, true, false, cond, inl, inr, List, [], ◌∷◌, length, map, filter, refl, ap, ap₂, sym, ◌∙◌, arith}
use Rattle.std.specs.Prelude.{◌==◌, if◌then◌else◌, not}
use Rattle.std.specs.List.{fold, AllByRecursion}
use Rattle.std.proofs.lemmas.List.{length-map}
use Rattle.std.proofs.lemmas.Bool.{leb-true, leb-false, eq-eqb, ne_eqb}
use Rattle.subset_runs.specs.Subset.{count}
use Rattle.plain_text.specs.Numbers.{has}
use Rattle.plain_edits.specs.History.{Tagged, History, head, edit_group, undone, is_there, IsSound}
use Rattle.rev_list.specs.Under.{is_hidden_under, hidden_under, AgreeBy}
use Rattle.rev_list.proofs.ForCallers.{is_visible_under-agree}
use Rattle.rev_list.specs.declared.edit.RevEdit.{RevEdit}
use Rattle.rev_list.specs.declared.step.RevStep.{RevStep}
use Rattle.rev_list.specs.declared.step.RevStep.TheVariants.{Edit, Undo}
use Rattle.rev_list.specs.Hidden.{union_at, hidden_then, insertions_of, deletions_of, IsEditAt, IsUndoAt, IsRevisionAt, AreRevisionsAfter, IsDeletedLater, AreDeletedLater}
use Rattle.rev_list.proofs.ForCallers.{filter-there}
use Rattle.rev_undo.specs.Under.{hidden_then_under, hidden_after, SpeakFrom}
use Rattle.rev_undo.specs.Start.{IsStart}
use Rattle.rev_undo.proofs.FlagLemmas.{dead_over, dead_over-edit, dead_over-nothing, dead_over-new, dead_over-old, dead_over-none}
use Rattle.rev_undo.proofs.ItemLemmas.{is_in, is_hidden_under-old, is_hidden_under-new}

module _ (history : History) (groups : List ℕ) (m : ℕ) (kept : history.floor ≤ m) where
  abbrev hid_now : Tagged → Bool
  hid_now = is_hidden_under history groups (m + 1)

  abbrev hid_then : Tagged → Bool
  hid_then = is_hidden_under history groups m

  abbrev is_new : Tagged → Bool
  is_new tagged = tagged.inserted == m + 1

  abbrev is_deleted : Tagged → Bool
  is_deleted tagged = has tagged.deleted (m + 1)

  abbrev in_set : Bool
  in_set = is_in history groups m (m + 1)

  hidden-next : (characters : List Tagged) → AllByRecursion (IsDeletedLater history.floor) characters →
      map hid_now (filter (is_there (m + 1)) characters) ≡
      dead_over in_set (map hid_then (filter (is_there m) characters)) (map is_new (filter (is_there (m + 1)) characters))
      (map is_deleted (filter (is_there (m + 1)) characters))
  hidden-next [] later = dead_over-nothing in_set
  hidden-next (t ∷ characters) later =
      by (is_there (m + 1) t) (is_there m t) refl refl (filter (is_there (m + 1)) characters) (filter (is_there m) characters) (hidden-next characters later.1)
    where
      by : (there before : Bool) → is_there (m + 1) t ≡ there → is_there m t ≡ before → (longer shorter : List Tagged) →
          map hid_now longer ≡ dead_over in_set (map hid_then shorter) (map is_new longer) (map is_deleted longer) →
          map hid_now (cond there (t ∷ longer) longer) ≡
          dead_over in_set (map hid_then (cond before (t ∷ shorter) shorter)) (map is_new (cond there (t ∷ longer) longer))
          (map is_deleted (cond there (t ∷ longer) longer))
      by true true there before longer shorter rest =
          let low : t.inserted ≤ m = leb-true t.inserted m before in
          dead_over-old in_set (hid_now t) (hid_then t) (is_new t) (is_deleted t) (map hid_now longer) (map hid_then shorter) (map is_new longer)
          (map is_deleted longer) (ne_eqb t.inserted (m + 1) (λ is. omega (arith, is, low))) (is_hidden_under-old history groups m t low) rest
      by true false there before longer shorter rest =
          let new : t.inserted ≡ m + 1 = omega (arith, leb-true t.inserted (m + 1) there, leb-false t.inserted m before) in
          dead_over-new in_set (hid_now t) (is_new t) (is_deleted t) (map hid_now longer) (map hid_then shorter) (map is_new longer)
          (map is_deleted longer) (eq-eqb t.inserted (m + 1) new) (is_hidden_under-new history groups m t new (later.0 (omega (arith, new, kept)))) rest
      by false true there before longer shorter rest = absurd (omega (arith, leb-false t.inserted (m + 1) there, leb-true t.inserted m before))
      by false false there before longer shorter rest = rest

  -- a union is the one before it with the insertions of its revision
  grown-next : (characters : List Tagged) →
      length (filter (is_there (m + 1)) characters) ≡ length (filter (is_there m) characters) + count (map is_new (filter (is_there (m + 1)) characters))
  grown-next [] = refl
  grown-next (t ∷ characters) =
      by (is_there (m + 1) t) (is_there m t) refl refl (filter (is_there (m + 1)) characters) (filter (is_there m) characters) (grown-next characters)
    where
      by : (there before : Bool) → is_there (m + 1) t ≡ there → is_there m t ≡ before → (longer shorter : List Tagged) →
          length longer ≡ length shorter + count (map is_new longer) →
          length (cond there (t ∷ longer) longer) ≡ length (cond before (t ∷ shorter) shorter) + count (map is_new (cond there (t ∷ longer) longer))
      by true true there before longer shorter rest =
          let low : t.inserted ≤ m = leb-true t.inserted m before in
          let old : count (is_new t ∷ map is_new longer) ≡ 0 + count (map is_new longer) =
          ap (λ b. (if b then 1 else 0) + count (map is_new longer)) (ne_eqb t.inserted (m + 1) (λ is. omega (arith, is, low))) in
          omega (arith, old, rest)
      by true false there before longer shorter rest =
          let is : t.inserted ≡ m + 1 = omega (arith, leb-true t.inserted (m + 1) there, leb-false t.inserted m before) in
          let new : count (is_new t ∷ map is_new longer) ≡ 1 + count (map is_new longer) =
          ap (λ b. (if b then 1 else 0) + count (map is_new longer)) (eq-eqb t.inserted (m + 1) is) in
          omega (arith, new, rest)
      by false true there before longer shorter rest = absurd (omega (arith, leb-false t.inserted (m + 1) there, leb-true t.inserted m before))
      by false false there before longer shorter rest = rest

  union_grown : length (union_at history (m + 1)) ≡ length (union_at history m) + count (insertions_of history (m + 1))
  union_grown = grown-next history.characters

  next-edit : (e : RevEdit) → AreDeletedLater history → IsEditAt history (m + 1) e →
      hidden_then_under history groups (m + 1) ≡ hidden_after groups (hidden_then_under history groups m) (Edit e)
  next-edit e later is =
      hidden-next history.characters later ∙
      ap₂ (λ a flags. dead_over a (hidden_then_under history groups m) flags (deletions_of history (m + 1))) group_is (sym is.inserted) ∙
      ap (λ flags. dead_over (has groups e.group) (hidden_then_under history groups m) e.inserted flags) (sym is.deleted) ∙
      sym (dead_over-edit (has groups e.group) (hidden_then_under history groups m) e)
    where
      group_is : in_set ≡ has groups e.group
      group_is = ap (λ found. has groups (edit_group found)) is.said

  next-undo : (differ : List ℕ) → AreDeletedLater history → IsUndoAt history (m + 1) differ →
      hidden_then_under history groups (m + 1) ≡ hidden_then_under history groups m
  next-undo differ later is =
      hidden-next history.characters later ∙
      dead_over-none in_set (hidden_then_under history groups m) (insertions_of history (m + 1)) (deletions_of history (m + 1)) same alike
      is.inserts_none is.deletes_none
    where
      inserted_len : length (insertions_of history (m + 1)) ≡ length (union_at history (m + 1))
      inserted_len = length-map (union_at history (m + 1)) is_new

      same : length (hidden_then_under history groups m) ≡ length (insertions_of history (m + 1))
      same = omega (arith, length-map (union_at history m) hid_then, inserted_len, union_grown, is.inserts_none)

      alike : length (deletions_of history (m + 1)) ≡ length (insertions_of history (m + 1))
      alike = omega (arith, length-map (union_at history (m + 1)) is_deleted, inserted_len)

  -- what the set hides at a revision, by what it hides at the one before
  hidden_then_under-next : (r : RevStep) → AreDeletedLater history → IsRevisionAt history (m + 1) r →
      hidden_then_under history groups (m + 1) ≡ hidden_after groups (hidden_then_under history groups m) r
  hidden_then_under-next (Edit e) later is = next-edit e later is
  hidden_then_under-next (Undo differ) later is = next-undo differ later is

-- ---- all revisions after a revision

first_revision : (h : History) (m : ℕ) (r : RevStep) (revisions : List RevStep) → AreRevisionsAfter h m (r ∷ revisions) → IsRevisionAt h (m + 1) r
first_revision h m r revisions after =
    let here : m + 1 + 0 ≡ m + 1 = omega arith in
    rw here at (after.each 0 r refl)

other_revisions : (h : History) (m : ℕ) (r : RevStep) (revisions : List RevStep) → AreRevisionsAfter h m (r ∷ revisions) → AreRevisionsAfter h (m + 1) revisions
other_revisions h m r revisions after = record {
  len = omega (arith, after.len);
  each = λ k f at.
      let here : m + 1 + suc k ≡ m + 1 + 1 + k = omega arith in
      rw here at (after.each (suc k) f at);
}

pub hidden_after-fold : (h : History) (groups : List ℕ) (m : ℕ) (revisions : List RevStep) → h.floor ≤ m → AreDeletedLater h → AreRevisionsAfter h m revisions →
    fold (hidden_after groups) (hidden_then_under h groups m) revisions ≡ hidden_then_under h groups (head h)
hidden_after-fold h groups m [] kept later after = ap (hidden_then_under h groups) (omega (arith, after.len))
hidden_after-fold h groups m (r ∷ revisions) kept later after =
    ap (λ dead. fold (hidden_after groups) dead revisions)
    (sym (hidden_then_under-next h groups m kept r later (first_revision h m r revisions after))) ∙
    hidden_after-fold h groups (m + 1) revisions (omega (arith, kept)) later (other_revisions h m r revisions after)

-- at the head the union of a revision is the present one
pub hidden_then_under-head : (h : History) (groups : List ℕ) → IsSound h → hidden_then_under h groups (head h) ≡ hidden_under h groups (head h)
hidden_then_under-head h groups sound = ap (λ xs. map (is_hidden_under h groups (head h)) xs) (filter-there (head h) h.characters sound)

pub SpeakFrom-revisions : (h : History) (m len : ℕ) (revisions : List RevStep) → h.floor ≤ m → AreRevisionsAfter h m revisions → len ≡ length (union_at h m) → SpeakFrom len revisions
SpeakFrom-revisions h m len [] kept after is = tt
SpeakFrom-revisions h m len (Undo groups ∷ revisions) kept after is =
    let undoes : IsUndoAt h (m + 1) groups = first_revision h m (Undo groups) revisions after in
    SpeakFrom-revisions h (m + 1) len revisions (omega (arith, kept)) (other_revisions h m (Undo groups) revisions after)
    (omega (arith, is, union_grown h [] m kept, undoes.inserts_none))
SpeakFrom-revisions h m len (Edit e ∷ revisions) kept after is =
    let edits : IsEditAt h (m + 1) e = first_revision h m (Edit e) revisions after in
    let long : length e.inserted ≡ length (union_at h (m + 1)) = ap length edits.inserted ∙ length-map (union_at h (m + 1)) (λ t. t.inserted == m + 1) in
    let gone : length e.deleted ≡ length (union_at h (m + 1)) = ap length edits.deleted ∙ length-map (union_at h (m + 1)) (λ t. has t.deleted (m + 1)) in
    let grown : length (union_at h (m + 1)) ≡ length (union_at h m) + count e.inserted =
    union_grown h [] m kept ∙ ap (λ flags. length (union_at h m) + count flags) (sym edits.inserted) in (
      omega (arith, long, grown, is),
      omega (arith, long, gone),
      SpeakFrom-revisions h (m + 1) (length e.inserted) revisions (omega (arith, kept)) (other_revisions h m (Edit e) revisions after) long,
    )

-- ---- where the walk begins

-- what was undone at the revision hides there what a set hides that agrees with it
pub hidden_then_under-agree : (h : History) (groups : List ℕ) (rev : ℕ) → AgreeBy h rev groups (undone h.revisions rev) →
    hidden_then_under h groups rev ≡ hidden_then h rev
hidden_then_under-agree h groups rev agree =
    ap (λ f. map f (union_at h rev)) (λ i t. not (is_visible_under-agree h rev groups (undone h.revisions rev) agree t i))

pub agreed : (h : History) (groups : List ℕ) (at floor : ℕ) (dead : List Bool) → IsStart h groups at → floor ≡ h.floor → (at ≡ floor → ⊥) → dead ≡ hidden_then h at →
    dead ≡ hidden_then_under h groups at
agreed h groups at floor dead start floor_is other is =
    elim start.agrees [
      | inl first ↦ absurd (other (omega (arith, first, start.kept, floor_is)))
      | inr agree ↦ is ∙ sym (hidden_then_under-agree h groups at agree)
    ]

-- from where the set and what was undone agree, over all later revisions
pub recomputed : (h : History) (groups : List ℕ) (m : ℕ) (dead : List Bool) (revisions : List RevStep) → h.floor ≤ m → AreDeletedLater h → IsSound h →
    AreRevisionsAfter h m revisions → dead ≡ hidden_then_under h groups m → fold (hidden_after groups) dead revisions ≡ hidden_under h groups (head h)
recomputed h groups m dead revisions kept later sound after is =
    ap (λ flags. fold (hidden_after groups) flags revisions) is ∙ hidden_after-fold h groups m revisions kept later after ∙ hidden_then_under-head h groups sound
