-- A stale edit over the revisions after its base.
use Rattle.std.proofs.Common.{◌≡◌, ℕ, suc, ◌+◌, ◌^◌, ◌<◌, ◌≤◌, Bool, true, false, not, cond, if◌then◌else◌, inr, List, [], ◌∷◌, length, map, filter, refl, ap, ap₂, sym, ◌∙◌, arith}
use Rattle.std.specs.List.{fold}
use Rattle.std.proofs.lemmas.List.{length-map}
use Rattle.subset_runs.specs.Subset.{count, expand}
use Rattle.plain_edits.specs.declared.rank.Rank.{Rank}
use Rattle.plain_edits.specs.Rank.{is_lower}
use Rattle.plain_edits.specs.History.{History, head, edit_rank}
use Rattle.plain_edits.specs.Place.{is_by, goes_right}
use Rattle.plain_edits.specs.Edits.{PlainEdit, insertion_rank}
use Rattle.subset_runs.proofs.ForCallers.{count_le_length, length-expand_as}
use Rattle.delta_core.specs.Carry.{carried}
use Rattle.delta_core.proofs.ForCallers.{IsCarried-carried, base_step, own_steps}
use Rattle.rev_list.proofs.ForCallers.{grown_flags}
use Rattle.rev_list.specs.declared.edit.RevEdit.{RevEdit}
use Rattle.rev_list.specs.declared.step.RevStep.{RevStep}
use Rattle.rev_list.specs.declared.step.RevStep.TheVariants.{Edit, Undo}
use Rattle.rev_list.specs.Hidden.{union_at, insertions_of, IsEditAt, IsUndoAt, IsRevisionAt, AreRevisionsAfter}
use Rattle.rev_list.specs.WithoutText.{insertion_flags}
use Rattle.rev_rebase.specs.Until.{until}
use Rattle.rev_rebase.specs.Inner.{step_rank, insertions_after, deletions_after, Grow}
use Rattle.rev_rebase.proofs.FlagLemmas.{insertion_flags-step, dropped_then, dropped_then-step, length-dropped_then}
use Rattle.rev_rebase.proofs.UntilLemmas.{length-union_at, union_at-before}

-- ---- the revisions after a revision

first_revision : (h : History) (m : ℕ) (r : RevStep) (revisions : List RevStep) → AreRevisionsAfter h m (r ∷ revisions) → IsRevisionAt h (m + 1) r
first_revision h m r revisions after =
    let here : m + 1 + 0 ≡ m + 1 = omega arith in
    rw here at (after.each 0 r refl)

other_revisions : (h : History) (m : ℕ) (r : RevStep) (revisions : List RevStep) → AreRevisionsAfter h m (r ∷ revisions) → AreRevisionsAfter h (m + 1) revisions
other_revisions h m r revisions after = record {
  len = omega (arith, after.len);
  each = λ k f at.
      let here : m + 1 + suc k ≡ m + 1 + 1 + k = omega arith in
      rw here at (after.each (suc k) f at);
}

goes_right-edit : (h : History) (m : ℕ) (e : RevEdit) (rank : Rank) → IsEditAt h m e →
    not (is_lower rank (step_rank e)) ≡ goes_right h.revisions rank m
goes_right-edit h m e rank is = sym (ap (λ found. not (is_lower rank (edit_rank found))) is.said)

pub count-others : {X : Type 0} (p : X → Bool) (xs : List X) → length (filter (λ x. not (p x)) xs) + count (map p xs) ≡ length xs
count-others p [] = refl
count-others p (x ∷ xs) =
    elim (p x) as (λ b. length (cond (not b) (x ∷ filter (λ y. not (p y)) xs) (filter (λ y. not (p y)) xs)) + ((if b then 1 else 0) + count (map p xs)) ≡ suc (length xs)) [
      | true ↦ omega (arith, count-others p xs)
      | false ↦ omega (arith, count-others p xs)
    ]

-- a union is the one before it with the insertions of its revision
union_grown : (h : History) (m : ℕ) → length (union_at h m) + count (insertions_of h (m + 1)) ≡ length (union_at h (m + 1))
union_grown h m =
    ap (λ xs. length xs + count (insertions_of h (m + 1))) (sym (union_at-before h m)) ∙ count-others (is_by (m + 1)) (union_at h (m + 1))

length-insertions_of : (h : History) (m : ℕ) → length (insertions_of h m) ≡ length (union_at h m)
length-insertions_of h m = length-map (union_at h m) (is_by m)

-- ---- over a revision that inserts nothing

nothing_carried : (after : Bool) → carried after [] [] ≡ []
nothing_carried true = refl
nothing_carried false = refl

carried-none : (after : Bool) (ins later : List Bool) → length ins ≡ length later + count ins → count later ≡ 0 → carried after ins later ≡ ins
carried-none after [] [] same none = nothing_carried after
carried-none after [] (b ∷ later) same none = absurd (omega arith)
carried-none after (true ∷ ins) [] same none = own_steps 1 after ins [] (inr refl) ∙ ap (λ xs. true ∷ xs) (carried-none after ins [] (omega arith) none)
carried-none after (false ∷ ins) [] same none = absurd (omega (arith, count_le_length ins))
carried-none after (i ∷ ins) (true ∷ later) same none = absurd (omega arith)
carried-none after (true ∷ ins) (false ∷ later) same none =
    own_steps 1 after ins (false ∷ later) (inr refl) ∙ ap (λ xs. true ∷ xs) (carried-none after ins (false ∷ later) (omega arith) none)
carried-none after (false ∷ ins) (false ∷ later) same none =
    base_step after ins later ∙ ap (λ xs. false ∷ xs) (carried-none after ins later (omega arith) (omega (arith, none)))

expand-none : (flags by : List Bool) → length flags ≡ length by → count by ≡ 0 → expand flags by ≡ flags
expand-none [] [] same none = refl
expand-none [] (b ∷ by) same none = absurd (omega arith)
expand-none (flag ∷ flags) [] same none = absurd (omega arith)
expand-none (flag ∷ flags) (true ∷ by) same none = absurd (omega arith)
expand-none (flag ∷ flags) (false ∷ by) same none = ap (λ rest. flag ∷ rest) (expand-none flags by (omega arith) (omega (arith, none)))

-- ---- over all of them

pub insertions_fold : (h : History) (e : PlainEdit) (m : ℕ) (revisions : List RevStep) → e.base ≤ m → AreRevisionsAfter h m revisions →
    fold (insertions_after (insertion_rank e)) (insertion_flags (until h m) e) revisions ≡ insertion_flags (until h (head h)) e
insertions_fold h e m [] low after = ap (λ n. insertion_flags (until h n) e) (omega (arith, after.len))
insertions_fold h e m (Edit f ∷ revisions) low after =
    let is : IsEditAt h (m + 1) f = first_revision h m (Edit f) revisions after in
    ap₂ (λ right later. fold (insertions_after (insertion_rank e)) (carried right (insertion_flags (until h m) e) later) revisions)
    (goes_right-edit h (m + 1) f (insertion_rank e) is) is.inserted ∙
    ap (λ ins. fold (insertions_after (insertion_rank e)) ins revisions) (insertion_flags-step h e m low) ∙
    insertions_fold h e (m + 1) revisions (omega (arith, low)) (other_revisions h m (Edit f) revisions after)
insertions_fold h e m (Undo groups ∷ revisions) low after =
    let is : IsUndoAt h (m + 1) groups = first_revision h m (Undo groups) revisions after in
    let own : List Bool = insertion_flags (until h m) e in
    let same : length own ≡ length (insertions_of h (m + 1)) + count own =
    omega (arith, grown_flags (until h m) e, union_grown h m, length-insertions_of h (m + 1), is.inserts_none) in
    ap (λ ins. fold (insertions_after (insertion_rank e)) ins revisions)
    (sym (carried-none (goes_right h.revisions (insertion_rank e) (m + 1)) own (insertions_of h (m + 1)) same is.inserts_none) ∙ insertion_flags-step h e m low) ∙
    insertions_fold h e (m + 1) revisions (omega (arith, low)) (other_revisions h m (Undo groups) revisions after)

pub deletions_fold : (h : History) (base : ℕ) (kept : ℕ → Bool) (m : ℕ) (revisions : List RevStep) → base ≤ m → AreRevisionsAfter h m revisions →
    fold deletions_after (dropped_then h base kept m) revisions ≡ dropped_then h base kept (head h)
deletions_fold h base kept m [] low after = ap (dropped_then h base kept) (omega (arith, after.len))
deletions_fold h base kept m (Edit f ∷ revisions) low after =
    let is : IsEditAt h (m + 1) f = first_revision h m (Edit f) revisions after in
    ap (λ later. fold deletions_after (expand (dropped_then h base kept m) later) revisions) is.inserted ∙
    ap (λ del. fold deletions_after del revisions) (dropped_then-step h base kept m low) ∙
    deletions_fold h base kept (m + 1) revisions (omega (arith, low)) (other_revisions h m (Edit f) revisions after)
deletions_fold h base kept m (Undo groups ∷ revisions) low after =
    let is : IsUndoAt h (m + 1) groups = first_revision h m (Undo groups) revisions after in
    let same : length (dropped_then h base kept m) ≡ length (insertions_of h (m + 1)) =
    omega (arith, length-dropped_then h base kept m low, union_grown h m, length-insertions_of h (m + 1), is.inserts_none) in
    ap (λ del. fold deletions_after del revisions)
    (sym (expand-none (dropped_then h base kept m) (insertions_of h (m + 1)) same is.inserts_none) ∙ dropped_then-step h base kept m low) ∙
    deletions_fold h base kept (m + 1) revisions (omega (arith, low)) (other_revisions h m (Undo groups) revisions after)

-- ---- lengths

-- what is left to carry over after one revision
pub insertions_next : (rank : Rank) (ins : List Bool) (r : RevStep) (revisions : List RevStep) → Grow (count ins) (length ins) (r ∷ revisions) →
    Grow (count (insertions_after rank ins r)) (length (insertions_after rank ins r)) revisions
insertions_next rank ins (Undo groups) revisions grow = grow
insertions_next rank ins (Edit e) revisions grow =
    let is = IsCarried-carried (not (is_lower rank (step_rank e))) ins e.inserted grow.0 in
    rw (is.len, is.members) grow.2

pub deletions_next : (del : List Bool) (r : RevStep) (revisions : List RevStep) → Grow 0 (length del) (r ∷ revisions) → Grow 0 (length (deletions_after del r)) revisions
deletions_next del (Undo groups) revisions grow = grow
deletions_next del (Edit e) revisions grow =
    let len : length e.inserted + 0 ≡ length (expand del e.inserted) = omega (arith, length-expand_as false del e.inserted) in
    rw len at grow.2

pub Grow-revisions : (h : History) (own m len : ℕ) (revisions : List RevStep) → AreRevisionsAfter h m revisions → length h.characters + own < 2 ^ 64 →
    len ≡ length (union_at h m) + own → Grow own len revisions
Grow-revisions h own m len [] after bound is = tt
Grow-revisions h own m len (Undo groups ∷ revisions) after bound is =
    let undoes : IsUndoAt h (m + 1) groups = first_revision h m (Undo groups) revisions after in
    Grow-revisions h own (m + 1) len revisions (other_revisions h m (Undo groups) revisions after) bound
    (omega (arith, is, union_grown h m, undoes.inserts_none))
Grow-revisions h own m len (Edit e ∷ revisions) after bound is =
    let edits : IsEditAt h (m + 1) e = first_revision h m (Edit e) revisions after in
    let said = edits.inserted in
    let long : length e.inserted ≡ length (union_at h (m + 1)) = ap length said ∙ length-insertions_of h (m + 1) in
    let grown : length (union_at h m) + count e.inserted ≡ length (union_at h (m + 1)) =
    ap (λ flags. length (union_at h m) + count flags) said ∙ union_grown h m in (
      omega (arith, long, grown, is),
      omega (arith, long, bound, length-union_at h (m + 1)),
      Grow-revisions h own (m + 1) (length e.inserted + own) revisions (other_revisions h m (Edit e) revisions after) bound (ap (λ n. n + own) long),
    )
