-- An undo of a group whose edits are the last ones of a history.
use Rattle.std.proofs.Common.{◌≡◌, ℕ, zero, suc, ◌+◌, ◌<◌, ◌≤◌, true, false, not, ◌&&◌, ◌||◌, nat_lt, nat_le, ◌==◌, List, [], ◌∷◌, ◌++◌, length, Some, refl, ap, ap₂, sym, ◌∙◌, inl, inr, arith, append_assoc, length-append}
use Rattle.std.specs.Prelude.{slice_get}
use Rattle.std.specs.List.{AllByRecursion, list_any}
use Rattle.std.proofs.lemmas.Bool.{cases_lt, eqb-true, eqb-false, eq-eqb, ne_eqb, le-leb, lt-leb, lt-ltb, le-ltb, or_left, or_parts}
use Rattle.plain_text.specs.Numbers.{has, with_number}
use Rattle.plain_text.proofs.callers.ListLemmas.{AllByRecursion-append, list_all_same}
use Rattle.plain_text.proofs.callers.NumberLemmas.{has-with_number}
use Rattle.plain_edits.specs.History.{Tagged, Revision, edit, undo, History, head, edit_group, group_of, undone, is_visible_under, is_visible, text_at, IsSound, IsTaggedBy}
use Rattle.plain_edits.specs.Edits.{PlainEdit, edited, undid, is_edit_of}
use Rattle.plain_edits.specs.Undo.{undone_now}
use Rattle.plain_edits.proofs.callers.HistoryLemmas.{IsSound-edited, group_of-append, shown_same, text_at-edited, undone-append}
use Rattle.plain_edits.proofs.callers.UndoLemmas.{is_visible-undid}

-- the history goes on with edits of one group, and shows at the old head what it showed
pub record IsRun (start h : History) (group : ℕ) : Type 0 where
  pub sound : IsSound h
  pub more : List Revision
  pub revisions : h.revisions ≡ start.revisions ++ more
  pub own : AllByRecursion (λ r. is_edit_of group r ≡ true) more
  pub text : text_at h (head start) ≡ text_at start (head start)

-- ---- the groups of its revisions

own_group : (group : ℕ) (r : Revision) → is_edit_of group r ≡ true → edit_group (Some r) ≡ group
own_group group (edit base g priority author) is = eqb-true g group is
own_group group (undo groups) is = absurd cc

own_at : (group : ℕ) (revisions more : List Revision) → AllByRecursion (λ r. is_edit_of group r ≡ true) more → (k : ℕ) → length revisions ≤ k →
    k < length revisions + length more → edit_group (slice_get (revisions ++ more) k) ≡ group
own_at group (r ∷ revisions) more own zero from to = absurd (omega (arith, from))
own_at group (r ∷ revisions) more own (suc k) from to = own_at group revisions more own k (omega (arith, from)) (omega (arith, to))
own_at group [] [] own k from to = absurd (omega (arith, to))
own_at group [] (r ∷ more) own zero from to = own_group group r own.0
own_at group [] (r ∷ more) own (suc k) from to = own_at group [] more own.1 k (omega arith) (omega (arith, to))

group_of-own : (group : ℕ) (revisions more : List Revision) → AllByRecursion (λ r. is_edit_of group r ≡ true) more → (rev : ℕ) → length revisions < rev →
    rev ≤ length revisions + length more → group_of (revisions ++ more) rev ≡ group
group_of-own group revisions more own zero from to = absurd (omega (arith, from))
group_of-own group revisions more own (suc k) from to = own_at group revisions more own k (omega (arith, from)) (omega (arith, to))

module _ (group : ℕ) (counts : 1 ≤ group) where
  none : (group == 0) ≡ false
  none = ne_eqb group 0 (λ is. omega (arith, is, counts))

  other : (r : Revision) → is_edit_of group r ≡ false → (group == edit_group (Some r)) ≡ false
  other (edit base g priority author) is = ne_eqb group g (λ same. eqb-false g group is (sym same))
  other (undo groups) is = none

  other_at : (revisions : List Revision) → list_any (is_edit_of group) revisions ≡ false → (k : ℕ) → (group == edit_group (slice_get revisions k)) ≡ false
  other_at [] fresh k = none
  other_at (r ∷ revisions) fresh zero = other r (or_parts (is_edit_of group r) (list_any (is_edit_of group) revisions) fresh).0
  other_at (r ∷ revisions) fresh (suc k) = other_at revisions (or_parts (is_edit_of group r) (list_any (is_edit_of group) revisions) fresh).1 k

  group_of-other : (revisions : List Revision) → list_any (is_edit_of group) revisions ≡ false → (rev : ℕ) → (group == group_of revisions rev) ≡ false
  group_of-other revisions fresh zero = none
  group_of-other revisions fresh (suc k) = other_at revisions fresh k

-- ---- what is visible then

module _ (start h : History) (group : ℕ) (run : IsRun start h group) (counts : 1 ≤ group) (fresh : list_any (is_edit_of group) start.revisions ≡ false) where
  abbrev was : List ℕ
  was = undone_now start

  abbrev set : List ℕ
  set = with_number was group

  long : head h ≡ head start + length run.more
  long = ap length run.revisions ∙ length-append start.revisions run.more

  -- an old revision is undone where it was
  old : (rev : ℕ) → rev ≤ head start → has set (group_of h.revisions rev) ≡ has was (group_of h.revisions rev)
  old rev within =
      let same : group_of h.revisions rev ≡ group_of start.revisions rev =
      ap (λ rs. group_of rs rev) run.revisions ∙ group_of-append start.revisions run.more rev within in
      has-with_number was group (group_of h.revisions rev) ∙
      ap (λ g. (group == g) || has was (group_of h.revisions rev)) same ∙
      ap (λ b. b || has was (group_of h.revisions rev)) (group_of-other group counts start.revisions fresh rev)

  -- and one of the run is undone
  new : (rev : ℕ) → head start < rev → rev ≤ head h → has set (group_of h.revisions rev) ≡ true
  new rev from to =
      let own : group_of h.revisions rev ≡ group =
      ap (λ rs. group_of rs rev) run.revisions ∙ group_of-own group start.revisions run.more run.own rev from (omega (arith, to, long)) in
      ap (has set) own ∙ has-with_number was group group ∙ or_left (group == group) (has was group) (eq-eqb group group refl)

  undone_then : undone h.revisions (head start) ≡ was
  undone_then = ap (λ rs. undone rs (head start)) run.revisions ∙ undone-append start.revisions run.more (head start) (omega arith)

  insertion : (i : ℕ) → i ≤ head h →
      (nat_le i (head h) && not (has set (group_of h.revisions i))) ≡ (nat_le i (head start) && not (has was (group_of h.revisions i)))
  insertion i within =
      elim (cases_lt (head start) i) [
        | inl later ↦
            ap₂ (λ a b. a && not b) (le-leb i (head h) within) (new i later within) ∙
            ap (λ a. a && not (has was (group_of h.revisions i))) (sym (lt-leb i (head start) later))
        | inr before ↦
            ap₂ (λ a b. a && not b) (le-leb i (head h) within) (old i before) ∙
            ap (λ a. a && not (has was (group_of h.revisions i))) (sym (le-leb i (head start) before))
      ]

  deletion : (rev : ℕ) → rev ≤ head h →
      (nat_lt (head h) rev || has set (group_of h.revisions rev)) ≡ (nat_lt (head start) rev || has was (group_of h.revisions rev))
  deletion rev within =
      ap (λ a. a || has set (group_of h.revisions rev)) (le-ltb (head h) rev within) ∙
      elim (cases_lt (head start) rev) [
        | inl later ↦ new rev later within ∙ ap (λ a. a || has was (group_of h.revisions rev)) (sym (lt-ltb (head start) rev later))
        | inr before ↦ old rev before ∙ ap (λ a. a || has was (group_of h.revisions rev)) (sym (le-ltb (head start) rev before))
      ]

  visible : (x : Tagged) → IsTaggedBy (head h) x → is_visible_under h.revisions set (head h) x ≡ is_visible h.revisions (head start) x
  visible x is =
      ap₂ (λ a b. a && b) (insertion x.inserted is.inserted)
      (list_all_same (λ rev. rev ≤ head h) (λ rev. nat_lt (head h) rev || has set (group_of h.revisions rev))
      (λ rev. nat_lt (head start) rev || has was (group_of h.revisions rev)) deletion x.deleted is.deleted) ∙
      ap (λ groups. is_visible_under h.revisions groups (head start) x) (sym undone_then)

  -- the text of the start is back
  pub text_at-run : text_at (undid h set) (head h + 1) ≡ text_at start (head start)
  text_at-run =
      shown_same (IsTaggedBy (head h)) (is_visible (undid h set).revisions (head h + 1)) (is_visible h.revisions (head start))
      (λ x is. is_visible-undid h set x is ∙ visible x is) h.characters run.sound ∙ run.text

-- ---- a run goes on

pub IsRun-first : (start : History) (e : PlainEdit) (group : ℕ) → IsSound start → e.group ≡ group → IsRun start (edited start e) group
IsRun-first start e group sound own = record {
  sound = IsSound-edited start e sound;
  more = edit e.base e.group e.priority e.author ∷ [];
  revisions = refl;
  own = (eq-eqb e.group group own, tt);
  text = text_at-edited start e (head start) sound (omega arith);
}

pub IsRun-more : (start h : History) (e : PlainEdit) (group : ℕ) → IsRun start h group → e.group ≡ group → IsRun start (edited h e) group
IsRun-more start h e group run own =
    let last : Revision = edit e.base e.group e.priority e.author in
    record {
      sound = IsSound-edited h e run.sound;
      more = run.more ++ last ∷ [];
      revisions = ap (λ rs. rs ++ last ∷ []) run.revisions ∙ append_assoc start.revisions run.more (last ∷ []);
      own = AllByRecursion-append (λ r. is_edit_of group r ≡ true) run.more (last ∷ []) run.own (eq-eqb e.group group own, tt);
      text =
          text_at-edited h e (head start) run.sound (omega (arith, ap length run.revisions, length-append start.revisions run.more)) ∙ run.text;
    }
