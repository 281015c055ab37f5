-- What revisions hide, from one to the next.
use Rattle.std.proofs.Common.{◌≡◌, ℕ, ◌+◌, ◌-◌, ◌<◌, ◌≤◌, Bool, true, false, not, ◌&&◌, ◌||◌, nat_le, nat_lt, List, [], ◌∷◌, ◌++◌, length, map, Some, refl, ap, ap₂, sym, ◌∙◌, subst, arith, length-append, take_all}
use Rattle.std.specs.Prelude.{◌==◌}
use Rattle.std.specs.List.{list_all, AllByRecursion}
use Rattle.std.proofs.lemmas.Bool.{leb-true, lt-ltb, ltb-false}
use Rattle.std.proofs.lemmas.List.Folds.{list_all-append}
use Rattle.std.proofs.Math.Bool.{and-true, and-false}
use Rattle.std.proofs.lemmas.List.{length-map, take-append-le}
use Rattle.subset_runs.specs.Subset.{count, union, expand_as}
use Rattle.subset_runs.proofs.ForCallers.{count-replicate_false}
use Rattle.plain_text.specs.Numbers.{has, flipped}
use Rattle.plain_edits.specs.History.{Tagged, Revision, undo, History, head, group_of, revision_at, undone, is_visible, is_visible_under, IsTaggedBy, IsSound}
use Rattle.plain_edits.specs.Edits.{with_deletion, undid}
use Rattle.plain_edits.specs.Undo.{undone_now}
use Rattle.plain_edits.proofs.callers.HistoryLemmas.{IsSound-undid, group_of-append, revision_at-append, revision_at-push, undone-append, undone-edit, undone-undo, is_visible-deleted_later, is_visible-later}
use Rattle.plain_edits.proofs.callers.FirstLemmas.{is_visible-take}
use Rattle.rev_list.specs.Under.{is_hidden_under, hidden_under}
use Rattle.rev_list.proofs.UnderEditLemmas.{map_where, is_visible_under-more, is_visible_under-new, is_visible_under-deletion, hidden_under-undid}
use Rattle.rev_list.specs.declared.edit.RevEdit.{RevEdit}
use Rattle.rev_list.specs.declared.step.RevStep.{RevStep}
use Rattle.rev_list.specs.declared.step.RevStep.TheVariants.{Edit, Undo}
use Rattle.rev_list.specs.Edit.{edit_revision, new_by, with_new, with_deleted, after_edit, undone_by, after_revision}
use Rattle.rev_list.specs.Hidden.{is_hidden, hidden_at, union_at, hidden_then, insertions_of, deletions_of, IsEditAt, IsUndoAt, IsRevisionAt}
use Rattle.rev_list.specs.Kept.{IsNext, Follows, dead_now, dead_after}
use Rattle.rev_list.specs.Inner.{dead_later}
use Rattle.rev_list.proofs.TagLemmas.{has_deleted_before, inserted_now}
use Rattle.rev_list.proofs.StepLemmas.{length-with_new, map-with_new, map-with_deleted_same, map-with_deleted_set, filter-with_deleted_same, filter-with_new, filter-there, tagged_later, tagged-with_new, tagged-with_deleted, none_inserted_later, none_deleted_later, expand_in_none, none_deleted_by, deletions-with_deleted}

-- a history without undos
pub record IsPlain (history : History) : Type 0 where
  pub none : (rev : ℕ) → undone history.revisions rev ≡ []
  pub sound : IsSound history

pub head-after_edit : (h : History) (e : RevEdit) → head (after_edit h e) ≡ head h + 1
head-after_edit h e = length-append h.revisions (edit_revision e ∷ [])

pub head-undid : (h : History) (groups : List ℕ) → head (undid h groups) ≡ head h + 1
head-undid h groups = length-append h.revisions (undo groups ∷ [])

pub head-after : (h : History) (r : RevStep) → head (after_revision h r) ≡ head h + 1
head-after h (Edit e) = head-after_edit h e
head-after h (Undo groups) = head-undid h (undone_by h groups)

sound-after_edit : (h : History) (e : RevEdit) → IsSound h → IsSound (after_edit h e)
sound-after_edit h e sound =
    rw (head-after_edit h e) (tagged-with_deleted (head h + 1) _ e.deleted (tagged-with_new (head h + 1) h.characters e.inserted (tagged_later (head h) (head h + 1) h.characters (omega arith) sound)))

pub sound-after : (h : History) (r : RevStep) → IsSound h → IsSound (after_revision h r)
sound-after h (Edit e) sound = sound-after_edit h e sound
sound-after h (Undo groups) sound = IsSound-undid h (undone_by h groups) sound

-- ---- one more revision, seen from an earlier one

shown_then : (revisions : List Revision) (last : Revision) (n : ℕ) → n ≤ length revisions → (t : Tagged) → is_visible (revisions ++ last ∷ []) n t ≡ is_visible revisions n t
shown_then revisions last n within t =
    sym (is_visible-take (revisions ++ last ∷ []) (length revisions) n t within) ∙
    ap (λ rs. is_visible rs n t) (take-append-le (length revisions) revisions (last ∷ []) (omega arith) ∙ take_all (length revisions) revisions (omega arith))

-- what is hidden at a revision does not depend on the next one
hidden_then_same : (h : History) (r : RevStep) (n : ℕ) → n ≤ head h → is_hidden (after_revision h r) n ≡ is_hidden h n
hidden_then_same h (Edit e) n within = λ i t. not (shown_then h.revisions (edit_revision e) n within t i)
hidden_then_same h (Undo groups) n within = λ i t. not (shown_then h.revisions (undo (undone_by h groups)) n within t i)

length-new : (h : History) (e : RevEdit) → IsNext h e → length e.deleted ≡ length (with_new (new_by (head h + 1)) h.characters e.inserted)
length-new h e next = omega (arith, next.same_length, length-with_new (new_by (head h + 1)) h.characters e.inserted next.grown)

length-with_deleted : (rev : ℕ) (xs : List Tagged) (at : List Bool) → length (with_deleted rev xs at) ≡ length xs
length-with_deleted rev [] at = refl
length-with_deleted rev (x ∷ xs) [] = refl
length-with_deleted rev (x ∷ xs) (flag ∷ at) = omega (arith, length-with_deleted rev xs at)

pub length-after_edit : (h : History) (e : RevEdit) → IsNext h e → length (after_edit h e).characters ≡ length e.inserted
length-after_edit h e next =
    length-with_deleted (head h + 1) (with_new (new_by (head h + 1)) h.characters e.inserted) e.deleted ∙ length-with_new (new_by (head h + 1)) h.characters e.inserted next.grown

deleted_then : (h : History) (n : ℕ) → n ≤ head h → (t : Tagged) → is_hidden h n (with_deletion (head h + 1) t) ≡ is_hidden h n t
deleted_then h n within t = ap not (is_visible-deleted_later h.revisions n (head h + 1) t (omega arith))

pub hidden_at-later : (h : History) (r : RevStep) (n : ℕ) → Follows h r → n ≤ head h → hidden_at (after_revision h r) n ≡ dead_later (hidden_at h n) r
hidden_at-later h (Edit e) n next within =
    let rev = head h + 1 in
    let longer : List Tagged = with_new (new_by rev) h.characters e.inserted in
    ap (λ f. map f (after_edit h e).characters) (hidden_then_same h (Edit e) n within)
    ∙ (map-with_deleted_same (is_hidden h n) rev (deleted_then h n within) longer e.deleted
    ∙ (map-with_new (is_hidden h n) (new_by rev) h.characters e.inserted next.grown
    ∙ ap (λ b. expand_as b (hidden_at h n) e.inserted) (ap not (is_visible-later h.revisions n (new_by rev) (omega arith)))))
hidden_at-later h (Undo groups) n next within = ap (λ f. map f h.characters) (hidden_then_same h (Undo groups) n within)

-- what is said of the characters that were there
pub union_same : (f : Tagged → Bool) (h : History) (e : RevEdit) (n : ℕ) → ((t : Tagged) → f (with_deletion (head h + 1) t) ≡ f t) → IsNext h e → n ≤ head h → map f (union_at (after_edit h e) n) ≡ map f (union_at h n)
union_same f h e n same next h_n =
    filter-with_deleted_same f (head h + 1) n same (with_new (new_by (head h + 1)) h.characters e.inserted) e.deleted
    ∙ ap (λ xs. map f xs) (filter-with_new (head h + 1) n h.characters e.inserted (omega arith) next.grown)

pub hidden_then-later : (h : History) (r : RevStep) (n : ℕ) → Follows h r → n ≤ head h → hidden_then (after_revision h r) n ≡ hidden_then h n
hidden_then-later h (Edit e) n next within =
    ap (λ f. map f (union_at (after_edit h e) n)) (hidden_then_same h (Edit e) n within)
    ∙ union_same (is_hidden h n) h e n (deleted_then h n within) next within
hidden_then-later h (Undo groups) n next within = ap (λ f. map f (union_at h n)) (hidden_then_same h (Undo groups) n within)

insertions_of-later : (h : History) (r : RevStep) (n : ℕ) → Follows h r → n ≤ head h → insertions_of (after_revision h r) n ≡ insertions_of h n
insertions_of-later h (Edit e) n next within = union_same (λ t. t.inserted == n) h e n (λ t. refl) next within
insertions_of-later h (Undo groups) n next within = refl

deletions_of-later : (h : History) (r : RevStep) (n : ℕ) → Follows h r → n ≤ head h → deletions_of (after_revision h r) n ≡ deletions_of h n
deletions_of-later h (Edit e) n next within =
    union_same (λ t. has t.deleted n) h e n (λ t. has_deleted_before (head h + 1) n t (omega arith)) next within
deletions_of-later h (Undo groups) n next within = refl

-- nor does what a set hides there
module _ (set : List ℕ) where
  shown_under : (revisions : List Revision) (last : Revision) (n : ℕ) → n ≤ length revisions → (t : Tagged) →
      is_visible_under (revisions ++ last ∷ []) set n t ≡ is_visible_under revisions set n t
  shown_under revisions last n within t = ap₂ (λ a b. a && b) (come (nat_le t.inserted n) refl) (stays t.deleted)
    where
      same : (rev : ℕ) → rev ≤ n → has set (group_of (revisions ++ last ∷ []) rev) ≡ has set (group_of revisions rev)
      same rev le = ap (has set) (group_of-append revisions (last ∷ []) rev (omega (arith, le, within)))

      come : (b : Bool) → nat_le t.inserted n ≡ b →
          (b && not (has set (group_of (revisions ++ last ∷ []) t.inserted))) ≡ (b && not (has set (group_of revisions t.inserted)))
      come true is = ap (λ a. true && not a) (same t.inserted (leb-true t.inserted n is))
      come false is = refl

      stays_by : (rev : ℕ) (b : Bool) → nat_lt n rev ≡ b →
          (b || has set (group_of (revisions ++ last ∷ []) rev)) ≡ (b || has set (group_of revisions rev))
      stays_by rev true is = refl
      stays_by rev false is = same rev (omega (arith, ltb-false n rev is))

      stays : (deleted : List ℕ) → list_all (λ rev. nat_lt n rev || has set (group_of (revisions ++ last ∷ []) rev)) deleted ≡
          list_all (λ rev. nat_lt n rev || has set (group_of revisions rev)) deleted
      stays [] = refl
      stays (rev ∷ deleted) = ap₂ (λ a b. a && b) (stays_by rev (nat_lt n rev) refl) (stays deleted)

  deleted_under : (revisions : List Revision) (n rev : ℕ) (t : Tagged) → n < rev →
      is_visible_under revisions set n (with_deletion rev t) ≡ is_visible_under revisions set n t
  deleted_under revisions n rev t later =
      let test : ℕ → Bool = λ r. nat_lt n r || has set (group_of revisions r) in
      let spared : test rev ≡ true = ap (λ b. b || has set (group_of revisions rev)) (lt-ltb n rev later) in
      ap (λ b. (nat_le t.inserted n && not (has set (group_of revisions t.inserted))) && b)
      (list_all-append test t.deleted (rev ∷ []) ∙ ap (λ b. list_all test t.deleted && (b && true)) spared ∙ and-true (list_all test t.deleted))

pub hidden_under_then-later : (h : History) (r : RevStep) (set : List ℕ) (n : ℕ) → Follows h r → n ≤ head h →
    map (is_hidden_under (after_revision h r) set n) (union_at (after_revision h r) n) ≡ map (is_hidden_under h set n) (union_at h n)
hidden_under_then-later h (Edit e) set n next within =
    ap (λ f. map f (union_at (after_edit h e) n)) (λ i t. not (shown_under set h.revisions (edit_revision e) n within t i)) ∙
    union_same (is_hidden_under h set n) h e n (λ t. ap not (deleted_under set h.revisions n (head h + 1) t (omega arith))) next within
hidden_under_then-later h (Undo groups) set n next within =
    ap (λ f. map f (union_at h n)) (λ i t. not (shown_under set h.revisions (undo (undone_by h groups)) n within t i))

-- at the head the union of a revision is the present one
pub hidden_then-head : (h : History) → IsSound h → hidden_then h (head h) ≡ dead_now h
hidden_then-head h sound = ap (λ xs. map (is_hidden h (head h)) xs) (filter-there (head h) h.characters sound)

-- ---- what is dead after a revision

pub length-dead_now : (h : History) → length (dead_now h) ≡ length h.characters
length-dead_now h = length-map h.characters (is_hidden h (head h))

not_not : (b : Bool) → not (not b) ≡ b
not_not true = refl
not_not false = refl

module _ (h : History) (e : RevEdit) (sound : IsSound h) (next : IsNext h e) where
  abbrev set_now : List ℕ
  set_now = undone_now h

  abbrev longer : List Tagged
  longer = with_new (new_by (head h + 1)) h.characters e.inserted

  abbrev hides : Tagged → Bool
  hides t = not (is_visible_under (h.revisions ++ edit_revision e ∷ []) set_now (head h + 1) t)

  now_is : dead_now (after_edit h e) ≡ map hides (with_deleted (head h + 1) longer e.deleted)
  now_is =
      ap (λ n. hidden_at (after_edit h e) n) (head-after_edit h e) ∙
      ap (λ set. map (λ t. not (is_visible_under (h.revisions ++ edit_revision e ∷ []) set (head h + 1) t)) (after_edit h e).characters)
      (undone-edit h.revisions e.base e.group e.priority e.author)

  longer_is : map hides longer ≡ expand_as (has (undone_now h) e.group) (dead_now h) e.inserted
  longer_is =
      map-with_new hides (new_by (head h + 1)) h.characters e.inserted next.grown ∙
      ap₂ (λ b flags. expand_as b flags e.inserted)
      (ap not (is_visible_under-new h.revisions e.base e.group e.priority e.author set_now 0) ∙ not_not (has (undone_now h) e.group))
      (map_where (IsTaggedBy (head h)) hides (is_hidden h (head h))
      (λ t is. ap not (is_visible_under-more h.revisions (edit_revision e) set_now t is)) h.characters sound)

  deleted_now : (t : Tagged) → hides (with_deletion (head h + 1) t) ≡ not (is_visible_under (h.revisions ++ edit_revision e ∷ []) set_now (head h + 1) t && has (undone_now h) e.group)
  deleted_now t = ap not (is_visible_under-deletion h.revisions e.base e.group e.priority e.author set_now t)

  by : (in_set : Bool) → has (undone_now h) e.group ≡ in_set → map hides (with_deleted (head h + 1) longer e.deleted) ≡ dead_after in_set (dead_now h) e
  by true is =
      map-with_deleted_same hides (head h + 1)
      (λ t. deleted_now t ∙ ap (λ b. not (is_visible_under (h.revisions ++ edit_revision e ∷ []) set_now (head h + 1) t && b)) is ∙
      ap not (and-true (is_visible_under (h.revisions ++ edit_revision e ∷ []) set_now (head h + 1) t))) longer e.deleted ∙
      longer_is ∙ ap (λ b. expand_as b (dead_now h) e.inserted) is
  by false is =
      map-with_deleted_set hides (head h + 1)
      (λ t. deleted_now t ∙ ap (λ b. not (is_visible_under (h.revisions ++ edit_revision e ∷ []) set_now (head h + 1) t && b)) is ∙
      ap not (and-false (is_visible_under (h.revisions ++ edit_revision e ∷ []) set_now (head h + 1) t))) longer e.deleted (length-new h e next) ∙
      ap (λ flags. union flags e.deleted) (longer_is ∙ ap (λ b. expand_as b (dead_now h) e.inserted) is)

  -- an edit hides what it deletes, or where its group is undone what it inserts
  pub dead_now-edit : dead_now (after_edit h e) ≡ dead_after (has (undone_now h) e.group) (dead_now h) e
  dead_now-edit = now_is ∙ by (has (undone_now h) e.group) refl

-- an undo hides what its set hides
pub dead_now-undid : (h : History) (set : List ℕ) → IsSound h → dead_now (undid h set) ≡ hidden_under h set (head h)
dead_now-undid h set sound =
    ap (λ n. hidden_at (undid h set) n) (head-undid h set) ∙
    ap (λ groups. hidden_under (undid h set) groups (head h + 1)) (undone-undo h.revisions set) ∙
    hidden_under-undid h set set sound

pub undone_now-edit : (h : History) (e : RevEdit) → undone_now (after_edit h e) ≡ undone_now h
undone_now-edit h e =
    ap (λ n. undone (after_edit h e).revisions n) (head-after_edit h e) ∙ undone-edit h.revisions e.base e.group e.priority e.author

pub undone_now-undid : (h : History) (set : List ℕ) → undone_now (undid h set) ≡ set
undone_now-undid h set = ap (λ n. undone (undid h set).revisions n) (head-undid h set) ∙ undone-undo h.revisions set

-- ---- what the newest revision is

all_there : (h : History) (r : RevStep) → IsSound h → union_at (after_revision h r) (head h + 1) ≡ (after_revision h r).characters
all_there h r sound =
    let Sound : ℕ → Type 0 = λ n. AllByRecursion (IsTaggedBy n) (after_revision h r).characters in
    filter-there (head h + 1) (after_revision h r).characters (subst Sound (head-after h r) (sound-after h r sound))

insertions_of-now : (h : History) (e : RevEdit) → IsSound h → IsNext h e → insertions_of (after_edit h e) (head h + 1) ≡ e.inserted
insertions_of-now h e sound next =
    let rev = head h + 1 in
    let f : Tagged → Bool = λ t. t.inserted == rev in
    ap (λ xs. map f xs) (all_there h (Edit e) sound)
    ∙ (map-with_deleted_same f rev (λ t. refl) (with_new (new_by rev) h.characters e.inserted) e.deleted
    ∙ (map-with_new f (new_by rev) h.characters e.inserted next.grown
    ∙ (ap (λ b. expand_as b (map f h.characters) e.inserted) (inserted_now rev)
    ∙ (ap (λ xs. expand_as true xs e.inserted) (none_inserted_later (head h) rev h.characters (omega arith) sound)
    ∙ expand_in_none (length h.characters) e.inserted next.grown))))

deletions_of-now : (h : History) (e : RevEdit) → IsSound h → IsNext h e → deletions_of (after_edit h e) (head h + 1) ≡ e.deleted
deletions_of-now h e sound next =
    let rev = head h + 1 in
    ap (λ xs. map (λ t. has t.deleted rev) xs) (all_there h (Edit e) sound)
    ∙ deletions-with_deleted rev (with_new (new_by rev) h.characters e.inserted) e.deleted (length-new h e next) (none_deleted_by (head h) rev h.characters e.inserted (omega arith) sound)

IsEditAt-now : (h : History) (e : RevEdit) → IsSound h → IsNext h e → IsEditAt (after_edit h e) (head h + 1) e
IsEditAt-now h e sound next = record {
  said = revision_at-push h.revisions (edit_revision e);
  inserted = sym (insertions_of-now h e sound next);
  deleted = sym (deletions_of-now h e sound next);
}

IsUndoAt-now : (h : History) (groups : List ℕ) → IsSound h → IsUndoAt (undid h (undone_by h groups)) (head h + 1) groups
IsUndoAt-now h groups sound =
    let set : List ℕ = undone_by h groups in
    let more : List Revision = h.revisions ++ undo set ∷ [] in
    let before : head h + 1 - 1 ≡ head h = omega arith in
    record {
      said = revision_at-push h.revisions (undo set) ∙ ap (λ s. Some (undo s)) (sym (undone-undo h.revisions set));
      differs =
          undone-undo h.revisions set ∙
          ap (λ s. flipped s groups) (sym (ap (λ n. undone more n) before ∙ undone-append h.revisions (undo set ∷ []) (head h) (omega arith)));
      inserts_none =
          ap (λ xs. count (map (λ t. t.inserted == head h + 1) xs)) (all_there h (Undo groups) sound) ∙
          ap count (none_inserted_later (head h) (head h + 1) h.characters (omega arith) sound) ∙ count-replicate_false (length h.characters);
      deletes_none =
          ap (λ xs. count (map (λ t. has t.deleted (head h + 1)) xs)) (all_there h (Undo groups) sound) ∙
          ap count (none_deleted_later (head h) (head h + 1) h.characters (omega arith) sound) ∙ count-replicate_false (length h.characters);
    }

pub IsRevisionAt-now : (h : History) (r : RevStep) → IsSound h → Follows h r → IsRevisionAt (after_revision h r) (head h + 1) r
IsRevisionAt-now h (Edit e) sound next = IsEditAt-now h e sound next
IsRevisionAt-now h (Undo groups) sound next = IsUndoAt-now h groups sound

-- ---- what an earlier revision is

-- the revision that comes last
abbrev pub last_of : History → RevStep → Revision
last_of h (Edit e) = edit_revision e
last_of h (Undo groups) = undo (undone_by h groups)

pub revisions-after : (h : History) (r : RevStep) → (after_revision h r).revisions ≡ h.revisions ++ last_of h r ∷ []
revisions-after h (Edit e) = refl
revisions-after h (Undo groups) = refl

pub said_then : (h : History) (r : RevStep) (rev : ℕ) → rev ≤ head h → revision_at (after_revision h r).revisions rev ≡ revision_at h.revisions rev
said_then h r rev le = ap (λ rs. revision_at rs rev) (revisions-after h r) ∙ revision_at-append h.revisions (last_of h r ∷ []) rev le

undone_then : (h : History) (r : RevStep) (rev : ℕ) → rev ≤ head h → undone (after_revision h r).revisions rev ≡ undone h.revisions rev
undone_then h r rev le = ap (λ rs. undone rs rev) (revisions-after h r) ∙ undone-append h.revisions (last_of h r ∷ []) rev le

pub IsRevisionAt-later : (h : History) (r d : RevStep) (rev : ℕ) → Follows h r → rev ≤ head h → IsRevisionAt h rev d → IsRevisionAt (after_revision h r) rev d
IsRevisionAt-later h r (Edit e) rev next le is = record {
  said = said_then h r rev le ∙ is.said;
  inserted = is.inserted ∙ sym (insertions_of-later h r rev next le);
  deleted = is.deleted ∙ sym (deletions_of-later h r rev next le);
}
IsRevisionAt-later h r (Undo groups) rev next le is = record {
  said = said_then h r rev le ∙ is.said ∙ ap (λ s. Some (undo s)) (sym (undone_then h r rev le));
  differs =
      undone_then h r rev le ∙ is.differs ∙ ap (λ s. flipped s groups) (sym (undone_then h r (rev - 1) (omega (arith, le))));
  inserts_none = ap count (insertions_of-later h r rev next le) ∙ is.inserts_none;
  deletes_none = ap count (deletions_of-later h r rev next le) ∙ is.deletes_none;
}
