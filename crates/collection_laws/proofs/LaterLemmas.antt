-- What is left after an undo is the undo of what was left: a later revision changes nothing of what was settled.
use Rattle.std.proofs.Common.{◌≡◌, ℕ, zero, suc, ◌+◌, ◌<◌, ◌≤◌, Bool, true, false, cond, not, ◌&&◌, ◌||◌, if◌then◌else◌, nat_lt, ◌==◌, List, [], ◌∷◌, ◌++◌, length, map, drop, filter, fold, refl, ap, ap₂, sym, ◌∙◌, arith, append_assoc, length-append}
use Rattle.std.specs.List.{AllByRecursion, list_any, range_with_len}
use Rattle.std.proofs.lemmas.Bool.{both_ways, eqb-true, lt-ltb}
use Rattle.std.proofs.lemmas.List.{drop-append-le}
use Rattle.std.proofs.lemmas.List.Folds.{list_any-append}
use Rattle.std.proofs.Math.Bool.{or-false}
use Rattle.plain_text.specs.Numbers.{has, with_number, IsRising}
use Rattle.plain_text.proofs.callers.ListLemmas.{AllByRecursion-append, filter_same}
use Rattle.plain_edits.specs.History.{Tagged, inserted_by, Revision, edit, undo, History, head, revision_at, edit_group, group_of, undone, is_undone, IsTaggedBy, IsSound}
use Rattle.plain_edits.specs.Edits.{undid, with_deletion}
use Rattle.plain_edits.specs.Collection.{is_collected, is_dropped}
use Rattle.plain_edits.specs.HistorySteps.{undoes, MayUndoSet, is_edit}
use Rattle.plain_edits.proofs.callers.HistoryLemmas.{revision_at-append, revision_at-push, group_of-append, undone-append, undone-edit}
use Rattle.plain_edits.proofs.callers.CollectionLemmas.{Keeps, keeps-after_step}
use Rattle.collection_laws.specs.MayForget.{MayForget}
use Rattle.collection_laws.specs.Left.{is_kept, last_edit, settled_rev, settled_deletions, settled, settled_revision, left_of}
use Rattle.collection_laws.proofs.ListLemmas.{sifted, map-map-same, rising_same, AllByRecursion-filter}
use Rattle.collection_laws.proofs.SettledLemmas.{settled_deletions-le, settled_rev-after, has-settled_deletions, IsRising-settled_deletions}

pub last_edit-append : (revisions more : List Revision) (group most : ℕ) → most ≤ length revisions →
    last_edit (revisions ++ more) group most ≡ last_edit revisions group most
last_edit-append revisions more group zero within = refl
last_edit-append revisions more group (suc most) within =
    ap₂ (λ r n. if is_edit r && edit_group r == group then suc most else n) (revision_at-append revisions more (suc most) within)
    (last_edit-append revisions more group most (omega (arith, within)))

pub map-range_same : {X : Type 0} (f g : ℕ → X) (from n : ℕ) → ((k : ℕ) → from ≤ k → k < from + n → f k ≡ g k) →
    map f (range_with_len from n) ≡ map g (range_with_len from n)
map-range_same f g from zero same = refl
map-range_same f g from (suc n) same =
    ap₂ (λ x xs. x ∷ xs) (same from (omega arith) (omega arith))
    (map-range_same f g (from + 1) n (λ k low high. same k (omega (arith, low)) (omega (arith, high))))

both_same : (a a' b b' : Bool) → a ≡ a' → (a' ≡ true → b ≡ b') → (a && b) ≡ (a' && b')
both_same a true b b' same rest = ap₂ (λ x y. x && y) same (rest refl)
both_same a false b b' same rest = ap (λ x. x && b) same

pub some_same : (Q : ℕ → Type 0) (p q : ℕ → Bool) (xs : List ℕ) → ((x : ℕ) → Q x → p x ≡ q x) → AllByRecursion Q xs → list_any p xs ≡ list_any q xs
some_same Q p q [] same each = refl
some_same Q p q (x ∷ xs) same each = ap₂ (λ a b. a || b) (same x each.0) (some_same Q p q xs same each.1)

-- a history with one more revision, which leaves collected groups undone or not
module _ (history : History) (last : Revision) (characters : List Tagged) (within : history.floor ≤ head history) where
  abbrev pub later : History
  later = record { characters = characters; revisions = history.revisions ++ last ∷ []; floor = history.floor; collected = history.collected }

  pub settled_rev-later : (rev : ℕ) → rev ≤ head history → settled_rev later rev ≡ settled_rev history rev
  settled_rev-later rev below =
      ap (λ r. if nat_lt history.floor rev then rev else (
      if is_edit r && not (has history.collected (edit_group r)) then last_edit (history.revisions ++ last ∷ []) (edit_group r) history.floor else 0))
      (revision_at-append history.revisions (last ∷ []) rev below) ∙
      ap (λ n. if nat_lt history.floor rev then rev else (
      if is_edit (revision_at history.revisions rev) && not (is_collected history rev) then n else 0))
      (last_edit-append history.revisions (last ∷ []) (group_of history.revisions rev) history.floor within)

  pub settled_deletions-later : (deleted : List ℕ) → AllByRecursion (λ rev. rev ≤ head history) deleted →
      settled_deletions later deleted ≡ settled_deletions history deleted
  settled_deletions-later deleted each =
      ap (λ revs. fold with_number [] (filter (nat_lt 0) revs))
      (map-map-same (λ rev. rev ≤ head history) (settled_rev later) (settled_rev history) deleted settled_rev-later each)

  pub settled-later : (tagged : Tagged) → IsTaggedBy (head history) tagged → settled later tagged ≡ settled history tagged
  settled-later tagged is =
      ap₂ (λ n ns. record { character = tagged.character; inserted = n; deleted = ns }) (settled_rev-later tagged.inserted is.inserted)
      (settled_deletions-later tagged.deleted is.deleted)

  settled_revision-later : (rev : ℕ) → rev ≤ history.floor → settled_revision later rev ≡ settled_revision history rev
  settled_revision-later rev below =
      ap (λ n. if n == rev then edit 0 (group_of (history.revisions ++ last ∷ []) rev) 0 0 else undo (undone (history.revisions ++ last ∷ []) history.floor))
      (settled_rev-later rev (omega (arith, below, within))) ∙
      ap₂ (λ g set. if settled_rev history rev == rev then edit 0 g 0 0 else undo set)
      (group_of-append history.revisions (last ∷ []) rev (omega (arith, below, within)))
      (undone-append history.revisions (last ∷ []) history.floor within)

  pub revisions-later : (left_of later).revisions ≡ (left_of history).revisions ++ last ∷ []
  revisions-later =
      ap₂ (λ before after. before ++ after)
      (map-range_same (settled_revision later) (settled_revision history) 1 history.floor (λ k low high. settled_revision-later k (omega (arith, high))))
      (drop-append-le history.floor history.revisions (last ∷ []) within) ∙
      sym (append_assoc (map (settled_revision history) (range_with_len 1 history.floor)) (drop history.floor history.revisions) (last ∷ []))

  -- where it leaves the collected groups of revisions undone or not
  abbrev pub LeavesUndone : Type 0
  LeavesUndone = (rev : ℕ) → rev ≤ head history → is_collected history rev ≡ true →
      is_undone later.revisions (head later) rev ≡ is_undone history.revisions (head history) rev

  pub leaves_undone : Keeps history later → LeavesUndone
  leaves_undone keeps rev below is =
      ap (has (undone later.revisions (head later))) (keeps.groups rev below) ∙ keeps.settled (group_of history.revisions rev) is

  module _ (leaves : LeavesUndone) where
    pub is_dropped-later : (tagged : Tagged) → IsTaggedBy (head history) tagged → is_dropped later tagged ≡ is_dropped history tagged
    is_dropped-later tagged is =
        ap₂ (λ a b. a || b)
        (both_same (is_collected later tagged.inserted) (is_collected history tagged.inserted) _ _ (collected tagged.inserted is.inserted)
        (leaves tagged.inserted is.inserted))
        (some_same (λ rev. rev ≤ head history) (λ rev. is_collected later rev && not (is_undone later.revisions (head later) rev))
        (λ rev. is_collected history rev && not (is_undone history.revisions (head history) rev)) tagged.deleted
        (λ rev below. both_same (is_collected later rev) (is_collected history rev) _ _ (collected rev below) (λ is_so. ap not (leaves rev below is_so)))
        is.deleted)
      where
        collected : (rev : ℕ) → rev ≤ head history → is_collected later rev ≡ is_collected history rev
        collected rev below = ap (has history.collected) (group_of-append history.revisions (last ∷ []) rev below)

    pub sifted-later : (xs : List Tagged) → AllByRecursion (IsTaggedBy (head history)) xs →
        sifted (is_kept later) (settled later) xs ≡ sifted (is_kept history) (settled history) xs
    sifted-later xs each =
        ap (map (settled later)) (filter_same (IsTaggedBy (head history)) (is_kept later) (is_kept history)
        (λ tagged is. ap not (is_dropped-later tagged is)) xs each) ∙
        map-map-same (λ tagged. IsTaggedBy (head history) tagged × (is_kept history tagged ≡ true)) (settled later) (settled history)
        (filter (is_kept history) xs) (λ tagged both. settled-later tagged both.0)
        (AllByRecursion-filter (IsTaggedBy (head history)) (is_kept history) xs each)

-- ---- one more edit, of a group that is not collected

IsRising-push : (top n : ℕ) (numbers : List ℕ) → AllByRecursion (λ m. m ≤ top) numbers → top < n → IsRising numbers → IsRising (numbers ++ n ∷ [])
IsRising-push top n [] below above up = (tt, tt)
IsRising-push top n (m ∷ numbers) below above up =
    (AllByRecursion-append (λ k. m < k) numbers (n ∷ []) up.0 (omega (arith, below.0), tt), IsRising-push top n numbers below.1 above up.1)

module _ (history : History) (base group priority author : ℕ) (characters : List Tagged) (within : history.floor ≤ head history)
    (is_open : has history.collected group ≡ false) where
  abbrev made : Revision
  made = edit base group priority author

  abbrev new_rev : ℕ
  new_rev = head history + 1

  abbrev pub next : History
  next = later history made characters within

  past : history.floor < new_rev
  past = omega (arith, within)

  pub leaves-edit : LeavesUndone history made characters within
  leaves-edit rev below is =
      (let more : head next ≡ new_rev = length-append history.revisions (made ∷ []) in
      ap (λ at. is_undone next.revisions at rev) more) ∙
      ap₂ (λ set g. has set g) (undone-edit history.revisions base group priority author) (group_of-append history.revisions (made ∷ []) rev below)

  is_collected-new : is_collected next new_rev ≡ false
  is_collected-new = ap (λ r. has history.collected (edit_group r)) (revision_at-push history.revisions made) ∙ is_open

  pub is_kept-old : (tagged : Tagged) → IsTaggedBy (head history) tagged → is_kept next tagged ≡ is_kept history tagged
  is_kept-old tagged is = ap not (is_dropped-later history made characters within leaves-edit tagged is)

  -- a new character is kept, and settled as it is
  pub is_kept-new : (c : ℕ) → is_kept next (inserted_by new_rev c) ≡ true
  is_kept-new c = ap (λ b. not (b && is_undone next.revisions (head next) new_rev || false)) is_collected-new

  pub settled-new : (c : ℕ) → settled next (inserted_by new_rev c) ≡ inserted_by new_rev c
  settled-new c = ap (λ n. record { character = c; inserted = n; deleted = [] }) (settled_rev-after next new_rev past)

  -- one more deletion, settled
  settled_deletions-push : (deleted : List ℕ) → AllByRecursion (λ rev. rev ≤ head history) deleted →
      settled_deletions next (deleted ++ new_rev ∷ []) ≡ settled_deletions history deleted ++ new_rev ∷ []
  settled_deletions-push deleted each =
      rising_same (settled_deletions next (deleted ++ new_rev ∷ [])) (settled_deletions history deleted ++ new_rev ∷ [])
      (IsRising-settled_deletions next (deleted ++ new_rev ∷ []))
      (IsRising-push (head history) new_rev (settled_deletions history deleted) (settled_deletions-le history deleted within each)
      (omega arith) (IsRising-settled_deletions history deleted)) same
    where
      some : (revs : List ℕ) → AllByRecursion (λ rev. rev ≤ head history) revs → (n : ℕ) →
          list_any (λ rev. settled_rev next rev == n) revs ≡ list_any (λ rev. settled_rev history rev == n) revs
      some [] below n = refl
      some (rev ∷ revs) below n =
          ap₂ (λ m b. m == n || b) (settled_rev-later history made characters within rev below.0) (some revs below.1 n)

      join : (a b c : Bool) → (c ≡ true → a ≡ true) → (a && (b || (c || false))) ≡ ((a && b) || (c || false))
      join true b c up = refl
      join false b true up = absurd (both_ways false refl (up refl))
      join false b false up = refl

      same : (n : ℕ) → has (settled_deletions next (deleted ++ new_rev ∷ [])) n ≡ has (settled_deletions history deleted ++ new_rev ∷ []) n
      same n =
          has-settled_deletions next (deleted ++ new_rev ∷ []) n ∙
          ap (λ b. nat_lt 0 n && b) (list_any-append (λ rev. settled_rev next rev == n) deleted (new_rev ∷ []) ∙
          ap₂ (λ a m. a || (m == n || false)) (some deleted each n) (settled_rev-after next new_rev past)) ∙
          join (nat_lt 0 n) (list_any (λ rev. settled_rev history rev == n) deleted) (new_rev == n)
          (λ is. lt-ltb 0 n (omega (arith, eqb-true new_rev n is))) ∙
          sym (list_any-append (λ m. m == n) (settled_deletions history deleted) (new_rev ∷ []) ∙
          ap (λ b. b || (new_rev == n || false)) (has-settled_deletions history deleted n))

  pub is_kept-deleted : (tagged : Tagged) → IsTaggedBy (head history) tagged → is_kept next (with_deletion new_rev tagged) ≡ is_kept history tagged
  is_kept-deleted tagged is =
      ap (λ b. not (gone || b)) (list_any-append lasts tagged.deleted (new_rev ∷ []) ∙
      ap (λ b. list_any lasts tagged.deleted || (b && not (is_undone next.revisions (head next) new_rev) || false)) is_collected-new ∙
      or-false (list_any lasts tagged.deleted)) ∙ is_kept-old tagged is
    where
      lasts : ℕ → Bool
      lasts rev = is_collected next rev && not (is_undone next.revisions (head next) rev)

      gone : Bool
      gone = is_collected next tagged.inserted && is_undone next.revisions (head next) tagged.inserted

  pub settled-deleted : (tagged : Tagged) → IsTaggedBy (head history) tagged →
      settled next (with_deletion new_rev tagged) ≡ with_deletion new_rev (settled history tagged)
  settled-deleted tagged is =
      ap₂ (λ n ns. record { character = tagged.character; inserted = n; deleted = ns })
      (settled_rev-later history made characters within tagged.inserted is.inserted)
      (settled_deletions-push tagged.deleted is.deleted)

  -- a new character that the same edit deletes
  pub is_kept-new_deleted : (c : ℕ) → is_kept next (with_deletion new_rev (inserted_by new_rev c)) ≡ true
  is_kept-new_deleted c =
      ap (λ b. not (b && is_undone next.revisions (head next) new_rev || (b && not (is_undone next.revisions (head next) new_rev) || false)))
      is_collected-new

  pub settled-new_deleted : (c : ℕ) → settled next (with_deletion new_rev (inserted_by new_rev c)) ≡ with_deletion new_rev (inserted_by new_rev c)
  settled-new_deleted c =
      ap (λ n. record { character = c; inserted = n; deleted = fold with_number [] (filter (nat_lt 0) (n ∷ [])) })
      (settled_rev-after next new_rev past) ∙
      ap (λ b. record { character = c; inserted = new_rev; deleted = fold with_number [] (cond b (new_rev ∷ []) []) }) (lt-ltb 0 new_rev (omega arith))

-- THE UNDO STEP goes along
pub left_of-undid_by : (history : History) (groups : List ℕ) (within : history.floor ≤ head history) → IsSound history →
    LeavesUndone history (undo groups) history.characters within → left_of (undid history groups) ≡ undid (left_of history) groups
left_of-undid_by history groups within sound leaves =
    ap₂ (λ characters revisions. record { characters = characters; revisions = revisions; floor = history.floor; collected = history.collected })
    (sifted-later history (undo groups) history.characters within leaves history.characters sound)
    (revisions-later history (undo groups) history.characters within)

pub left_of-undid : (history : History) (groups : List ℕ) → MayForget history → MayUndoSet history groups →
    left_of (undid history groups) ≡ undid (left_of history) groups
left_of-undid history groups forgets may =
    left_of-undid_by history groups forgets.formed.floor forgets.formed.sound
    (leaves_undone history (undo groups) history.characters forgets.formed.floor (keeps-after_step history (undoes groups) may))
