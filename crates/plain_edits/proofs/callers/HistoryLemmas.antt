-- Lemmas on histories: what is visible at a revision, and what a step adds.
use Rattle.std.proofs.Common.{◌≡◌, ℕ, zero, suc, ◌+◌, ◌<◌, ◌≤◌, Bool, true, false, cond, not, ◌&&◌, ◌||◌, if◌then◌else◌, nat_lt, nat_le, ◌==◌, List, [], ◌∷◌, ◌++◌, length, map, filter, Some, slice_get, refl, ap, ap₂, sym, ◌∙◌, arith, add-one, take_all}
use Rattle.std.specs.List.{AllByRecursion, list_all}
use Rattle.std.proofs.lemmas.Bool.{lt-ltb, lt-leb}
use Rattle.std.proofs.lemmas.Bool.Decides.{nat_tests}
use Rattle.std.proofs.lemmas.List.{take-append-le, map-append, length_push}
use Rattle.std.proofs.lemmas.List.Elements.{filter-append}
use Rattle.plain_text.specs.Numbers.{has}
use Rattle.plain_edits.specs.History.{Tagged, Revision, edit, undo, History, loaded, head, revision_at, edit_group, edit_rank, group_of, rank_of, undone_after, undone, is_undone, is_visible, text_at, IsTaggedBy, IsSound}
use Rattle.plain_edits.specs.Edits.{PlainEdit, inserted_at, is_deleted_by, with_deletion, edited, undid, insertion_rank}
use Rattle.plain_edits.specs.Place.{insertion_place}
use Rattle.plain_text.proofs.callers.ListLemmas.{AllByRecursion-append, AllByRecursion-weaker, AllByRecursion-map, AllByRecursion-flat_map, AllByRecursion-woven, at-woven, woven_same, woven_nothing, filter_same, list_all_same, filter_none}
use Rattle.std.proofs.lemmas.List.Folds.{list_all-append}
use Rattle.std.proofs.Math.Bool.{and-true}

-- a character of the first revisions is one of more revisions
pub IsTaggedBy-more : (some more : ℕ) (tagged : Tagged) → some ≤ more → IsTaggedBy some tagged → IsTaggedBy more tagged
IsTaggedBy-more some more tagged below is = record {
  inserted = omega (arith, is.inserted);
  deleted = AllByRecursion-weaker (λ rev. rev ≤ some) (λ rev. rev ≤ more) (λ rev within. omega arith) tagged.deleted is.deleted;
}

pub IsTaggedBy-inserted : (rev c : ℕ) → IsTaggedBy rev (record { character = c; inserted = rev; deleted = [] })
IsTaggedBy-inserted rev c = record { inserted = omega arith; deleted = tt }

pub IsTaggedBy-deleted : (head : ℕ) (tagged : Tagged) → IsTaggedBy head tagged → IsTaggedBy (head + 1) (with_deletion (head + 1) tagged)
IsTaggedBy-deleted head tagged is = record {
  inserted = omega (arith, is.inserted);
  deleted =
      AllByRecursion-append (λ rev. rev ≤ head + 1) tagged.deleted ((head + 1) ∷ [])
      (AllByRecursion-weaker (λ rev. rev ≤ head) (λ rev. rev ≤ head + 1) (λ rev within. omega arith) tagged.deleted is.deleted)
      (omega arith, tt);
}

-- what holds of each character that the edit may insert holds of all that it inserts at an index
pub AllByRecursion-inserted_at : (P : Tagged → Type 0) (history : History) (e : PlainEdit) →
    ((c : ℕ) → P (record { character = c; inserted = head history + 1; deleted = [] })) →
    (index : ℕ) → AllByRecursion P (inserted_at history e index)
AllByRecursion-inserted_at P history e holds index =
    AllByRecursion-flat_map P _ (λ gap. at_gap gap (insertion_place history e.base (insertion_rank e) gap == index)) _
  where
    at_gap : (gap : ℕ) (here : Bool) → AllByRecursion P (if here
        then map (λ c. record { character = c; inserted = head history + 1; deleted = [] }) (e.added gap) else [])
    at_gap gap true = AllByRecursion-map P _ holds (e.added gap)
    at_gap gap false = tt

IsTaggedBy-kept : (history : History) (e : PlainEdit) (index : ℕ) (tagged : Tagged) → IsTaggedBy (head history) tagged → (dropped : Bool) →
    IsTaggedBy (head history + 1) (if dropped then with_deletion (head history + 1) tagged else tagged)
IsTaggedBy-kept history e index tagged is true = IsTaggedBy-deleted (head history) tagged is
IsTaggedBy-kept history e index tagged is false = IsTaggedBy-more (head history) (head history + 1) tagged (omega arith) is

-- what the edit makes of a character
abbrev pub becomes : History → PlainEdit → ℕ → Tagged → List Tagged
becomes history e index tagged = (if is_deleted_by history e index tagged then with_deletion (head history + 1) tagged else tagged) ∷ []

-- a sound history stays sound
pub IsSound-loaded : (text : List ℕ) → IsSound (loaded text)
IsSound-loaded text =
    AllByRecursion-map (IsTaggedBy 0) (λ c. record { character = c; inserted = 0; deleted = [] }) (λ c. IsTaggedBy-inserted 0 c) text

pub IsSound-edited : (history : History) (e : PlainEdit) → IsSound history → IsSound (edited history e)
IsSound-edited history e sound =
    rw (length_push history.revisions (edit e.base e.group e.priority e.author))
    (AllByRecursion-woven (IsTaggedBy (head history + 1)) (IsTaggedBy (head history)) (inserted_at history e) (becomes history e)
    (AllByRecursion-inserted_at (IsTaggedBy (head history + 1)) history e (λ c. IsTaggedBy-inserted (head history + 1) c))
    (λ index tagged is. (IsTaggedBy-kept history e index tagged is (is_deleted_by history e index tagged), tt)) 0 history.characters sound)

pub IsSound-undid : (history : History) (groups : List ℕ) → IsSound history → IsSound (undid history groups)
IsSound-undid history groups sound =
    rw (length_push history.revisions (undo groups))
    (AllByRecursion-weaker (IsTaggedBy (head history)) (IsTaggedBy (head history + 1))
    (λ tagged is. IsTaggedBy-more (head history) (head history + 1) tagged (omega arith) is) history.characters sound)

-- the revisions before the later ones
pub slice_get-append : {X : Type 0} (n : ℕ) (xs ys : List X) → n < length xs → slice_get (xs ++ ys) n ≡ slice_get xs n
slice_get-append n [] ys below = absurd (omega arith)
slice_get-append zero (x ∷ xs) ys below = refl
slice_get-append (suc n) (x ∷ xs) ys below = slice_get-append n xs ys (omega arith)

pub slice_get-push : {X : Type 0} (xs : List X) (y : X) → slice_get (xs ++ y ∷ []) (length xs) ≡ Some y
slice_get-push [] y = refl
slice_get-push (x ∷ xs) y = slice_get-push xs y

pub revision_at-append : (revisions more : List Revision) (rev : ℕ) → rev ≤ length revisions →
    revision_at (revisions ++ more) rev ≡ revision_at revisions rev
revision_at-append revisions more zero within = refl
revision_at-append revisions more (suc rev) within = slice_get-append rev revisions more (omega arith)

pub revision_at-push : (revisions : List Revision) (last : Revision) → revision_at (revisions ++ last ∷ []) (length revisions + 1) ≡ Some last
revision_at-push revisions last = rw add-one (slice_get-push revisions last)

pub group_of-append : (revisions more : List Revision) (rev : ℕ) → rev ≤ length revisions →
    group_of (revisions ++ more) rev ≡ group_of revisions rev
group_of-append revisions more rev within = ap edit_group (revision_at-append revisions more rev within)

pub rank_of-append : (revisions more : List Revision) (rev : ℕ) → rev ≤ length revisions →
    rank_of (revisions ++ more) rev ≡ rank_of revisions rev
rank_of-append revisions more rev within = ap edit_rank (revision_at-append revisions more rev within)

pub undone-append : (revisions more : List Revision) (at : ℕ) → at ≤ length revisions → undone (revisions ++ more) at ≡ undone revisions at
undone-append revisions more at within = ap (undone_after []) (take-append-le at revisions more within)

-- the groups that are undone after one more revision
pub undone_after-append : (groups : List ℕ) (revisions more : List Revision) →
    undone_after groups (revisions ++ more) ≡ undone_after (undone_after groups revisions) more
undone_after-append groups [] more = refl
undone_after-append groups (edit base group priority author ∷ revisions) more = undone_after-append groups revisions more
undone_after-append groups (undo undone ∷ revisions) more = undone_after-append undone revisions more

pub undone_all : (revisions : List Revision) → undone revisions (length revisions) ≡ undone_after [] revisions
undone_all revisions = ap (undone_after []) (take_all (length revisions) revisions (omega arith))

undone-push : (revisions : List Revision) (last : Revision) →
    undone (revisions ++ last ∷ []) (length revisions + 1) ≡ undone_after (undone revisions (length revisions)) (last ∷ [])
undone-push revisions last =
    ap (undone_after []) (take_all (length revisions + 1) (revisions ++ last ∷ []) (omega (arith, length_push revisions last))) ∙
    undone_after-append [] revisions (last ∷ []) ∙ ap (λ groups. undone_after groups (last ∷ [])) (sym (undone_all revisions))

pub undone-edit : (revisions : List Revision) (base group priority author : ℕ) →
    undone (revisions ++ edit base group priority author ∷ []) (length revisions + 1) ≡ undone revisions (length revisions)
undone-edit revisions base group priority author = undone-push revisions (edit base group priority author)

pub undone-undo : (revisions : List Revision) (groups : List ℕ) → undone (revisions ++ undo groups ∷ []) (length revisions + 1) ≡ groups
undone-undo revisions groups = undone-push revisions (undo groups)

-- a character is as visible where as much is undone and its revisions have the same groups
pub is_visible_same : (revisions others : List Revision) (at after : ℕ) (tagged : Tagged) → IsTaggedBy at tagged → at ≤ after →
    undone others after ≡ undone revisions at → ((rev : ℕ) → rev ≤ at → group_of others rev ≡ group_of revisions rev) →
    is_visible others after tagged ≡ is_visible revisions at tagged
is_visible_same revisions others at after tagged is later same groups =
    let undone_alike : (rev : ℕ) → rev ≤ at → is_undone others after rev ≡ is_undone revisions at rev =
    λ rev within. ap₂ has same (groups rev within) in
    let come : nat_le tagged.inserted after ≡ nat_le tagged.inserted at = grind (arith, nat_tests, is.inserted) in
    let gone : (rev : ℕ) → rev ≤ at → nat_lt after rev ≡ nat_lt at rev = λ rev within. grind (arith, nat_tests) in
    ap₂ (λ a b. a && b) (ap₂ (λ a b. a && not b) come (undone_alike tagged.inserted is.inserted))
    (list_all_same (λ rev. rev ≤ at) (λ rev. nat_lt after rev || is_undone others after rev) (λ rev. nat_lt at rev || is_undone revisions at rev)
    (λ rev within. ap₂ (λ a b. a || b) (gone rev within) (undone_alike rev within)) tagged.deleted is.deleted)

-- what is visible at a revision does not depend on the later ones
pub is_visible-append : (revisions more : List Revision) (at : ℕ) (tagged : Tagged) → at ≤ length revisions →
    IsTaggedBy (length revisions) tagged → is_visible (revisions ++ more) at tagged ≡ is_visible revisions at tagged
is_visible-append revisions more at tagged within is =
    let undone_alike : (rev : ℕ) → rev ≤ length revisions → is_undone (revisions ++ more) at rev ≡ is_undone revisions at rev =
    λ rev below. ap₂ has (undone-append revisions more at within) (group_of-append revisions more rev below) in
    ap₂ (λ a b. nat_le tagged.inserted at && not a && b) (undone_alike tagged.inserted is.inserted)
    (list_all_same (λ rev. rev ≤ length revisions) (λ rev. nat_lt at rev || is_undone (revisions ++ more) at rev)
    (λ rev. nat_lt at rev || is_undone revisions at rev)
    (λ rev below. ap (λ b. nat_lt at rev || b) (undone_alike rev below)) tagged.deleted is.deleted)

-- a deletion by a later revision hides nothing
pub is_visible-deleted_later : (revisions : List Revision) (at rev : ℕ) (tagged : Tagged) → at < rev →
    is_visible revisions at (with_deletion rev tagged) ≡ is_visible revisions at tagged
is_visible-deleted_later revisions at rev tagged later =
    let test : ℕ → Bool = λ r. nat_lt at r || is_undone revisions at r in
    let hides : test rev ≡ true = ap (λ b. b || is_undone revisions at rev) (lt-ltb at rev later) in
    ap (λ b. nat_le tagged.inserted at && not (is_undone revisions at tagged.inserted) && b)
    (list_all-append test tagged.deleted (rev ∷ []) ∙ ap (λ b. list_all test tagged.deleted && (b && true)) hides ∙
    and-true (list_all test tagged.deleted))

-- a character of a later revision is not visible
pub is_visible-later : (revisions : List Revision) (at : ℕ) (tagged : Tagged) → at < tagged.inserted → is_visible revisions at tagged ≡ false
is_visible-later revisions at tagged later =
    ap (λ b. b && not (is_undone revisions at tagged.inserted) && list_all (λ rev. nat_lt at rev || is_undone revisions at rev) tagged.deleted)
    (lt-leb tagged.inserted at later)

-- the text that a test shows
abbrev pub shown : (Tagged → Bool) → List Tagged → List ℕ
shown test characters = map (λ tagged. tagged.character) (filter test characters)

pub shown-append : (test : Tagged → Bool) (xs ys : List Tagged) → shown test (xs ++ ys) ≡ shown test xs ++ shown test ys
shown-append test xs ys =
    ap (map (λ tagged. tagged.character)) (filter-append test xs ys) ∙
    map-append (λ tagged. tagged.character) (filter test xs) (filter test ys)

pub shown_same : (Q : Tagged → Type 0) (p q : Tagged → Bool) → ((x : Tagged) → Q x → p x ≡ q x) →
    (xs : List Tagged) → AllByRecursion Q xs → shown p xs ≡ shown q xs
shown_same Q p q agree xs each = ap (map (λ tagged. tagged.character)) (filter_same Q p q agree xs each)

-- where a test passes nothing that an edit inserts, and each old character as another test did, the same text is shown
pub shown-edited : (now before : Tagged → Bool) (history : History) (e : PlainEdit) → IsSound history →
    ((c : ℕ) → now (record { character = c; inserted = head history + 1; deleted = [] }) ≡ false) →
    ((x : Tagged) → IsTaggedBy (head history) x → now (with_deletion (head history + 1) x) ≡ before x) →
    ((x : Tagged) → IsTaggedBy (head history) x → now x ≡ before x) →
    shown now (edited history e).characters ≡ shown before history.characters
shown-edited now before history e sound new deleted kept =
    at-woven (shown now) (shown-append now) (inserted_at history e) (becomes history e) 0 history.characters ∙
    woven_same (IsTaggedBy (head history)) (λ i. shown now (inserted_at history e i)) (λ i. [])
    (λ i x. shown now (becomes history e i x)) (λ i x. shown before (x ∷ []))
    (λ i. ap (map (λ tagged. tagged.character)) (filter_none now (inserted_at history e i)
    (AllByRecursion-inserted_at (λ tagged. now tagged ≡ false) history e new i)))
    (λ i x is. alike x is (is_deleted_by history e i x)) 0 history.characters sound ∙
    woven_nothing (shown before) refl (λ x xs. shown-append before (x ∷ []) xs) 0 history.characters
  where
    same : (x : Tagged) (b : Bool) → map (λ tagged. tagged.character) (cond b (with_deletion (head history + 1) x ∷ []) []) ≡
        map (λ tagged. tagged.character) (cond b (x ∷ []) [])
    same x true = refl
    same x false = refl

    alike : (x : Tagged) → IsTaggedBy (head history) x → (dropped : Bool) →
        shown now ((if dropped then with_deletion (head history + 1) x else x) ∷ []) ≡ shown before (x ∷ [])
    alike x is true =
        ap (λ b. map (λ tagged. tagged.character) (cond b (with_deletion (head history + 1) x ∷ []) [])) (deleted x is) ∙ same x (before x)
    alike x is false = ap (λ b. map (λ tagged. tagged.character) (cond b (x ∷ []) [])) (kept x is)

-- an old revision shows the same text after an edit and after an undo
pub text_at-edited : (history : History) (e : PlainEdit) (rev : ℕ) → IsSound history → rev ≤ head history →
    text_at (edited history e) rev ≡ text_at history rev
text_at-edited history e rev sound within =
    let more = edit e.base e.group e.priority e.author ∷ [] in
    let revisions = history.revisions ++ more in
    shown-edited (is_visible revisions rev) (is_visible history.revisions rev) history e sound
    (λ c. is_visible-later revisions rev (record { character = c; inserted = head history + 1; deleted = [] }) (omega arith))
    (λ x is. is_visible-deleted_later revisions rev (head history + 1) x (omega arith) ∙
    is_visible-append history.revisions more rev x within is)
    (λ x is. is_visible-append history.revisions more rev x within is)

pub text_at-undid : (history : History) (groups : List ℕ) (rev : ℕ) → IsSound history → rev ≤ head history →
    text_at (undid history groups) rev ≡ text_at history rev
text_at-undid history groups rev sound within =
    shown_same (IsTaggedBy (head history)) (is_visible (history.revisions ++ undo groups ∷ []) rev) (is_visible history.revisions rev)
    (λ x is. is_visible-append history.revisions (undo groups ∷ []) rev x within is) history.characters sound

-- undoing a set and then the former one shows the former text
pub text_at-undid_back : (history : History) (groups : List ℕ) → IsSound history →
    text_at (undid (undid history groups) (undone history.revisions (head history))) (head history + 2) ≡ text_at history (head history)
text_at-undid_back history groups sound =
    let before = undone history.revisions (head history) in
    let once = history.revisions ++ undo groups ∷ [] in
    let twice = once ++ undo before ∷ [] in
    let count : head history + 2 ≡ length once + 1 = omega (arith, length_push history.revisions (undo groups)) in
    let same : undone twice (head history + 2) ≡ before = rw count (undone-undo once before) in
    shown_same (IsTaggedBy (head history)) (is_visible twice (head history + 2)) (is_visible history.revisions (head history))
    (λ x is. is_visible_same history.revisions twice (head history) (head history + 2) x is (omega arith) same
    (λ rev within. group_of-append once (undo before ∷ []) rev (omega (arith, length_push history.revisions (undo groups))) ∙
    group_of-append history.revisions (undo groups ∷ []) rev within)) history.characters sound
