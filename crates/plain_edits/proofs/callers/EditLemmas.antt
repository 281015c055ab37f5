-- Lemmas on what an edit makes of a text.
use Rattle.std.proofs.Common.{◌≡◌, ℕ, ◌+◌, Bool, true, false, cond, not, ◌&&◌, ◌||◌, if◌then◌else◌, nat_lt, nat_le, ◌==◌, List, [], ◌∷◌, map, take, count_by, flat_map, refl, ap, ap₂, sym, ◌∙◌, arith}
use Rattle.std.specs.List.{AllByRecursion, list_all, range_with_len}
use Rattle.std.proofs.lemmas.Bool.{le-ltb, le-leb, and_right, or_right}
use Rattle.std.proofs.Math.Bool.{and-true}
use Rattle.std.proofs.lemmas.List.Folds.{list_all-append}
use Rattle.plain_text.specs.Numbers.{has}
use Rattle.plain_text.specs.Woven.{woven, nth_index}
use Rattle.plain_edits.specs.Delta.{applied}
use Rattle.plain_edits.specs.History.{Tagged, Revision, edit, History, head, edit_group, undone, is_undone, is_visible, text_at, IsTaggedBy, IsSound}
use Rattle.plain_edits.specs.Place.{insertion_place}
use Rattle.plain_edits.specs.Edits.{PlainEdit, gap_count, inserted_at, is_deleted_by, with_deletion, edited, insertion_rank}
use Rattle.plain_text.proofs.callers.ListLemmas.{IsWovenAlike, at-woven, woven_same, woven-filter, filter_all, flat_map_none, flat_map_one, flat_map_same, map-flat_map, nth_index_only}
use Rattle.plain_edits.proofs.callers.HistoryLemmas.{becomes, shown, shown-append, shown-edited, AllByRecursion-inserted_at, group_of-append, revision_at-push, undone-edit, is_visible_same}
use Rattle.plain_edits.proofs.callers.PlaceLemmas.{insertion_place-head}

-- the text that an edit inserts at an index
abbrev pub inserted_text_at : History → PlainEdit → ℕ → List ℕ
inserted_text_at history e index =
    flat_map (λ gap. if insertion_place history e.base (insertion_rank e) gap == index then e.added gap else [])
    (range_with_len 0 (gap_count history e.base))

pub text-inserted_at : (history : History) (e : PlainEdit) (index : ℕ) →
    map (λ tagged. tagged.character) (inserted_at history e index) ≡ inserted_text_at history e index
text-inserted_at history e index =
    map-flat_map (λ (tagged : Tagged). tagged.character) at_gap (range_with_len 0 (gap_count history e.base)) ∙
    flat_map_same (λ gap. map (λ tagged. tagged.character) (at_gap gap))
    (λ gap. if insertion_place history e.base (insertion_rank e) gap == index then e.added gap else [])
    (λ gap. chosen gap (insertion_place history e.base (insertion_rank e) gap == index)) (range_with_len 0 (gap_count history e.base))
  where
    new : ℕ → Tagged
    new c = record { character = c; inserted = head history + 1; deleted = [] }

    at_gap : ℕ → List Tagged
    at_gap gap = if insertion_place history e.base (insertion_rank e) gap == index then map new (e.added gap) else []

    same : (text : List ℕ) → map (λ tagged. tagged.character) (map new text) ≡ text
    same [] = refl
    same (c ∷ text) = ap (λ cs. c ∷ cs) (same text)

    chosen : (gap : ℕ) (here : Bool) → map (λ tagged. tagged.character) (if here then map new (e.added gap) else []) ≡
        (if here then e.added gap else [])
    chosen gap true = same (e.added gap)
    chosen gap false = refl

-- an edit is undone where its group was
pub is_undone-edit : (history : History) (e : PlainEdit) →
    is_undone (edited history e).revisions (head history + 1) (head history + 1) ≡ has (undone history.revisions (head history)) e.group
is_undone-edit history e =
    ap₂ has (undone-edit history.revisions e.base e.group e.priority e.author)
    (ap edit_group (revision_at-push history.revisions (edit e.base e.group e.priority e.author)))

module _ (history : History) (e : PlainEdit) (live : has (undone history.revisions (head history)) e.group ≡ false) where
  is_live : is_undone (edited history e).revisions (head history + 1) (head history + 1) ≡ false
  is_live = is_undone-edit history e ∙ live

  -- what the edit inserts is visible, what it deletes is not, and the rest is as visible as before
  pub is_visible-inserted_at : (c : ℕ) →
      is_visible (edited history e).revisions (head history + 1) (record { character = c; inserted = head history + 1; deleted = [] }) ≡ true
  is_visible-inserted_at c =
      ap₂ (λ a b. a && not b && true) (le-leb (head history + 1) (head history + 1) (omega arith)) is_live

  pub is_visible-with_deletion : (tagged : Tagged) →
      is_visible (edited history e).revisions (head history + 1) (with_deletion (head history + 1) tagged) ≡ false
  is_visible-with_deletion tagged =
      and_right _ _ (list_all-append test tagged.deleted ((head history + 1) ∷ []) ∙
      and_right (list_all test tagged.deleted) (test (head history + 1) && true)
      (ap₂ (λ a b. (a || b) && true) (le-ltb (head history + 1) (head history + 1) (omega arith)) is_live))
    where
      test : ℕ → Bool
      test rev = nat_lt (head history + 1) rev || is_undone (edited history e).revisions (head history + 1) rev

pub is_visible-edited : (history : History) (e : PlainEdit) (tagged : Tagged) → IsTaggedBy (head history) tagged →
    is_visible (edited history e).revisions (head history + 1) tagged ≡ is_visible history.revisions (head history) tagged
is_visible-edited history e tagged is =
    is_visible_same history.revisions (edited history e).revisions (head history) (head history + 1) tagged is (omega arith)
    (undone-edit history.revisions e.base e.group e.priority e.author)
    (λ rev within. group_of-append history.revisions (edit e.base e.group e.priority e.author ∷ []) rev within)

-- the text after an edit, whatever its base: what it inserts at each index, and of the characters visible before those that it does not drop
pub text_at-edited_new : (history : History) (e : PlainEdit) → IsSound history → has (undone history.revisions (head history)) e.group ≡ false →
    text_at (edited history e) (head history + 1) ≡
    woven (inserted_text_at history e)
    (λ index tagged. if is_visible history.revisions (head history) tagged && not (is_deleted_by history e index tagged)
    then tagged.character ∷ [] else []) 0 history.characters
text_at-edited_new history e sound live =
    at-woven (shown now) (shown-append now) (inserted_at history e) (becomes history e) 0 history.characters ∙
    woven_same (IsTaggedBy (head history)) (λ i. shown now (inserted_at history e i)) (inserted_text_at history e)
    (λ i x. shown now (becomes history e i x)) (λ i x. if before x && not (is_deleted_by history e i x) then x.character ∷ [] else [])
    (λ i. ap (map (λ tagged. tagged.character)) (filter_all now (inserted_at history e i)
    (AllByRecursion-inserted_at (λ tagged. now tagged ≡ true) history e (is_visible-inserted_at history e live) i)) ∙
    text-inserted_at history e i)
    (λ i x is. alike i x is (is_deleted_by history e i x)) 0 history.characters sound
  where
    now : Tagged → Bool
    now = is_visible (edited history e).revisions (head history + 1)

    before : Tagged → Bool
    before = is_visible history.revisions (head history)

    alone : (x : Tagged) (b : Bool) → map (λ tagged. tagged.character) (cond b (x ∷ []) []) ≡
        (if b && true then x.character ∷ [] else [])
    alone x true = refl
    alone x false = refl

    gone : (x : Tagged) (b : Bool) → [] ≡ (if b && false then x.character ∷ [] else [])
    gone x true = refl
    gone x false = refl

    alike : (i : ℕ) (x : Tagged) → IsTaggedBy (head history) x → (dropped : Bool) →
        shown now ((if dropped then with_deletion (head history + 1) x else x) ∷ []) ≡
        (if before x && not dropped then x.character ∷ [] else [])
    alike i x is true =
        ap (λ b. map (λ tagged. tagged.character) (cond b (with_deletion (head history + 1) x ∷ []) []))
        (is_visible-with_deletion history e live x) ∙ gone x (before x)
    alike i x is false =
        ap (λ b. map (λ tagged. tagged.character) (cond b (x ∷ []) [])) (is_visible-edited history e x is) ∙ alone x (before x)

-- an edit against the head
pub text_at-edited_at_head : (history : History) (e : PlainEdit) → IsSound history → e.base ≡ head history →
    has (undone history.revisions (head history)) e.group ≡ false →
    text_at (edited history e) (head history + 1) ≡ applied e.kept e.added (text_at history (head history))
text_at-edited_at_head history e sound at_head live =
    text_at-edited_new history e sound live ∙
    woven_same (λ tagged. Unit {0}) (inserted_text_at history e) (inserted_text_at history e)
    (λ i x. if is_visible history.revisions (head history) x && not (is_deleted_by history e i x) then x.character ∷ [] else [])
    (λ i x. if seen x && keeps i then x.character ∷ [] else []) (λ i. refl)
    (λ i x _. ap (λ rev. if is_visible history.revisions rev x && not (is_deleted_by history e i x) then x.character ∷ [] else []) (sym at_head) ∙
    ap (λ b. if b then x.character ∷ [] else []) (both (seen x) (keeps i))) 0 history.characters (all history.characters) ∙
    woven-filter seen (λ tagged. tagged.character) (inserted_text_at history e) e.added keeps e.kept 0 0 history.characters alike ∙
    ap (λ rev. applied e.kept e.added (text_at history rev)) at_head
  where
    seen : Tagged → Bool
    seen = is_visible history.revisions e.base

    keeps : ℕ → Bool
    keeps i = e.kept (count_by seen (take i history.characters))

    both : (a b : Bool) → (a && not (a && not b)) ≡ (a && b)
    both true true = refl
    both true false = refl
    both false b = refl

    all : (xs : List Tagged) → AllByRecursion (λ tagged. Unit {0}) xs
    all [] = tt
    all (x ∷ xs) = (tt, all xs)

    place : (gap : ℕ) → insertion_place history e.base (insertion_rank e) gap ≡ nth_index seen gap history.characters
    place gap = insertion_place-head history e.base (insertion_rank e) gap sound (omega arith)

    alike : IsWovenAlike seen (inserted_text_at history e) e.added keeps e.kept 0 0 history.characters
    alike = record {
      gaps = λ n i m within at_index at_number.
          let number : n ≡ m = omega arith in
          flat_map_one (λ gap. insertion_place history e.base (insertion_rank e) gap) e.added i 0 (gap_count history e.base) n (omega arith) (omega arith)
          (omega (arith, place n))
          (λ k low high hit. nth_index_only seen k n history.characters (omega arith) within (omega (arith, place k))) ∙
          ap e.added number;
      others = λ i from none.
          flat_map_none (λ gap. insertion_place history e.base (insertion_rank e) gap) e.added i 0 (gap_count history e.base)
          (λ n low high hit. none n (omega arith) (omega (arith, place n)));
      items = λ n i m within at_index at_number.
          let here : i ≡ n = omega arith in
          let number : count_by seen (take n history.characters) ≡ m = omega arith in
          ap keeps here ∙ ap e.kept number;
    }

-- an edit in a group that is undone shows nothing
pub text_at-edited_undone : (history : History) (e : PlainEdit) → IsSound history →
    has (undone history.revisions (head history)) e.group ≡ true → text_at (edited history e) (head history + 1) ≡ text_at history (head history)
text_at-edited_undone history e sound spent =
    shown-edited now (is_visible history.revisions (head history)) history e sound
    (λ c. ap₂ (λ a b. a && not b && true) (le-leb (head history + 1) (head history + 1) (omega arith)) undone_now)
    (λ x is. ap (λ b. nat_le x.inserted (head history + 1) && not (is_undone revisions (head history + 1) x.inserted) && b)
    (list_all-append test x.deleted ((head history + 1) ∷ []) ∙
    ap (λ b. list_all test x.deleted && (b && true)) (or_right _ _ undone_now) ∙ and-true (list_all test x.deleted)) ∙
    is_visible-edited history e x is)
    (λ x is. is_visible-edited history e x is)
  where
    revisions : List Revision
    revisions = (edited history e).revisions

    now : Tagged → Bool
    now = is_visible revisions (head history + 1)

    test : ℕ → Bool
    test rev = nat_lt (head history + 1) rev || is_undone revisions (head history + 1) rev

    undone_now : is_undone revisions (head history + 1) (head history + 1) ≡ true
    undone_now = is_undone-edit history e ∙ spent
