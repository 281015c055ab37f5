-- Edits of one text, taken one after the other: their texts stand at the gaps of the text in rising order of rank.
use Rattle.std.proofs.Common.{◌≡◌, ◌≢◌, ℕ, ◌+◌, ◌<◌, ◌≤◌, Bool, true, false, cond, ◌&&◌, if◌then◌else◌, List, [], ◌∷◌, ◌++◌, map, flat_map, refl, ap, ap₂, sym, subst, ◌∙◌, arith}
use Rattle.std.specs.List.{AllByRecursion, list_all}
use Rattle.std.proofs.lemmas.List.{append_assoc, length_push}
use Rattle.std.proofs.lemmas.List.Folds.{flat_map-map}
use Rattle.std.proofs.lemmas.List.Elements.{filter_passes, recursion_from_All}
use Rattle.plain_text.specs.Numbers.{has}
use Rattle.plain_text.specs.Woven.{woven}
use Rattle.plain_edits.specs.History.{Tagged, edit, History, head, rank_of, undone, is_visible, visible_at, text_at, IsTaggedBy, IsSound}
use Rattle.plain_edits.specs.Rank.{is_lower}
use Rattle.plain_edits.specs.Edits.{PlainEdit, with_deletion, edited, with_earlier, by_rank, merged, insertion_rank}
use Rattle.plain_text.proofs.callers.ListLemmas.{AllByRecursion-append, AllByRecursion-weaker, AllByRecursion-map, at-woven, woven_same, filter_none, filter_all, flat_map_same, map-flat_map}
use Rattle.plain_edits.proofs.callers.HistoryLemmas.{IsTaggedBy-more, IsTaggedBy-deleted, is_visible-append, is_visible-deleted_later, shown, shown-append}
use Rattle.plain_edits.proofs.callers.EditLemmas.{is_visible-with_deletion, is_visible-edited}
use Rattle.plain_edits.specs.Blocks.{block_at}
use Rattle.plain_edits.proofs.callers.RankLemmas.{is_lower-other, is_lower-passes}
use Rattle.plain_edits.proofs.callers.BlockLemmas.{block_fails, woven-map}
use Rattle.plain_edits.proofs.callers.WeaveLemmas.{AllByRecursion-block}
use Rattle.plain_edits.proofs.callers.RunLemmas.{AllByRecursion-filter, AllByRecursion-parts}
use Rattle.plain_edits.specs.History.{inserted_by}

-- ---- what becomes of an old character

pub head-edited : (history : History) (e : PlainEdit) → head (edited history e) ≡ head history + 1
head-edited history e = length_push history.revisions (edit e.base e.group e.priority e.author)

-- one more edit leaves an old character as visible as it was, at the head and before
pub is_visible-at_head : (history : History) (e : PlainEdit) (x : Tagged) → IsTaggedBy (head history) x →
    is_visible (edited history e).revisions (head (edited history e)) x ≡ is_visible history.revisions (head history) x
is_visible-at_head history e x tagged =
    ap (λ now. is_visible (edited history e).revisions now x) (head-edited history e) ∙ is_visible-edited history e x tagged

pub is_visible-at_base : (history : History) (e : PlainEdit) (base : ℕ) (x : Tagged) → base ≤ head history → IsTaggedBy (head history) x →
    is_visible (edited history e).revisions base x ≡ is_visible history.revisions base x
is_visible-at_base history e base x within tagged =
    is_visible-append history.revisions (edit e.base e.group e.priority e.author ∷ []) base x within tagged

-- the same character with more deletions, visible at the base, and now where all edits keep it
pub record StaysOf (last : History) (base : ℕ) (kept : Bool) (x y : Tagged) : Type 0 where
  pub inserted : y.inserted ≡ x.inserted
  pub character : y.character ≡ x.character
  pub tagged : IsTaggedBy (head last) y
  pub at_base : is_visible last.revisions base y ≡ true
  pub at_now : is_visible last.revisions (head last) y ≡ kept

pub StaysOf-edited : (last : History) (e : PlainEdit) (base : ℕ) (kept : Bool) (x y : Tagged) → base ≤ head last →
    has (undone last.revisions (head last)) e.group ≡ false → StaysOf last base kept x y → (keeps : Bool) →
    StaysOf (edited last e) base (keeps && kept) x (if keeps then y else with_deletion (head last + 1) y)
StaysOf-edited last e base kept x y later live stays true = record {
  inserted = stays.inserted;
  character = stays.character;
  tagged = IsTaggedBy-more (head last) (head (edited last e)) y (omega (arith, head-edited last e)) stays.tagged;
  at_base = is_visible-at_base last e base y later stays.tagged ∙ stays.at_base;
  at_now = is_visible-at_head last e y stays.tagged ∙ stays.at_now;
}
StaysOf-edited last e base kept x y later live stays false = record {
  inserted = stays.inserted;
  character = stays.character;
  tagged = subst (λ now. IsTaggedBy now (with_deletion (head last + 1) y)) (sym (head-edited last e)) (IsTaggedBy-deleted (head last) y stays.tagged);
  at_base =
      is_visible-deleted_later (edited last e).revisions base (head last + 1) y (omega arith) ∙
      is_visible-at_base last e base y later stays.tagged ∙ stays.at_base;
  at_now =
      ap (λ now. is_visible (edited last e).revisions now (with_deletion (head last + 1) y)) (head-edited last e) ∙
      is_visible-with_deletion last e live y;
}

-- ---- the edits that were taken, in rising order of rank

-- an edit that was taken, and the revision that it is
pub record Done : Type 0 where
  pub rev : ℕ
  pub edit : PlainEdit

abbrev pub edits_of : List Done → List PlainEdit
edits_of dones = map (λ d. d.edit) dones

-- its text at a gap; and the block of all texts there
abbrev pub text_of : ℕ → Done → List Tagged
text_of n d = map (inserted_by d.rev) (d.edit.added n)

abbrev pub blocks_of : List Done → ℕ → List Tagged
blocks_of dones n = flat_map (text_of n) dones

-- what the one inserts goes left of what the other does
abbrev pub IsLower : PlainEdit → PlainEdit → Type 0
IsLower e f = is_lower (insertion_rank e) (insertion_rank f) ≡ true

abbrev pub Rises : List Done → Type 0
Rises [] = Unit {0}
Rises (d ∷ dones) = AllByRecursion (λ other. IsLower d.edit other.edit) dones × Rises dones

-- the edits of lower rank than one more, and those of higher
pub record Parts (e : PlainEdit) (dones : List Done) : Type 0 where
  pub front : List Done
  pub back : List Done
  pub whole : dones ≡ front ++ back
  pub below : AllByRecursion (λ d. IsLower d.edit e) front
  pub above : AllByRecursion (λ d. IsLower e d.edit) back
  pub earlier : with_earlier e (edits_of dones) ≡ edits_of front ++ e ∷ edits_of back

pub parts : (e : PlainEdit) (dones : List Done) → Rises dones → AllByRecursion (λ d. insertion_rank d.edit ≢ insertion_rank e) dones → Parts e dones
parts e [] rises differ = record { front = []; back = []; whole = refl; below = tt; above = tt; earlier = refl }
parts e (d ∷ dones) rises differ =
    elim (is_lower (insertion_rank d.edit) (insertion_rank e)) as (λ b. is_lower (insertion_rank d.edit) (insertion_rank e) ≡ b → Parts e (d ∷ dones)) [
      | true ↦ λ lower.
          let rest = parts e dones rises.1 differ.1 in
          record {
            front = d ∷ rest.front;
            back = rest.back;
            whole = ap (λ ds. d ∷ ds) rest.whole;
            below = (lower, rest.below);
            above = rest.above;
            earlier =
                ap (λ b. if b then d.edit ∷ with_earlier e (edits_of dones) else e ∷ d.edit ∷ edits_of dones) lower ∙
                ap (λ fs. d.edit ∷ fs) rest.earlier;
          }
      | false ↦ λ least.
          let less : IsLower e d.edit = is_lower-other (insertion_rank d.edit) (insertion_rank e) differ.0 least in
          record {
            front = [];
            back = d ∷ dones;
            whole = refl;
            below = tt;
            above = (
              less,
              AllByRecursion-weaker (λ other. IsLower d.edit other.edit) (λ other. IsLower e other.edit)
                  (λ other more. is_lower-passes (insertion_rank e) (insertion_rank d.edit) (insertion_rank other.edit) less more) dones rises.0,
            );
            earlier = ap (λ b. if b then d.edit ∷ with_earlier e (edits_of dones) else e ∷ d.edit ∷ edits_of dones) least;
          }
    ] refl

-- one more edit between the two parts
pub Rises-insert : (front : List Done) (d : Done) (back : List Done) → Rises (front ++ back) →
    AllByRecursion (λ other. IsLower other.edit d.edit) front → AllByRecursion (λ other. IsLower d.edit other.edit) back →
    Rises (front ++ d ∷ back)
Rises-insert [] d back rises below above = (above, rises)
Rises-insert (f ∷ front) d back rises below above =
    let each = AllByRecursion-parts (λ other. IsLower f.edit other.edit) front back rises.0 in (
      AllByRecursion-append (λ other. IsLower f.edit other.edit) front (d ∷ back) each.0 (below.0, each.1),
      Rises-insert front d back rises.1 below.1 above,
    )

pub flat_map-append : {X Y : Type 0} (f : X → List Y) (xs ys : List X) → flat_map f (xs ++ ys) ≡ flat_map f xs ++ flat_map f ys
flat_map-append f [] ys = refl
flat_map-append f (x ∷ xs) ys =
    ap (λ zs. f x ++ zs) (flat_map-append f xs ys) ∙ sym (append_assoc (f x) (flat_map f xs) (flat_map f ys))

pub AllByRecursion-flat_map_each : {X Y : Type 0} (P : Y → Type 0) (Q : X → Type 0) (f : X → List Y) →
    ((x : X) → Q x → AllByRecursion P (f x)) → (xs : List X) → AllByRecursion Q xs → AllByRecursion P (flat_map f xs)
AllByRecursion-flat_map_each P Q f holds [] each = tt
AllByRecursion-flat_map_each P Q f holds (x ∷ xs) each =
    AllByRecursion-append P (f x) (flat_map f xs) (holds x each.0) (AllByRecursion-flat_map_each P Q f holds xs each.1)

-- ---- the history after some of the edits

-- the edit is a later revision of the history, and all that it inserted is visible
pub record IsDone (base : ℕ) (history : History) (d : Done) : Type 0 where
  pub after : base < d.rev
  pub within : d.rev ≤ head history
  pub rank : rank_of history.revisions d.rev ≡ insertion_rank d.edit
  pub seen : (c : ℕ) → is_visible history.revisions (head history) (inserted_by d.rev c) ≡ true

-- the characters that a history shows at its head
abbrev pub seen_in : History → Tagged → Bool
seen_in history = is_visible history.revisions (head history)

-- what the head shows, and what stands in its blocks
pub record IsShown (first : History) (x : Tagged) : Type 0 where
  pub tagged : IsTaggedBy (head first) x
  pub seen : seen_in first x ≡ true

pub record IsOld (first : History) (x : Tagged) : Type 0 where
  pub tagged : IsTaggedBy (head first) x
  pub hidden : seen_in first x ≡ false

pub AllByRecursion-both : {X : Type 0} (P Q R : X → Type 0) → ((x : X) → P x → Q x → R x) → (xs : List X) →
    AllByRecursion P xs → AllByRecursion Q xs → AllByRecursion R xs
AllByRecursion-both P Q R join [] ps qs = tt
AllByRecursion-both P Q R join (x ∷ xs) ps qs = (join x ps.0 qs.0, AllByRecursion-both P Q R join xs ps.1 qs.1)

module _ (first : History) (sound : IsSound first) where
  pub each_shown : AllByRecursion (IsShown first) (visible_at first (head first))
  each_shown =
      AllByRecursion-both (IsTaggedBy (head first)) (λ x. seen_in first x ≡ true) (IsShown first) (λ x tagged seen. record { tagged = tagged; seen = seen })
      (visible_at first (head first))
      (AllByRecursion-filter (IsTaggedBy (head first)) (seen_in first) first.characters sound)
      (recursion_from_All (λ x. seen_in first x ≡ true) (visible_at first (head first)) (filter_passes (seen_in first) first.characters))

  pub each_old : (g : ℕ) → AllByRecursion (IsOld first) (block_at first (head first) g)
  each_old g =
      AllByRecursion-both (IsTaggedBy (head first)) (λ x. seen_in first x ≡ false) (IsOld first) (λ x tagged hidden. record { tagged = tagged; hidden = hidden })
      (block_at first (head first) g) (AllByRecursion-block (IsTaggedBy (head first)) (seen_in first) g first.characters sound)
      (block_fails (seen_in first) g first.characters)

-- `last` is the first history after the edits of its head, which are `done` as they were taken, the last one first
pub record IsMerging (first : History) (done : List PlainEdit) (last : History) (dones : List Done) (at : ℕ → Tagged → Tagged) : Type 0 where
  pub sound : IsSound last
  pub later : head first ≤ head last
  pub spent : undone last.revisions (head last) ≡ undone first.revisions (head first)
  pub characters : last.characters ≡
      woven (λ g. block_at first (head first) g ++ blocks_of dones g) (λ n x. at n x ∷ []) 0 (visible_at first (head first))
  pub each : AllByRecursion (IsDone (head first) last) dones
  pub rises : Rises dones
  pub is : edits_of dones ≡ by_rank done
  pub others_before : (x : Tagged) → IsTaggedBy (head first) x → is_visible last.revisions (head first) x ≡ seen_in first x
  pub others : (x : Tagged) → IsTaggedBy (head first) x → seen_in last x ≡ seen_in first x
  pub stays : (n : ℕ) (x : Tagged) → IsTaggedBy (head first) x → seen_in first x ≡ true →
      StaysOf last (head first) (list_all (λ e. e.kept n) done) x (at n x)

-- the text of the head is the merged one
pub text_at-merging : (first : History) → IsSound first → (done : List PlainEdit) (last : History) (dones : List Done) (at : ℕ → Tagged → Tagged) →
    IsMerging first done last dones at → text_at last (head last) ≡ merged (text_at first (head first)) done
text_at-merging first sound done last dones at state =
    ap (shown now) state.characters ∙
    at-woven (shown now) (shown-append now) (λ g. block_at first (head first) g ++ blocks_of dones g) (λ n x. at n x ∷ []) 0 (visible_at first (head first)) ∙
    woven_same (IsShown first) (λ g. shown now (block_at first (head first) g ++ blocks_of dones g)) texts
    (λ n x. shown now (at n x ∷ [])) (λ n x. keeps n x.character)
    (λ g. shown-append now (block_at first (head first) g) (blocks_of dones g) ∙ ap₂ (λ xs ys. xs ++ ys) (block_old g) (block_text g))
    (λ n x is. kept_text n x is.tagged is.seen) 0 (visible_at first (head first)) (each_shown first sound) ∙
    sym (woven-map texts keeps (λ x. x.character) 0 (visible_at first (head first)))
  where
    now : Tagged → Bool
    now = seen_in last

    texts : ℕ → List ℕ
    texts n = flat_map (λ e. e.added n) (by_rank done)

    keeps : ℕ → ℕ → List ℕ
    keeps n c = if list_all (λ e. e.kept n) done then c ∷ [] else []

    block_old : (g : ℕ) → shown now (block_at first (head first) g) ≡ []
    block_old g =
        ap (map (λ x. x.character)) (filter_none now (block_at first (head first) g)
        (AllByRecursion-weaker (IsOld first) (λ x. now x ≡ false) (λ x is. state.others x is.tagged ∙ is.hidden)
        (block_at first (head first) g) (each_old first sound g)))

    new_seen : (n : ℕ) (d : Done) → IsDone (head first) last d → AllByRecursion (λ x. now x ≡ true) (text_of n d)
    new_seen n d is = AllByRecursion-map (λ x. now x ≡ true) (inserted_by d.rev) is.seen (d.edit.added n)

    alone : (rev : ℕ) (text : List ℕ) → map (λ x. x.character) (map (inserted_by rev) text) ≡ text
    alone rev [] = refl
    alone rev (c ∷ text) = ap (λ cs. c ∷ cs) (alone rev text)

    block_text : (n : ℕ) → shown now (blocks_of dones n) ≡ texts n
    block_text n =
        ap (map (λ x. x.character)) (filter_all now (blocks_of dones n)
        (AllByRecursion-flat_map_each (λ x. now x ≡ true) (IsDone (head first) last) (text_of n) (new_seen n) dones state.each)) ∙
        map-flat_map (λ x. x.character) (text_of n) dones ∙
        flat_map_same (λ d. map (λ x. x.character) (text_of n d)) (λ d. d.edit.added n) (λ d. alone d.rev (d.edit.added n)) dones ∙
        sym (flat_map-map (λ e. e.added n) (λ d. d.edit) dones) ∙
        ap (flat_map (λ e. e.added n)) state.is

    one : (y : Tagged) (c : ℕ) (b : Bool) → y.character ≡ c → map (λ x. x.character) (cond b (y ∷ []) []) ≡ (if b then c ∷ [] else [])
    one y c true is = ap (λ k. k ∷ []) is
    one y c false is = refl

    kept_text : (n : ℕ) (x : Tagged) → IsTaggedBy (head first) x → seen_in first x ≡ true → shown now (at n x ∷ []) ≡ keeps n x.character
    kept_text n x tagged is =
        let stays = state.stays n x tagged is in
        ap (λ b. map (λ t. t.character) (cond b (at n x ∷ []) [])) stays.at_now ∙
        one (at n x) x.character (list_all (λ e. e.kept n) done) stays.character
