-- One more edit of the same text.
use Rattle.std.proofs.Common.{◌≡◌, ◌≢◌, ℕ, ◌+◌, ◌<◌, ◌≤◌, Bool, true, false, not, if◌then◌else◌, nat_lt, List, [], ◌∷◌, ◌++◌, length, map, drop, filter, refl, ap, ap₂, sym, subst, ◌∙◌, arith, append_assoc}
use Rattle.std.specs.List.{AllByRecursion, list_all}
use Rattle.std.proofs.lemmas.Bool.{lt-ltb, ltb-true, le-ltb}
use Rattle.std.proofs.lemmas.List.{map-append}
use Rattle.std.proofs.Math.Seq.{take-append_seam, take-append-add, drop-append-add}
use Rattle.plain_text.specs.Numbers.{has}
use Rattle.plain_text.specs.Woven.{woven}
use Rattle.plain_edits.specs.History.{Tagged, edit, History, head, edit_rank, rank_of, undone, is_visible, visible_at, IsTaggedBy, IsSound}
use Rattle.plain_edits.specs.Rank.{is_lower}
use Rattle.plain_edits.specs.Edits.{PlainEdit, with_deletion, edited, with_earlier, by_rank, insertion_rank}
use Rattle.plain_text.proofs.callers.ListLemmas.{AllByRecursion-append, AllByRecursion-weaker, AllByRecursion-map}
use Rattle.plain_edits.proofs.callers.HistoryLemmas.{IsTaggedBy-more, IsSound-edited, is_visible-later, revision_at-push, rank_of-append, undone-edit}
use Rattle.plain_edits.proofs.callers.EditLemmas.{is_visible-inserted_at}
use Rattle.plain_edits.proofs.callers.RankLemmas.{is_lower-back}
use Rattle.plain_edits.specs.Change.{block}
use Rattle.plain_edits.specs.Blocks.{block_at, left_in_block, put_behind, block_after}
use Rattle.plain_edits.proofs.callers.BlockLemmas.{characters-edited}
use Rattle.plain_edits.proofs.callers.RunLemmas.{AllByRecursion-parts, left_in_block-parts}
use Rattle.plain_edits.proofs.callers.WeaveLemmas.{woven_within, woven-items, filter-weave, block-weave}
use Rattle.rev_engine.proofs.BlockLemmas.{stays, left_in_run-parts}
use Rattle.plain_edits.specs.History.{inserted_by}
use Rattle.rev_engine.proofs.MergeLemmas.{head-edited, is_visible-at_head, is_visible-at_base, StaysOf-edited, Done, IsLower, text_of, blocks_of, Rises, Parts, parts, Rises-insert, flat_map-append, AllByRecursion-flat_map_each, IsDone, IsShown, IsOld, AllByRecursion-both, each_shown, each_old, IsMerging}

-- what holds of each edit holds of each in rising order of rank
pub AllByRecursion-with_earlier : (P : PlainEdit → Type 0) (e : PlainEdit) (edits : List PlainEdit) → P e → AllByRecursion P edits →
    AllByRecursion P (with_earlier e edits)
AllByRecursion-with_earlier P e [] one each = (one, tt)
AllByRecursion-with_earlier P e (f ∷ edits) one each =
    elim (is_lower (insertion_rank f) (insertion_rank e)) as (λ b. AllByRecursion P (if b then f ∷ with_earlier e edits else e ∷ f ∷ edits)) [
      | true ↦ (each.0, AllByRecursion-with_earlier P e edits one each.1)
      | false ↦ (one, each)
    ]

pub AllByRecursion-by_rank : (P : PlainEdit → Type 0) (edits : List PlainEdit) → AllByRecursion P edits → AllByRecursion P (by_rank edits)
AllByRecursion-by_rank P [] each = tt
AllByRecursion-by_rank P (e ∷ edits) each =
    AllByRecursion-with_earlier P e (by_rank edits) each.0 (AllByRecursion-by_rank P edits each.1)

AllByRecursion-of_map : {X Y : Type 0} (P : Y → Type 0) (f : X → Y) (xs : List X) → AllByRecursion P (map f xs) → AllByRecursion (λ x. P (f x)) xs
AllByRecursion-of_map P f [] each = tt
AllByRecursion-of_map P f (x ∷ xs) each = (each.0, AllByRecursion-of_map P f xs each.1)

module _ (first : History) (sound : IsSound first)
    (done : List PlainEdit) (last : History) (dones : List Done) (at : ℕ → Tagged → Tagged) (state : IsMerging first done last dones at)
    (e : PlainEdit) (at_base : e.base ≡ head first) (live : has (undone first.revisions (head first)) e.group ≡ false)
    (differ : AllByRecursion (λ f. insertion_rank f ≢ insertion_rank e) done) where
  differ_dones : AllByRecursion (λ d. insertion_rank d.edit ≢ insertion_rank e) dones
  differ_dones =
      AllByRecursion-of_map (λ f. insertion_rank f ≢ insertion_rank e) (λ d. d.edit) dones
      (subst (AllByRecursion (λ f. insertion_rank f ≢ insertion_rank e)) (sym state.is)
      (AllByRecursion-by_rank (λ f. insertion_rank f ≢ insertion_rank e) done differ))

  pub cut : Parts e dones
  cut = parts e dones state.rises differ_dones

  abbrev newest : Done
  newest = record { rev = head last + 1; edit = e }

  abbrev pub dones_after : List Done
  dones_after = cut.front ++ record { rev = head last + 1; edit = e } ∷ cut.back

  abbrev pub at_after : ℕ → Tagged → Tagged
  at_after n x = if e.kept n then at n x else with_deletion (head last + 1) (at n x)

  each_parts : AllByRecursion (IsDone (head first) last) cut.front × AllByRecursion (IsDone (head first) last) cut.back
  each_parts =
      AllByRecursion-parts (IsDone (head first) last) cut.front cut.back
      (subst (AllByRecursion (IsDone (head first) last)) cut.whole state.each)

  late : (n : ℕ) (ds : List Done) → AllByRecursion (IsDone (head first) last) ds →
      AllByRecursion (λ tagged. nat_lt e.base tagged.inserted ≡ true) (blocks_of ds n)
  late n ds each =
      AllByRecursion-flat_map_each (λ tagged. nat_lt e.base tagged.inserted ≡ true) (IsDone (head first) last) (text_of n)
      (λ d is. AllByRecursion-map (λ tagged. nat_lt e.base tagged.inserted ≡ true) (inserted_by d.rev)
      (λ c. lt-ltb e.base d.rev (omega (arith, is.after, at_base))) (d.edit.added n)) ds each

  front_stays : (n : ℕ) → AllByRecursion (λ tagged. stays last.revisions (insertion_rank e) tagged ≡ true) (blocks_of cut.front n)
  front_stays n =
      AllByRecursion-flat_map_each (λ tagged. stays last.revisions (insertion_rank e) tagged ≡ true)
      (λ d. IsDone (head first) last d × IsLower d.edit e) (text_of n)
      (λ d is. AllByRecursion-map (λ tagged. stays last.revisions (insertion_rank e) tagged ≡ true) (inserted_by d.rev)
      (λ c. ap (λ rank. not (is_lower (insertion_rank e) rank)) is.0.rank ∙
      ap not (is_lower-back (insertion_rank d.edit) (insertion_rank e) is.1)) (d.edit.added n))
      cut.front (AllByRecursion-both (IsDone (head first) last) (λ d. IsLower d.edit e) _ (λ d is less. (is, less)) cut.front each_parts.0 cut.below)

  back_goes : (n : ℕ) → AllByRecursion (λ tagged. stays last.revisions (insertion_rank e) tagged ≡ false) (blocks_of cut.back n)
  back_goes n =
      AllByRecursion-flat_map_each (λ tagged. stays last.revisions (insertion_rank e) tagged ≡ false)
      (λ d. IsDone (head first) last d × IsLower e d.edit) (text_of n)
      (λ d is. AllByRecursion-map (λ tagged. stays last.revisions (insertion_rank e) tagged ≡ false) (inserted_by d.rev)
      (λ c. ap (λ rank. not (is_lower (insertion_rank e) rank)) is.0.rank ∙ ap not is.1) (d.edit.added n))
      cut.back (AllByRecursion-both (IsDone (head first) last) (λ d. IsLower e d.edit) _ (λ d is more. (is, more)) cut.back each_parts.1 cut.above)

  -- the blocks of the base are those of the first history, and behind them the texts of the edits
  abbrev old : ℕ → List Tagged
  old g = block_at first (head first) g

  abbrev there : Tagged → Bool
  there = is_visible last.revisions (head first)

  abbrev texts_in : ℕ → List Tagged
  texts_in g = blocks_of cut.front g ++ blocks_of cut.back g

  late_in : (g : ℕ) → AllByRecursion (λ tagged. nat_lt e.base tagged.inserted ≡ true) (texts_in g)
  late_in g =
      AllByRecursion-append (λ tagged. nat_lt e.base tagged.inserted ≡ true) (blocks_of cut.front g) (blocks_of cut.back g)
      (late g cut.front each_parts.0) (late g cut.back each_parts.1)

  parts_of : (g : ℕ) → blocks_of dones g ≡ texts_in g
  parts_of g = ap (λ ds. blocks_of ds g) cut.whole ∙ flat_map-append (text_of g) cut.front cut.back

  hidden : (g : ℕ) → AllByRecursion (λ x. there x ≡ false) (old g ++ blocks_of dones g)
  hidden g =
      AllByRecursion-append (λ x. there x ≡ false) (old g) (blocks_of dones g)
      (AllByRecursion-weaker (IsOld first) (λ x. there x ≡ false) (λ x is. state.others_before x is.tagged ∙ is.hidden) (old g) (each_old first sound g))
      (AllByRecursion-weaker (λ tagged. nat_lt e.base tagged.inserted ≡ true) (λ x. there x ≡ false)
      (λ x is. is_visible-later last.revisions (head first) x (omega (arith, ltb-true e.base x.inserted is, at_base))) (blocks_of dones g)
      (subst (AllByRecursion (λ tagged. nat_lt e.base tagged.inserted ≡ true)) (sym (parts_of g)) (late_in g)))

  visible_is : visible_at last e.base ≡ woven (λ _. []) (λ n x. at n x ∷ []) 0 (visible_at first (head first))
  visible_is =
      ap (visible_at last) at_base ∙ ap (filter there) state.characters ∙
      filter-weave there (IsShown first) (λ g. old g ++ blocks_of dones g) at hidden (λ n x is. (state.stays n x is.tagged is.seen).at_base) 0
      (visible_at first (head first)) (each_shown first sound)

  block_is : (g : ℕ) → g ≤ length (visible_at first (head first)) → block_at last e.base g ≡ old g ++ texts_in g
  block_is g within =
      ap (λ base. block_at last base g) at_base ∙ ap (block there g) state.characters ∙
      block-weave there (IsShown first) (λ k. old k ++ blocks_of dones k) at hidden (λ n x is. (state.stays n x is.tagged is.seen).at_base) g 0
      (visible_at first (head first)) within (each_shown first sound) ∙
      (let none : 0 + g ≡ g = omega arith in ap (λ k. old k ++ blocks_of dones k) none) ∙ ap (λ xs. old g ++ xs) (parts_of g)

  -- and the text of one more edit goes between those of lower rank and those of higher
  put_is : (g : ℕ) → g ≤ length (visible_at first (head first)) → block_after last e g ≡ old g ++ blocks_of dones_after g
  put_is g within =
      ap (λ xs. put_behind (left_in_block last.revisions e.base (insertion_rank e) xs) (text_of g newest) xs) (block_is g within) ∙
      ap (λ k. put_behind k (text_of g newest) (old g ++ texts_in g))
      (left_in_block-parts last.revisions e.base (insertion_rank e) (old g) (texts_in g)
      (AllByRecursion-weaker (IsOld first) (λ x. nat_lt e.base x.inserted ≡ false)
      (λ x is. le-ltb e.base x.inserted (omega (arith, is.tagged.inserted, at_base))) (old g) (each_old first sound g)) (late_in g) ∙
      ap (λ k. length (old g) + k)
      (left_in_run-parts last.revisions (insertion_rank e) (blocks_of cut.front g) (blocks_of cut.back g) (front_stays g) (back_goes g))) ∙
      ap₂ (λ xs ys. xs ++ (text_of g newest ++ ys))
      (take-append-add (old g) (texts_in g) (length (blocks_of cut.front g)) ∙ ap (λ xs. old g ++ xs) (take-append_seam (blocks_of cut.front g) (blocks_of cut.back g)))
      (drop-append-add (old g) (texts_in g) (length (blocks_of cut.front g)) ∙
      (let none : length (blocks_of cut.front g) ≡ length (blocks_of cut.front g) + 0 = omega arith in ap (λ n. drop n (texts_in g)) none) ∙
      drop-append-add (blocks_of cut.front g) (blocks_of cut.back g) 0) ∙
      append_assoc (old g) (blocks_of cut.front g) (text_of g newest ++ blocks_of cut.back g) ∙
      ap (λ xs. old g ++ xs) (sym (flat_map-append (text_of g) cut.front (newest ∷ cut.back)))

  characters_after : (edited last e).characters ≡
      woven (λ g. old g ++ blocks_of dones_after g) (λ n x. at_after n x ∷ []) 0 (visible_at first (head first))
  characters_after =
      characters-edited last e ∙
      ap (woven (block_after last e) (λ n x. (if e.kept n then x else with_deletion (head last + 1) x) ∷ []) 0) visible_is ∙
      woven-items (block_after last e) (λ n x. (if e.kept n then x else with_deletion (head last + 1) x) ∷ []) at 0 (visible_at first (head first)) ∙
      woven_within (IsShown first) (block_after last e) (λ g. old g ++ blocks_of dones_after g) (λ n x. at_after n x ∷ []) (λ n x. at_after n x ∷ [])
      (λ n x is. refl) 0 (visible_at first (head first)) (λ g low high. put_is g (omega (arith, high))) (each_shown first sound)

  one_more : head (edited last e) ≡ head last + 1
  one_more = head-edited last e

  live_now : has (undone last.revisions (head last)) e.group ≡ false
  live_now = ap (λ groups. has groups e.group) state.spent ∙ live

  still_tagged : (x : Tagged) → IsTaggedBy (head first) x → IsTaggedBy (head last) x
  still_tagged x tagged = IsTaggedBy-more (head first) (head last) x state.later tagged

  IsDone-after : (d : Done) → IsDone (head first) last d → IsDone (head first) (edited last e) d
  IsDone-after d is = record {
    after = is.after;
    within = omega (arith, is.within, one_more);
    rank = rank_of-append last.revisions (edit e.base e.group e.priority e.author ∷ []) d.rev is.within ∙ is.rank;
    seen = λ c.
        is_visible-at_head last e (inserted_by d.rev c) (record { inserted = is.within; deleted = tt }) ∙ is.seen c;
  }

  IsDone-newest : IsDone (head first) (edited last e) newest
  IsDone-newest = record {
    after = omega (arith, state.later);
    within = omega (arith, one_more);
    rank = ap edit_rank (revision_at-push last.revisions (edit e.base e.group e.priority e.author));
    seen = λ c.
        ap (λ now. is_visible (edited last e).revisions now (inserted_by (head last + 1) c)) one_more ∙ is_visible-inserted_at last e live_now c;
  }

  -- ONE MORE EDIT
  pub IsMerging-edited : IsMerging first (e ∷ done) (edited last e) dones_after at_after
  IsMerging-edited = record {
    sound = IsSound-edited last e state.sound;
    later = omega (arith, state.later, one_more);
    spent =
        ap (undone (edited last e).revisions) one_more ∙ undone-edit last.revisions e.base e.group e.priority e.author ∙ state.spent;
    characters = characters_after;
    each =
        AllByRecursion-append (IsDone (head first) (edited last e)) cut.front (newest ∷ cut.back)
        (AllByRecursion-weaker (IsDone (head first) last) (IsDone (head first) (edited last e)) IsDone-after cut.front each_parts.0) (
          IsDone-newest,
          AllByRecursion-weaker (IsDone (head first) last) (IsDone (head first) (edited last e)) IsDone-after cut.back each_parts.1,
        );
    rises = Rises-insert cut.front newest cut.back (subst Rises cut.whole state.rises) cut.below cut.above;
    is =
        map-append (λ d. d.edit) cut.front (newest ∷ cut.back) ∙ sym cut.earlier ∙ ap (with_earlier e) state.is;
    others_before = λ x tagged.
        is_visible-at_base last e (head first) x state.later (still_tagged x tagged) ∙ state.others_before x tagged;
    others = λ x tagged. is_visible-at_head last e x (still_tagged x tagged) ∙ state.others x tagged;
    stays = λ n x tagged is.
        StaysOf-edited last e (head first) (list_all (λ f. f.kept n) done) x (at n x) state.later live_now (state.stays n x tagged is) (e.kept n);
  }
