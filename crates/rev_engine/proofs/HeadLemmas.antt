-- An edit against the head is itself what it changes of the head text.
use Rattle.std.proofs.Common.{◌≡◌, ℕ, zero, suc, ◌+◌, ◌<◌, ◌≤◌, inl, inr, Bool, true, false, cond, ◌&&◌, ◌||◌, if◌then◌else◌, nat_le, List, [], ◌∷◌, ◌++◌, length, map, filter, take, drop, take-append-drop, append-nil, refl, ap, ap₂, sym, subst, ◌∙◌, arith}
use Rattle.std.specs.List.{AllByRecursion}
use Rattle.std.proofs.lemmas.Bool.{cases_lt, le-ltb, ne_eqb}
use Rattle.plain_text.specs.declared.run.Run.{Run}
use Rattle.plain_text.specs.Numbers.{has}
use Rattle.plain_text.specs.Woven.{woven}
use Rattle.plain_edits.specs.declared.delta.Added.{Added}
use Rattle.plain_edits.specs.Delta.{is_in_runs, text_at_gap}
use Rattle.plain_edits.specs.UnitDelta.{AreAdds, AreRuns, IsCanonical}
use Rattle.plain_edits.specs.History.{Tagged, History, IsSound, head, inserted_by, is_visible, text_at, undone, visible_at}
use Rattle.plain_edits.specs.Edits.{PlainEdit, edited, with_deletion, insertion_rank}
use Rattle.plain_edits.specs.Blocks.{block_after, block_at, left_in_block}
use Rattle.plain_edits.specs.Change.{block, change_adds, change_keeps, passes_at}
use Rattle.plain_text.proofs.callers.ListLemmas.{AllByRecursion-append, AllByRecursion-map, AllByRecursion-weaker, filter_all, filter_none}
use Rattle.plain_edits.proofs.callers.BlockLemmas.{characters-edited}
use Rattle.plain_edits.proofs.callers.EditLemmas.{is_visible-inserted_at, text_at-edited_at_head}
use Rattle.plain_edits.proofs.callers.HistoryLemmas.{is_visible-later, shown, shown-append}
use Rattle.plain_edits.proofs.callers.RunLemmas.{AllByRecursion-parts}
use Rattle.plain_edits.proofs.callers.WeaveLemmas.{block-weave, filter-weave}
use Rattle.std.proofs.lemmas.List.{length-map}
use Rattle.rev_engine.specs.declared.edit.UnitEdit.{UnitEdit}
use Rattle.rev_engine.specs.Engine.{IsChangeBy}
use Rattle.rev_engine.specs.Engine.{in_characters}
use Rattle.rev_engine.proofs.MergeLemmas.{IsOld, IsShown, StaysOf, StaysOf-edited, each_old, each_shown, head-edited, is_visible-at_base, is_visible-at_head}

-- ---- a well formed delta says nothing of what is past its base

runs-le : (base from : ℕ) (runs : List Run) → AreRuns base from runs → from ≤ base
runs-le base from [] are = are
runs-le base from (run ∷ runs) are = omega (arith, are.0, are.1, runs-le base run.end runs are.2)

and-none : (b : Bool) → (b && false) ≡ false
and-none true = refl
and-none false = refl

runs-past : (base from : ℕ) (runs : List Run) (index : ℕ) → AreRuns base from runs → base ≤ index → is_in_runs runs index ≡ false
runs-past base from [] index are past = refl
runs-past base from (run ∷ runs) index are past =
    ap (λ b. (nat_le run.start index && b) || is_in_runs runs index) (le-ltb index run.end (omega (arith, runs-le base run.end runs are.2))) ∙
    ap (λ b. b || is_in_runs runs index) (and-none (nat_le run.start index)) ∙ runs-past base run.end runs index are.2 past

adds-past : (base from : ℕ) (adds : List Added) (gap : ℕ) → AreAdds base from adds → base < gap → text_at_gap adds gap ≡ []
adds-past base from [] gap are past = refl
adds-past base from (added ∷ adds) gap are past =
    ap (λ b. (if b then added.text else []) ++ text_at_gap adds gap) (ne_eqb added.gap gap (λ is. omega (arith, is, are.1, past))) ∙
    adds-past base (added.gap + 1) adds gap are.3 past

-- ---- the characters of a weave, by index, and its blocks

module _ (p : Tagged → Bool) where
  block-none : (gap : ℕ) (xs : List Tagged) → length (filter p xs) < gap → block p gap xs ≡ []
  block-none gap [] past = refl
  block-none zero (x ∷ xs) past = absurd (omega (arith, past))
  block-none (suc gap) (x ∷ xs) past =
      elim (p x) as (λ b. length (cond b (x ∷ filter p xs) (filter p xs)) < suc gap → block p (if b then gap else suc gap) xs ≡ []) [
        | true ↦ λ less. block-none gap xs (omega (arith, less))
        | false ↦ λ less. block-none (suc gap) xs less
      ] past

  module _ (Q : Tagged → Type 0) (keeps : ℕ → Bool) (item : ℕ → Tagged → Tagged) (passes : (n : ℕ) (x : Tagged) → Q x → p (item n x) ≡ keeps n) where
    passes-weave : (from : ℕ) (xs : List Tagged) (i : ℕ) → AllByRecursion Q xs → i < length xs →
        passes_at p i (woven (λ _. []) (λ n x. item n x ∷ []) from xs) ≡ keeps (from + i)
    passes-weave from [] i each within = absurd (omega (arith, within))
    passes-weave from (x ∷ xs) zero each within = passes from x each.0 ∙ (let none : from ≡ from + 0 = omega arith in ap keeps none)
    passes-weave from (x ∷ xs) (suc i) each within =
        passes-weave (from + 1) xs i each.1 (omega (arith, within)) ∙ (let next : from + 1 + i ≡ from + suc i = omega arith in ap keeps next)

    passes-past : (from : ℕ) (xs : List Tagged) (i : ℕ) → length xs ≤ i → passes_at p i (woven (λ _. []) (λ n x. item n x ∷ []) from xs) ≡ false
    passes-past from [] zero past = refl
    passes-past from [] (suc i) past = refl
    passes-past from (x ∷ xs) zero past = absurd (omega (arith, past))
    passes-past from (x ∷ xs) (suc i) past = passes-past (from + 1) xs i (omega (arith, past))

character-inserted : (rev : ℕ) (cs : List ℕ) → map (λ (x : Tagged). x.character) (map (inserted_by rev) cs) ≡ cs
character-inserted rev [] = refl
character-inserted rev (c ∷ cs) = ap (λ xs. c ∷ xs) (character-inserted rev cs)

and-true : (b : Bool) → (b && true) ≡ b
and-true true = refl
and-true false = refl

-- ---- the change

module _ (h : History) (e : PlainEdit) (sound : IsSound h) (at_head : e.base ≡ head h) (live : has (undone h.revisions (head h)) e.group ≡ false) where
  abbrev last : History
  last = edited h e

  abbrev there : Tagged → Bool
  there = is_visible last.revisions (head h)

  abbrev seen : Tagged → Bool
  seen = is_visible last.revisions (head last)

  abbrev item : ℕ → Tagged → Tagged
  item n x = if e.kept n then x else with_deletion (head h + 1) x

  abbrev text_in : ℕ → List Tagged
  text_in g = map (inserted_by (head h + 1)) (e.added g)

  abbrev left : ℕ → ℕ
  left g = left_in_block h.revisions e.base (insertion_rank e) (block_at h e.base g)

  characters_are : last.characters ≡ woven (block_after h e) (λ n x. item n x ∷ []) 0 (visible_at h (head h))
  characters_are = characters-edited h e ∙ ap (λ rev. woven (block_after h e) (λ n x. item n x ∷ []) 0 (visible_at h rev)) at_head

  stays : (n : ℕ) (x : Tagged) → IsShown h x → StaysOf last (head h) (e.kept n && true) x (item n x)
  stays n x is =
      StaysOf-edited h e (head h) true x x (omega arith) live
      (record { inserted = refl; character = refl; tagged = is.tagged; at_base = is.seen; at_now = is.seen }) (e.kept n)

  old : (g : ℕ) → AllByRecursion (IsOld h) (take (left g) (block_at h e.base g)) × AllByRecursion (IsOld h) (drop (left g) (block_at h e.base g))
  old g =
      AllByRecursion-parts (IsOld h) (take (left g) (block_at h e.base g)) (drop (left g) (block_at h e.base g))
      (subst (AllByRecursion (IsOld h)) (ap (λ rev. block_at h rev g) (sym at_head) ∙ sym (take-append-drop (left g) (block_at h e.base g))) (each_old h sound g))

  -- what holds of the dead characters and of the new ones holds of each in a block
  each_in : (P : Tagged → Type 0) → ((x : Tagged) → IsOld h x → P x) → ((c : ℕ) → P (inserted_by (head h + 1) c)) → (g : ℕ) →
      AllByRecursion P (block_after h e g)
  each_in P dead new g =
      AllByRecursion-append P (take (left g) (block_at h e.base g)) (text_in g ++ drop (left g) (block_at h e.base g))
      (AllByRecursion-weaker (IsOld h) P dead (take (left g) (block_at h e.base g)) (old g).0)
      (AllByRecursion-append P (text_in g) (drop (left g) (block_at h e.base g)) (AllByRecursion-map P (inserted_by (head h + 1)) new (e.added g))
      (AllByRecursion-weaker (IsOld h) P dead (drop (left g) (block_at h e.base g)) (old g).1))

  hidden : (g : ℕ) → AllByRecursion (λ x. there x ≡ false) (block_after h e g)
  hidden =
      each_in (λ x. there x ≡ false) (λ x is. is_visible-at_base h e (head h) x (omega arith) is.tagged ∙ is.hidden)
      (λ c. is_visible-later last.revisions (head h) (inserted_by (head h + 1) c) (omega arith))

  visible_is : visible_at last (head h) ≡ woven (λ _. []) (λ n x. item n x ∷ []) 0 (visible_at h (head h))
  visible_is =
      ap (filter there) characters_are ∙
      filter-weave there (IsShown h) (block_after h e) item hidden (λ n x is. (stays n x is).at_base) 0 (visible_at h (head h)) (each_shown h sound)

  passes : (n : ℕ) (x : Tagged) → IsShown h x → seen (item n x) ≡ e.kept n
  passes n x is = (stays n x is).at_now ∙ and-true (e.kept n)

  pub kept-within : (i : ℕ) → i < length (visible_at h (head h)) → change_keeps last (head h) (head last) i ≡ e.kept i
  kept-within i within =
      ap (passes_at seen i) visible_is ∙ passes-weave seen (IsShown h) e.kept item passes 0 (visible_at h (head h)) i (each_shown h sound) within ∙
      (let none : 0 + i ≡ i = omega arith in ap e.kept none)

  pub kept-past : (i : ℕ) → length (visible_at h (head h)) ≤ i → change_keeps last (head h) (head last) i ≡ false
  kept-past i past = ap (passes_at seen i) visible_is ∙ passes-past seen (IsShown h) e.kept item passes 0 (visible_at h (head h)) i past

  dead_now : (xs : List Tagged) → AllByRecursion (IsOld h) xs → shown seen xs ≡ []
  dead_now xs each =
      ap (map (λ x. x.character))
      (filter_none seen xs (AllByRecursion-weaker (IsOld h) (λ x. seen x ≡ false) (λ x is. is_visible-at_head h e x is.tagged ∙ is.hidden) xs each))

  new_now : (g : ℕ) → shown seen (text_in g) ≡ e.added g
  new_now g =
      ap (map (λ x. x.character))
      (filter_all seen (text_in g) (AllByRecursion-map (λ x. seen x ≡ true) (inserted_by (head h + 1))
      (λ c. ap (λ now. is_visible last.revisions now (inserted_by (head h + 1) c)) (head-edited h e) ∙ is_visible-inserted_at h e live c) (e.added g))) ∙
      character-inserted (head h + 1) (e.added g)

  shown_after : (g : ℕ) → shown seen (block_after h e g) ≡ e.added g
  shown_after g =
      shown-append seen (take (left g) (block_at h e.base g)) (text_in g ++ drop (left g) (block_at h e.base g)) ∙
      ap₂ (λ xs ys. xs ++ ys) (dead_now (take (left g) (block_at h e.base g)) (old g).0)
      (shown-append seen (text_in g) (drop (left g) (block_at h e.base g)) ∙
      ap₂ (λ xs ys. xs ++ ys) (new_now g) (dead_now (drop (left g) (block_at h e.base g)) (old g).1) ∙ append-nil (e.added g))

  pub added-within : (g : ℕ) → g ≤ length (visible_at h (head h)) → change_adds last (head h) (head last) g ≡ e.added g
  added-within g within =
      ap (shown seen)
      (ap (block there g) characters_are ∙
      block-weave there (IsShown h) (block_after h e) item hidden (λ n x is. (stays n x is).at_base) g 0 (visible_at h (head h)) within (each_shown h sound)) ∙
      (let none : 0 + g ≡ g = omega arith in ap (λ n. shown seen (block_after h e n)) none) ∙ shown_after g

  length-woven : (from : ℕ) (xs : List Tagged) → length (woven (λ _. []) (λ n x. item n x ∷ []) from xs) ≡ length xs
  length-woven from [] = refl
  length-woven from (x ∷ xs) = omega (arith, length-woven (from + 1) xs)

  pub added-past : (g : ℕ) → length (visible_at h (head h)) < g → change_adds last (head h) (head last) g ≡ []
  added-past g past =
      ap (shown seen) (block-none there g last.characters (omega (arith, past, ap length visible_is, length-woven 0 (visible_at h (head h)))))

-- AN EDIT AGAINST THE HEAD IS ITS CHANGE
pub IsChangeBy-head : (h : History) (rev : ℕ) (edit : UnitEdit) → IsSound h → rev ≡ head h → has (undone h.revisions (head h)) edit.group ≡ false →
    IsCanonical edit.units → edit.units.base ≡ length (text_at h (head h)) → IsChangeBy h (edited h (in_characters rev edit)) edit.units
IsChangeBy-head h rev edit sound at_head live canonical base = record {
  rev = refl;
  canonical = canonical;
  base = base;
  kept = λ i.
      elim (cases_lt i count) [
        | inl within ↦ sym (kept-within h e sound at_head live i within)
        | inr past ↦
            runs-past edit.units.base 0 edit.units.kept i canonical.well_formed.runs (omega (arith, past, base_is)) ∙
            sym (kept-past h e sound at_head live i past)
      ];
  added = λ gap.
      elim (cases_lt count gap) [
        | inl past ↦
            adds-past edit.units.base 0 edit.units.added gap canonical.well_formed.adds (omega (arith, past, base_is)) ∙
            sym (added-past h e sound at_head live gap past)
        | inr within ↦ sym (added-within h e sound at_head live gap within)
      ];
  leads = sym (ap (text_at (edited h e)) (head-edited h e) ∙ text_at-edited_at_head h e sound at_head live);
}
  where
    e : PlainEdit
    e = in_characters rev edit

    count : ℕ
    count = length (visible_at h (head h))

    base_is : edit.units.base ≡ count
    base_is = base ∙ length-map (visible_at h (head h)) (λ x. x.character)
