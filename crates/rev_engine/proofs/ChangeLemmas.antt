-- The delta between the flags of two revisions is the change between them: what stays, and what appears at each gap.
use Rattle.std.proofs.Common.{◌≡◌, ℕ, zero, suc, ◌+◌, ◌<◌, Bool, true, false, cond, not, List, [], ◌∷◌, ◌++◌, length, map, filter, refl, ap, sym, ◌∙◌, arith}
use Rattle.std.specs.Prelude.{if◌then◌else◌}
use Rattle.std.proofs.lemmas.Bool.{ne_eqb, eq-eqb}
use Rattle.subset_runs.specs.Subset.{contains, items_outside}
use Rattle.plain_edits.specs.declared.delta.UnitDelta.{UnitDelta}
use Rattle.plain_edits.specs.History.{Tagged, History, head, is_visible, text_at}
use Rattle.plain_edits.specs.Change.{passes_at, block}
use Rattle.delta_core.specs.Synthesis.{appearing, IsBetween}
use Rattle.delta_core.specs.Units.{text_after}
use Rattle.rev_list.specs.Hidden.{hidden_at}
use Rattle.rev_rebase.specs.Rebase.{characters_of}
use Rattle.rev_engine.specs.declared.edit.Change.{Change}
use Rattle.rev_engine.specs.Engine.{IsChange, IsSince}
use Rattle.rev_engine.proofs.StandLemmas.{outside_visible}

-- the flags of the characters that fail a test, and the characters alone
abbrev pub fails : (Tagged → Bool) → List Tagged → List Bool
fails test xs = map (λ x. not (test x)) xs

abbrev pub characters : List Tagged → List ℕ
characters xs = map (λ x. x.character) xs

module _ (p q : Tagged → Bool) where
  -- what stays
  pub contains-stays : (xs : List Tagged) (i : ℕ) → contains (items_outside (fails p xs) (map not (fails q xs))) i ≡ passes_at q i (filter p xs)
  contains-stays [] zero = refl
  contains-stays [] (suc i) = refl
  contains-stays (x ∷ xs) i = by (p x) (q x) refl i (contains-stays xs)
    where
      by : (b d : Bool) → q x ≡ d → (i : ℕ) → ((k : ℕ) → contains (items_outside (fails p xs) (map not (fails q xs))) k ≡ passes_at q k (filter p xs)) →
          contains (items_outside (not b ∷ fails p xs) (not (not d) ∷ map not (fails q xs))) i ≡ passes_at q i (cond b (x ∷ filter p xs) (filter p xs))
      by true true is zero rest = sym is
      by true false is zero rest = sym is
      by true d is (suc i) rest = rest i
      by false d is i rest = rest i

  abbrev appears : ℕ → List Tagged → ℕ → List ℕ
  appears alive xs gap = appearing alive (characters xs) (fails p xs) (fails q xs) gap

  abbrev appears_by : Bool → Bool → ℕ → Tagged → List Tagged → ℕ → List ℕ
  appears_by b d alive x xs gap = appearing alive (x.character ∷ characters xs) (not b ∷ fails p xs) (not d ∷ fails q xs) gap

  -- nothing appears at a gap left of which more characters are
  appears-past : (xs : List Tagged) (alive gap : ℕ) → gap < alive → appears alive xs gap ≡ []
  appears-past [] alive gap past = refl
  appears-past (x ∷ xs) alive gap past = by (p x) (q x) (appears-past xs (alive + 1) gap (omega (arith, past))) (appears-past xs alive gap past)
    where
      by : (b d : Bool) → appears (alive + 1) xs gap ≡ [] → appears alive xs gap ≡ [] → appears_by b d alive x xs gap ≡ []
      by true d seen unseen = seen
      by false false seen unseen = unseen
      by false true seen unseen =
          ap (λ c. (if c then x.character ∷ [] else []) ++ appears alive xs gap) (ne_eqb alive gap (λ is. omega (arith, is, past))) ∙ unseen

  -- what appears at a gap is what of its block passes the second test
  pub appears-block : (xs : List Tagged) (alive gap : ℕ) → appears alive xs (alive + gap) ≡ characters (filter q (block p gap xs))
  appears-block [] alive gap = refl
  appears-block (x ∷ xs) alive zero = by (p x) (q x) refl (appears-block xs alive 0)
    where
      by : (b d : Bool) → q x ≡ d → appears alive xs (alive + 0) ≡ characters (filter q (block p 0 xs)) →
          appears_by b d alive x xs (alive + 0) ≡ characters (filter q (if b then [] else x ∷ block p 0 xs))
      by true d is rest = appears-past xs (alive + 1) (alive + 0) (omega arith)
      by false false is rest =
          rest ∙ ap (λ c. characters (cond c (x ∷ filter q (block p 0 xs)) (filter q (block p 0 xs)))) (sym is)
      by false true is rest =
          ap (λ c. (if c then x.character ∷ [] else []) ++ appears alive xs (alive + 0)) (eq-eqb alive (alive + 0) (omega arith)) ∙
          ap (λ cs. x.character ∷ cs) rest ∙
          ap (λ c. characters (cond c (x ∷ filter q (block p 0 xs)) (filter q (block p 0 xs)))) (sym is)
  appears-block (x ∷ xs) alive (suc gap) = by (p x) (q x) (appears-block xs (alive + 1) gap) (appears-block xs alive (suc gap))
    where
      by : (b d : Bool) → appears (alive + 1) xs (alive + 1 + gap) ≡ characters (filter q (block p gap xs)) →
          appears alive xs (alive + suc gap) ≡ characters (filter q (block p (suc gap) xs)) →
          appears_by b d alive x xs (alive + suc gap) ≡ characters (filter q (block p (if b then gap else suc gap) xs))
      by true d seen unseen =
          let next : alive + suc gap ≡ alive + 1 + gap = omega arith in
          ap (appears (alive + 1) xs) next ∙ seen
      by false false seen unseen = unseen
      by false true seen unseen =
          ap (λ c. (if c then x.character ∷ [] else []) ++ appears alive xs (alive + suc gap)) (ne_eqb alive (alive + suc gap) (λ is. omega (arith, is))) ∙
          unseen

-- what leads from a revision to the head is the edit since
pub IsSince-between : (h : History) (rev : ℕ) (units : UnitDelta) → IsBetween (characters_of h) (hidden_at h rev) (hidden_at h (head h)) units →
    IsSince h rev units
IsSince-between h rev units between = record {
  canonical = between.canonical;
  base = between.base ∙ ap length (shown rev);
  kept = λ index. between.kept index ∙ contains-stays (is_visible h.revisions rev) now h.characters index;
  added = λ gap.
      let none : gap ≡ 0 + gap = omega arith in
      between.added gap ∙ ap (appearing 0 (characters_of h) (hidden_at h rev) (hidden_at h (head h))) none ∙
      appears-block (is_visible h.revisions rev) now h.characters 0 gap;
  leads = ap (text_after units) (sym (shown rev)) ∙ between.leads ∙ shown (head h);
}
  where
    now : Tagged → Bool
    now = is_visible h.revisions (head h)

    shown : (at : ℕ) → items_outside (hidden_at h at) (characters_of h) ≡ text_at h at
    shown at = outside_visible (is_visible h.revisions at) h.characters

-- what leads between two heads is the change between them
pub IsChange-between : (before after : History) (change : Change) → change.rev ≡ head after →
    text_at after (head before) ≡ text_at before (head before) →
    IsBetween (characters_of after) (hidden_at after (head before)) (hidden_at after (head after)) change.units → IsChange before after change
IsChange-between before after change rev_is same between =
    let since = IsSince-between after (head before) change.units between in
    record {
      rev = rev_is;
      canonical = since.canonical;
      base = since.base ∙ ap length same;
      kept = since.kept;
      added = since.added;
      leads = ap (text_after change.units) (sym same) ∙ since.leads;
    }
