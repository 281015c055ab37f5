-- A collection: the engine stands for the history after it, and holds what is left of that.
use Rattle.std.proofs.Common.{◌≡◌, ℕ, Bool, true, false, not, cond, if◌then◌else◌, ◌&&◌, ◌||◌, ◌==◌, ◌≤◌, List, [], ◌∷◌, length, map, filter, Option, Some, None, IfSome, refl, ap, ap₂, sym, subst, ◌∙◌, arith}
use Rattle.std.specs.BTreeSet.{BTreeSet}
use Rattle.std.specs.Coded.{Coded-set, coded_bool, coded_list, coded_ℕ}
use Rattle.std.specs.List.{AllByRecursion, list_any}
use Rattle.std.proofs.Math.Logic.{∥∥₁_elim, ∥∥₁_map}
use Rattle.std.proofs.Math.Nat.{ℕ_set}
use Rattle.std.proofs.lemmas.Bool.{and_parts, or_left}
use Rattle.subset_runs.specs.Subset.{items_outside}
use Rattle.plain_text.specs.Numbers.{has}
use Rattle.plain_text.proofs.callers.ListLemmas.{AllByRecursion-weaker}
use Rattle.plain_text.specs.Text.{byte_len}
use Rattle.plain_edits.specs.History.{Tagged, History, head, undone}
use Rattle.plain_edits.specs.Edits.{is_edit_of}
use Rattle.plain_edits.specs.Undo.{undone_now}
use Rattle.plain_edits.specs.Collection.{Collection, clean_floor, collected_at, collection_at, collection_of, is_at_rest, is_clean, is_dropped, resting_groups, IsAtRest, MayCollect}
use Rattle.plain_edits.proofs.callers.CollectionLemmas.{greatest_clean_floor, is_at_rest_iff}
use Rattle.collection_laws.specs.Left.{left_of}
use Rattle.collection_laws.proofs.ForCallers.{collection_of-left, head-left, left_of-collected, undone-left}
use Rattle.rev_collect.specs.Choice.{collection_said}
use Rattle.rev_undo.specs.Allowed.{HasEdit}
use Rattle.rev_undo.proofs.ForCallers.{of_all, of_one}
use Rattle.rev_list.specs.WithoutText.{without_character, without_text}
use Rattle.rev_rebase.specs.Rebase.{characters_of}
use Rattle.rev_engine.specs.State.{IsHeld, IsLeftOf, State, shown_at}
use Rattle.rev_engine.specs.Asked.{collects, IsCollectionTaken, IsKnown}
use Rattle.rev_engine.specs.Inner.{IsNextLeft}
use Rattle.rev_engine.specs.Engine.{StandsFor}
use Rattle.rev_engine.proofs.AskedLemmas.{IsGiven-after, IsOfEngine-collected}
use Rattle.rev_engine.proofs.ByteLemmas.{byte_len-outside}
use Rattle.rev_engine.proofs.DoneLemmas.{positions-history}
use Rattle.rev_engine.proofs.LeftLemmas.{MayCollect-of_left, characters-left, known-left, left_of-textless}
use Rattle.rev_engine.proofs.StandLemmas.{IsHistoryOf-left, IsLeftOf-stands, floor-stands, forgets-stands, head-stands, shown-head, undone_now-is}

-- whether a collection may come does not depend on the text
MayCollect-textless : (h : History) (floor : ℕ) (groups : List ℕ) → MayCollect (without_text h) floor groups → MayCollect h floor groups
MayCollect-textless h floor groups may = record {
  rises = may.rises;
  known = may.known;
  clean = may.clean;
  at_rest =
      AllByRecursion-weaker (IsAtRest (without_text h) floor) (IsAtRest h floor)
      (λ group rest. record { is_over = rest.is_over; is_settled = rest.is_settled }) groups may.at_rest;
}

-- and so it is with what is dropped
dropped-textless : (h : History) (xs : List Tagged) → map (is_dropped (without_text h)) (map without_character xs) ≡ map (is_dropped h) xs
dropped-textless h [] = refl
dropped-textless h (x ∷ xs) = ap (λ flags. is_dropped h x ∷ flags) (dropped-textless h xs)

-- what is collected after an entry is asked of what is left
pub collection_of-stands : (engine : State) (h : History) → StandsFor engine h → (retired : List ℕ) (most : ℕ) → engine.revisions.floor ≤ most →
    collection_of engine.revisions retired most ≡ collection_of h retired most
collection_of-stands engine h stands retired most low =
    ap (λ (g : History). collection_of g retired most) stands.revisions ∙
    collection_of-left h (forgets-stands engine h stands) retired most (rw (← floor-stands engine h stands) low)

-- ---- what is left after it

module _ (union : List ℕ) (revisions h : History) (floor : ℕ) (groups : List ℕ) (left : IsLeftOf union revisions h) (may : MayCollect revisions floor groups)
  where
    pub MayCollect-said : MayCollect h floor groups
    MayCollect-said =
        MayCollect-of_left h floor groups left.of_engine.forgets
        (MayCollect-textless (left_of h) floor groups (subst (λ g. MayCollect g floor groups) left.revisions_is may))

    abbrev left_after : History
    left_after = collected_at (left_of h) floor groups

    goes_along : left_of (collected_at h floor groups) ≡ left_of left_after
    goes_along = left_of-collected h floor groups left.of_engine.forgets MayCollect-said

    module _ (union_after : List ℕ) (revisions_after : History)
        (union_is : union_after ≡ items_outside (map (is_dropped (collected_at revisions floor groups)) revisions.characters) union)
        (revisions_is : revisions_after ≡ left_of (collected_at revisions floor groups)) where
      pub IsLeftOf-collected : IsLeftOf union_after revisions_after (collected_at h floor groups)
      IsLeftOf-collected = record {
        of_engine = IsOfEngine-collected h floor groups left.of_engine MayCollect-said;
        union_is =
            union_is ∙
            ap₂ (λ (g : History) (xs : List ℕ). items_outside (map (is_dropped (collected_at g floor groups)) g.characters) xs) left.revisions_is left.union_is ∙
            ap (λ (flags : List Bool). items_outside flags (characters_of (left_of h))) (dropped-textless left_after (left_of h).characters) ∙
            characters-left left_after ∙ ap characters_of (sym goes_along);
        revisions_is =
            revisions_is ∙ ap (λ (g : History). left_of (collected_at g floor groups)) left.revisions_is ∙ left_of-textless left_after ∙
            ap without_text (sym goes_along);
      }

      -- the head text stays
      shown-collected : shown_at union revisions (head revisions) ≡ shown_at union_after revisions_after (head revisions_after)
      shown-collected =
          shown-head union revisions h left ∙ sym (shown-head union_after revisions_after (collected_at h floor groups) IsLeftOf-collected)

      positions-collected : length union_after ≡ length revisions_after.characters
      positions-collected =
          positions-history union_after revisions_after (left_of (collected_at h floor groups))
          (IsHistoryOf-left union_after revisions_after (collected_at h floor groups) IsLeftOf-collected)

      -- what was undone stays known
      known-collected : (group : ℕ) → has (undone_now (collected_at h floor groups)) group ≡ true →
          (list_any (is_edit_of group) revisions_after.revisions || has revisions_after.collected group) ≡ true
      known-collected group there =
          let is = IsLeftOf-collected in
          ap (λ (g : History). list_any (is_edit_of group) g.revisions || has g.collected group) is.revisions_is ∙
          known-left (collected_at h floor groups) group is.of_engine.forgets.formed
          (or_left (list_any (is_edit_of group) h.revisions) (has (collected_at h floor groups).collected group)
          (of_one (HasEdit (collected_at h floor groups)) (undone_now (collected_at h floor groups)) group is.of_engine.undone_known there).1)

-- ---- the parts after it

module _ (union text : List ℕ) (revisions : History) (limit spent : ℕ) (held : IsHeld union text revisions limit spent) (floor : ℕ) (groups : List ℕ)
    (may : MayCollect revisions floor groups) (union_after : List ℕ) (revisions_after : History)
    (union_is : union_after ≡ items_outside (map (is_dropped (collected_at revisions floor groups)) revisions.characters) union)
    (revisions_is : revisions_after ≡ left_of (collected_at revisions floor groups)) where
  abbrev later : History
  later = collected_at revisions floor groups

  undone-after : undone_now revisions_after ≡ undone_now revisions
  undone-after =
      ap undone_now revisions_is ∙ ap (undone (left_of later).revisions) (head-left later may.known) ∙ undone-left later may.known (head later) may.known

  known-after : AllByRecursion (IsKnown revisions_after) (undone_now revisions)
  known-after = of_all (IsKnown revisions_after) (undone_now revisions) (λ group there. (
    (of_one (IsKnown revisions) (undone_now revisions) group held.known there).0,
    ∥∥₁_elim held.some (Coded-set coded_bool _ _) (λ (s : (h : History) × IsLeftOf union revisions h).
        known-collected union revisions s.0 floor groups s.1 may union_after revisions_after union_is revisions_is group
        (ap (λ (set : List ℕ). has set group) (sym (undone_now-is union revisions s.0 s.1)) ∙ there)),
  ))

  pub IsHeld-collected : IsHeld union_after text revisions_after limit spent
  IsHeld-collected = record {
    some =
        ∥∥₁_map held.some (λ (s : (h : History) × IsLeftOf union revisions h).
        (collected_at s.0 floor groups, IsLeftOf-collected union revisions s.0 floor groups s.1 may union_after revisions_after union_is revisions_is));
    positions =
        ∥∥₁_elim held.some (ℕ_set _ _) (λ (s : (h : History) × IsLeftOf union revisions h).
        positions-collected union revisions s.0 floor groups s.1 may union_after revisions_after union_is revisions_is);
    floor = omega (arith, ap (λ (g : History). g.floor) revisions_is, ap head revisions_is, head-left later may.known, may.known);
    shown =
        held.shown ∙
        ∥∥₁_elim held.some (Coded-set (coded_list coded_ℕ) _ _) (λ (s : (h : History) × IsLeftOf union revisions h).
        shown-collected union revisions s.0 floor groups s.1 may union_after revisions_after union_is revisions_is);
    known = subst (λ (set : List ℕ). AllByRecursion (IsKnown revisions_after) set) (sym undone-after) known-after;
    within = held.within;
    limit_bound = held.limit_bound;
    bound =
        omega (
          arith,
          held.bound,
          ap byte_len union_is,
          byte_len-outside (map (is_dropped (collected_at revisions floor groups)) revisions.characters) union,
        );
  }

-- ---- the histories that the engine stands for

pub StandsFor-collected : (engine new : State) (h : History) (floor : ℕ) (groups : List ℕ) → StandsFor engine h →
    IsCollectionTaken engine.revisions floor groups → IsNextLeft engine floor groups new → StandsFor new (collected_at h floor groups)
StandsFor-collected engine new h floor groups stands taken next = record {
  given =
      rw next.limit (IsGiven-after engine.limit h (collects floor groups) stands.given
      (MayCollect-said engine.union engine.revisions h floor groups (IsLeftOf-stands engine h stands) taken));
  union = now.union_is;
  revisions = now.revisions_is;
  spent = next.spent ∙ stands.spent;
}
  where
    now : IsLeftOf new.union new.revisions (collected_at h floor groups)
    now =
        IsLeftOf-collected engine.union engine.revisions h floor groups (IsLeftOf-stands engine h stands) taken new.union new.revisions
        next.union_is next.revisions_is

-- ---- what is collected after an entry may be asked

module _ (g : History) where
  resting_at : (floor : ℕ) (retired : List ℕ) →
      AllByRecursion (IsAtRest g floor) (filter (λ group. not (has g.collected group) && is_at_rest g floor group) retired)
  resting_at floor [] = tt
  resting_at floor (group ∷ retired) = by (not (has g.collected group) && is_at_rest g floor group) refl (resting_at floor retired)
    where
      by : (b : Bool) → (not (has g.collected group) && is_at_rest g floor group) ≡ b →
          AllByRecursion (IsAtRest g floor) (filter (λ group. not (has g.collected group) && is_at_rest g floor group) retired) →
          AllByRecursion (IsAtRest g floor) (cond b (group ∷ filter (λ group. not (has g.collected group) && is_at_rest g floor group) retired)
          (filter (λ group. not (has g.collected group) && is_at_rest g floor group) retired))
      by true is rest = ((is_at_rest_iff g floor group).0 (and_parts (not (has g.collected group)) (is_at_rest g floor group) is).1, rest)
      by false is rest = rest

  taken_at : (floor : ℕ) (groups : List ℕ) → MayCollect g floor groups →
      IfSome (collection_at floor groups) (λ collection. IsCollectionTaken g collection.floor collection.groups)
  taken_at floor [] may = tt
  taken_at floor (group ∷ groups) may = may

  taken-collection_of : (retired : List ℕ) (most : ℕ) → is_clean g.revisions g.floor ≡ true → g.floor ≤ most → most ≤ head g →
      IfSome (collection_of g retired most) (λ collection. IsCollectionTaken g collection.floor collection.groups)
  taken-collection_of retired most clean low high =
      let greatest = greatest_clean_floor g.revisions most in
      let floor = clean_floor g.revisions most in
      taken_at floor (resting_groups g retired floor) (record {
        rises = greatest.greatest g.floor low clean;
        known = omega (arith, greatest.is_within, high);
        clean = greatest.clean;
        at_rest = resting_at floor retired;
      })

  pub taken-said : (retired : List ℕ) (most : ℕ) → is_clean g.revisions g.floor ≡ true → g.floor ≤ most → most ≤ head g →
      (found : Option (ℕ × BTreeSet ℕ)) → collection_said found ≡ collection_of g retired most →
      IfSome found (λ some. IsCollectionTaken g some.0 some.1.keys)
  taken-said retired most clean low high None is = tt
  taken-said retired most clean low high (Some found) is =
      subst (λ (said : Option Collection). IfSome said (λ collection. IsCollectionTaken g collection.floor collection.groups)) (sym is)
      (taken-collection_of retired most clean low high)
