-- The last step of an undo: it is the undo step of every history that the engine stands for.
use Rattle.std.proofs.Common.{◌≡◌, ℕ, ◌+◌, ◌-◌, ◌^◌, ◌<◌, true, not, List, [], ◌∷◌, ◌++◌, length, map, take_all, length-append, inl, inr, ◌⊎◌, refl, ap, sym, ◌∙◌, subst, arith}
use Rattle.std.proofs.Math.Logic.{∥∥₁_map}
use Rattle.std.specs.List.{AllByRecursion, list_any}
use Rattle.plain_text.specs.Numbers.{flipped, has, IsRising}
use Rattle.std.proofs.lemmas.Bool.{or_cases}
use Rattle.std.proofs.lemmas.List.{take-append-le}
use Rattle.plain_text.specs.Text.{byte_len}
use Rattle.plain_edits.specs.declared.delta.UnitDelta.{UnitDelta}
use Rattle.plain_edits.specs.History.{Tagged, Revision, undo, History, head, is_visible}
use Rattle.plain_edits.specs.HistorySteps.{MayUndoSet}
use Rattle.plain_edits.specs.Edits.{undid, is_edit_of}
use Rattle.plain_edits.proofs.callers.FirstLemmas.{is_visible-take}
use Rattle.plain_edits.proofs.callers.HistoryLemmas.{IsSound-undid, text_at-undid}
use Rattle.plain_edits.specs.HistorySteps as Steps
use Rattle.delta_core.specs.Synthesis.{IsBetween}
use Rattle.collection_laws.specs.Left.{left_of}
use Rattle.collection_laws.proofs.ForCallers.{MayForget-after_step, left_of-undid}
use Rattle.rev_list.specs.WithoutText.{without_text}
use Rattle.rev_rebase.specs.Rebase.{characters_of}
use Rattle.rev_undo.proofs.ForCallers.{of_all, of_one}
use Rattle.rev_list.specs.Hidden.{hidden_at}
use Rattle.rev_undo.specs.Allowed.{HasEdit}
use Rattle.rev_undo.specs.Under.{AgreesOnCollected}
use Rattle.rev_list.specs.Edit.{undone_by, MayUndoGroups}
use Rattle.plain_edits.specs.Undo.{undone_now}
use Rattle.plain_text.proofs.callers.NumberLemmas.{IsRising-flipped}
use Rattle.rev_engine.specs.Asked.{undoes, IsKnown, MayAskUndo}
use Rattle.rev_engine.specs.State.{IsHeld, IsHistoryOf, IsLeftOf, State, shown_at}
use Rattle.rev_engine.specs.declared.edit.Change.{Change}
use Rattle.rev_engine.specs.Engine.{IsChange, IsChangeBy, StandsFor}
use Rattle.rev_engine.proofs.AskedLemmas.{IsGiven-after, IsKnown-more, IsOfEngine-undid, undone_now-undid}
use Rattle.rev_engine.proofs.LeftLemmas.{IsChange-left, has_edit-left}
use Rattle.rev_engine.proofs.StandLemmas.{IsHistoryOf-left, IsLeftOf-said, IsLeftOf-stands, collected-is, forgets-stands, head-stands, undone_now-is, undone_now-stands}
use Rattle.rev_engine.proofs.ByteLemmas.{byte_len-outside}
use Rattle.rev_engine.proofs.NextLemmas.{GoesOn, IsChangeBy-between, goes-on-by, some-left}

-- ---- when a set may be undone

-- the set may be undone in the history: what of its groups is collected has to agree with what is undone there, and so has an edit
pub MayUndoSet-left : (union : List ℕ) (revisions h : History) (groups : List ℕ) → IsLeftOf union revisions h → AllByRecursion (IsKnown revisions) groups →
    AgreesOnCollected revisions groups → IsRising groups → MayUndoSet h groups
MayUndoSet-left union revisions h groups left known agrees rising = record {
  allowed = record {
    known =
        of_all (HasEdit h) groups (λ group there.
        let is = of_one (IsKnown revisions) groups group known there in
        (is.0, by group there (or_cases (list_any (is_edit_of group) revisions.revisions) (has revisions.collected group) is.1)));
    frozen = of_all (λ group. has groups group ≡ has (undone_now h) group) h.collected (λ group there. agreed group there);
  };
  rising = rising;
}
  where
    agreed : (group : ℕ) → has h.collected group ≡ true → has groups group ≡ has (undone_now h) group
    agreed group there =
        of_one (λ g. has groups g ≡ has (undone_now revisions) g) revisions.collected group agrees
        (ap (λ (set : List ℕ). has set group) (collected-is union revisions h left) ∙ there) ∙
        ap (λ (set : List ℕ). has set group) (undone_now-is union revisions h left)

    by : (group : ℕ) → has groups group ≡ true →
        ((list_any (is_edit_of group) revisions.revisions ≡ true) ⊎ (has revisions.collected group ≡ true)) →
        list_any (is_edit_of group) h.revisions ≡ true
    by group there (inl edit) = has_edit-left h group (ap (λ (g : History). list_any (is_edit_of group) g.revisions) (sym left.revisions_is) ∙ edit)
    by group there (inr collected) =
        let frozen : has h.collected group ≡ true = ap (λ (set : List ℕ). has set group) (sym (collected-is union revisions h left)) ∙ collected in
        (of_one (HasEdit h) (undone_now h) group left.of_engine.undone_known (sym (agreed group frozen) ∙ there)).1

-- ---- the parts after it

pub head-undid : (h : History) (groups : List ℕ) → head (undid h groups) ≡ head h + 1
head-undid h groups = length-append h.revisions (undo groups ∷ [])

module _ (union : List ℕ) (revisions : History) (groups : List ℕ) where
  pub IsHistoryOf-undid : (h : History) → IsHistoryOf union revisions h → IsHistoryOf union (undid revisions groups) (undid h groups)
  IsHistoryOf-undid h is = record {
    sound = IsSound-undid h groups is.sound;
    union_is = is.union_is;
    revisions_is = ap (λ g. undid g groups) is.revisions_is;
  }

  pub IsChangeBy-undid : (h : History) → IsHistoryOf union revisions h → (units : UnitDelta) (from : ℕ) → from ≡ head revisions →
      IsBetween union (hidden_at (undid revisions groups) from) (hidden_at (undid revisions groups) (head (undid revisions groups))) units →
      IsChangeBy h (undid h groups) units
  IsChangeBy-undid h is units from from_is between =
      IsChangeBy-between union union revisions (undid revisions groups) (λ g. undid g groups) IsHistoryOf-undid h is units from
      (text_at-undid h groups (head h) is.sound (omega arith)) from_is between

  -- what is left goes along
  left_undid : AllByRecursion (IsKnown revisions) groups → AgreesOnCollected revisions groups → IsRising groups → (h : History) →
      IsLeftOf union revisions h → IsLeftOf union (undid revisions groups) (undid h groups)
  left_undid known agrees rising h left =
      let may = MayUndoSet-left union revisions h groups left known agrees rising in
      IsLeftOf-said union (undid revisions groups) (undid h groups) (undid (left_of h) groups) (IsOfEngine-undid h groups left.of_engine may)
      (left_of-undid h groups left.of_engine.forgets may) (IsHistoryOf-undid (left_of h) (IsHistoryOf-left union revisions h left))

  module _ (text : List ℕ) (limit spent : ℕ) (held : IsHeld union text revisions limit spent) (known : AllByRecursion (IsKnown revisions) groups)
      (agrees : AgreesOnCollected revisions groups) (rising : IsRising groups) where
    short-undid : (at : ℕ) → byte_len (shown_at union (undid revisions groups) at) < 2 ^ 64
    short-undid at =
        omega (arith, byte_len-outside (hidden_at (undid revisions groups) at) union, held.bound, held.within)

    IsHeld-undid : (text_now : List ℕ) → text_now ≡ shown_at union (undid revisions groups) (head (undid revisions groups)) →
        IsHeld union text_now (undid revisions groups) limit spent
    IsHeld-undid text_now shown = record {
      some =
          ∥∥₁_map held.some (λ (s : (h : History) × IsLeftOf union revisions h). (undid s.0 groups, left_undid known agrees rising s.0 s.1));
      positions = held.positions;
      floor = omega (arith, held.floor, head-undid revisions groups);
      shown = shown;
      known =
          subst (λ (set : List ℕ). AllByRecursion (IsKnown (undid revisions groups)) set) (sym (undone_now-undid revisions groups))
          (IsKnown-more revisions (undid revisions groups) (undo groups) groups refl refl known);
      within = held.within;
      limit_bound = held.limit_bound;
      bound = held.bound;
    }

    pub goes-on-undid : (units : UnitDelta) → ((h : History) → IsHistoryOf union revisions h → IsChangeBy h (undid h groups) units) →
        GoesOn text union (undid revisions groups) limit spent units
    goes-on-undid units change =
        goes-on-by union union revisions (undid revisions groups) (λ h. undid h groups) IsHistoryOf-undid (some-left union revisions held.some) text limit spent held.shown
        (short-undid (head (undid revisions groups))) IsHeld-undid units change

-- ---- the histories that the engine stands for

module _ (engine : State) (h : History) (groups : List ℕ) (stands : StandsFor engine h) (known : AllByRecursion (IsKnown engine.revisions) groups)
    (agrees : AgreesOnCollected engine.revisions groups) (rising : IsRising groups) where
  may_undo : MayUndoSet h groups
  may_undo = MayUndoSet-left engine.union engine.revisions h groups (IsLeftOf-stands engine h stands) known agrees rising

  goes_along : left_of (undid h groups) ≡ undid (left_of h) groups
  goes_along = left_of-undid h groups (forgets-stands engine h stands) may_undo

  pub StandsFor-undid : head engine.revisions < 2 ^ 63 - 1 → StandsFor (record engine { revisions = undid engine.revisions groups }) (undid h groups)
  StandsFor-undid numbered = record {
    given =
        IsGiven-after engine.limit h (undoes groups) stands.given
        (record { allowed = may_undo; has_number = omega (arith, numbered, head-stands engine h stands) });
    union = stands.union ∙ ap characters_of (sym goes_along);
    revisions = ap (λ g. undid g groups) stands.revisions ∙ ap without_text (sym goes_along);
    spent = stands.spent;
  }

  -- what the undo changes of what is left it changes of the history
  pub IsChange-undid : (change : Change) → IsChange (left_of h) (undid (left_of h) groups) change → IsChange h (undid h groups) change
  IsChange-undid change changes =
      let forgets = forgets-stands engine h stands in
      let more : head (undid h groups) ≡ head h + 1 = head-undid h groups in
      IsChange-left h (undid h groups) forgets (MayForget-after_step h (Steps.undoes groups) forgets may_undo) forgets.formed.floor
      (omega (arith, more)) change (subst (λ g. IsChange (left_of h) g change) (sym goes_along) changes)

-- by the groups in which the set differs
module _ (engine : State) (h : History) (groups : List ℕ) (stands : StandsFor engine h)
    (may : MayAskUndo engine.revisions (undone_by engine.revisions groups)) (agrees : AgreesOnCollected engine.revisions (undone_by engine.revisions groups))
    (rising : IsRising (undone_by engine.revisions groups)) where
  same_set : undone_by engine.revisions groups ≡ undone_by h groups
  same_set = ap (λ (set : List ℕ). flipped set groups) (undone_now-stands engine h stands)

  pub StandsFor-undid_by : (new : State) → new ≡ record engine { revisions = undid engine.revisions (undone_by engine.revisions groups) } →
      StandsFor new (undid h (undone_by h groups))
  StandsFor-undid_by new is =
      subst (λ (set : List ℕ). StandsFor new (undid h set)) same_set
      (subst (λ (e : State). StandsFor e (undid h (undone_by engine.revisions groups))) (sym is)
      (StandsFor-undid engine h (undone_by engine.revisions groups) stands may.known agrees rising may.has_number))

  pub IsChange-undid_by : (change : Change) → IsChange (left_of h) (undid (left_of h) (undone_by engine.revisions groups)) change →
      IsChange h (undid h (undone_by h groups)) change
  IsChange-undid_by change changes =
      subst (λ (set : List ℕ). IsChange h (undid h set) change) same_set
      (IsChange-undid engine h (undone_by engine.revisions groups) stands may.known agrees rising change changes)

-- ---- the same, of what the calls give

-- the list may take the set
pub may_push_by : (state now : State) (groups : List ℕ) → state ≡ now → IsRising (undone_now state.revisions) →
    MayAskUndo now.revisions (undone_by now.revisions groups) → AgreesOnCollected now.revisions (undone_by now.revisions groups) →
    MayUndoGroups state.revisions (undone_by state.revisions groups)
may_push_by state now groups view up may agrees = record {
  known = subst (λ (s : State). AllByRecursion (IsKnown s.revisions) (undone_by s.revisions groups)) (sym view) may.known;
  frozen = subst (λ (s : State). AgreesOnCollected s.revisions (undone_by s.revisions groups)) (sym view) agrees;
  rising = IsRising-flipped (undone_now state.revisions) groups up;
}

-- what the last revision shows does not depend on the next one
shown-before : (revisions : List Revision) (last : Revision) (t : Tagged) → is_visible (revisions ++ last ∷ []) (length revisions) t ≡ is_visible revisions (length revisions) t
shown-before revisions last t =
    sym (is_visible-take (revisions ++ last ∷ []) (length revisions) (length revisions) t (omega arith)) ∙
    ap (λ rs. is_visible rs (length revisions) t)
    (take-append-le (length revisions) revisions (last ∷ []) (omega arith) ∙ take_all (length revisions) revisions (omega arith))

module _ (state now : State) (text groups : List ℕ) (view : state ≡ now) (held : IsHeld state.union text state.revisions state.limit state.spent)
    (may : MayAskUndo now.revisions (undone_by now.revisions groups)) (agrees : AgreesOnCollected now.revisions (undone_by now.revisions groups))
    (up : IsRising (undone_now state.revisions)) (copy pushed : History) (copied : copy ≡ state.revisions) (push : pushed ≡ undid copy (undone_by copy groups)) (units : UnitDelta)
    (between : IsBetween state.union (hidden_at state.revisions (head state.revisions)) (hidden_at pushed (head pushed)) units) where
  -- an undo changes nothing of what was hidden before it
  hidden-before : (h : History) (set : List ℕ) → hidden_at (undid h set) (head h) ≡ hidden_at h (head h)
  hidden-before h set = ap (λ f. map f h.characters) (λ i t. not (shown-before h.revisions (undo set) t i))

  pushed_is : pushed ≡ undid state.revisions (undone_by state.revisions groups)
  pushed_is = push ∙ ap (λ h. undid h (undone_by h groups)) copied

  known_then : AllByRecursion (IsKnown state.revisions) (undone_by state.revisions groups)
  known_then = subst (λ (s : State). AllByRecursion (IsKnown s.revisions) (undone_by s.revisions groups)) (sym view) may.known

  change : (h : History) → IsHistoryOf state.union state.revisions h → IsChangeBy h (undid h (undone_by state.revisions groups)) units
  change h is =
      let set : List ℕ = undone_by state.revisions groups in
      IsChangeBy-undid state.union state.revisions set h is units (head state.revisions) refl
      (subst (λ flags. IsBetween state.union flags (hidden_at (undid state.revisions set) (head (undid state.revisions set))) units)
      (sym (hidden-before state.revisions set))
      (subst (λ g. IsBetween state.union (hidden_at state.revisions (head state.revisions)) (hidden_at g (head g)) units) pushed_is between))

  pub goes-on-pushed : GoesOn text state.union pushed state.limit state.spent units
  goes-on-pushed =
      subst (λ g. GoesOn text state.union g state.limit state.spent units) (sym pushed_is)
      (goes-on-undid state.union state.revisions (undone_by state.revisions groups) text state.limit state.spent held known_then
      (subst (λ (s : State). AgreesOnCollected s.revisions (undone_by s.revisions groups)) (sym view) agrees)
      (IsRising-flipped (undone_now state.revisions) groups up) units change)

  pub change-pushed : (rev : ℕ) → rev ≡ head copy + 1 → (h : History) → IsHistoryOf now.union now.revisions h →
      IsChange h (undid h (undone_by now.revisions groups)) (record { rev = rev; units = units })
  change-pushed rev rev_is =
      subst (λ (s : State). (h : History) → IsHistoryOf s.union s.revisions h →
      IsChange h (undid h (undone_by s.revisions groups)) (record { rev = rev; units = units })) view
      (λ h is.
      let set : List ℕ = undone_by state.revisions groups in
      let next : head (undid h set) ≡ rev = omega (arith, head-undid h set, rev_is, ap head copied, ap head is.revisions_is) in
      subst (λ n. IsChange h (undid h set) (record { rev = n; units = units })) next (change h is))
