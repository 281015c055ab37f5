-- More revisions give nothing new to collect, where no session acknowledges or ends and no group is left behind.
use Rattle.std.proofs.Common.{◌≡◌, ◌⊎◌, ℕ, ◌≤◌, Bool, true, false, not, ◌&&◌, cond, min, List, [], ◌∷◌, ◌++◌, length, filter, Option, Some, None, refl, ap, ap₂, sym, ◌∙◌, inl, inr, arith, length-append}
use Rattle.std.specs.List.{AllByRecursion}
use Rattle.std.proofs.Math.Nat.{le-min}
use Rattle.plain_text.specs.Numbers.{has}
use Rattle.plain_edits.specs.Collection.{clean_floor, is_at_rest, resting_groups}
use Rattle.plain_edits.specs.History.{History, Revision, head}
use Rattle.plain_edits.proofs.callers.CollectionLemmas.{greatest_clean_floor}
use Rattle.plain_edits.proofs.callers.WellFormedLemmas.{clean_floor-later, resting_groups-later}
use Rattle.edit_groups.proofs.ForCallers.{least-within}
use Rattle.doc_text.specs.Collecting.{AreAcknowledged, AreEnded, HasNoneLeft, least_acknowledged}
use Rattle.doc_text.specs.Laws.{GoesOn}
use Rattle.doc_text.specs.Writing.{Writing}
use Rattle.doc_text.proofs.RestLemmas.{clean-head, rests-head}
use Rattle.doc_text.proofs.SessionLemmas.{least-ended}

-- all sessions ended, or the least acknowledgement is the same at a later head
ended_or_same : (h : History) (later : ℕ) (sessions : List (Option ℕ)) → AreAcknowledged h sessions → head h ≤ later →
    AreEnded sessions ⊎ (least_acknowledged later sessions ≡ least_acknowledged (head h) sessions)
ended_or_same h later [] are more = inl tt
ended_or_same h later (None ∷ sessions) are more =
    elim (ended_or_same h later sessions are.1 more) [ inl ended ↦ inl (refl, ended) | inr same ↦ inr same ]
ended_or_same h later (Some rev ∷ sessions) are more =
    elim (ended_or_same h later sessions are.1 more) [
      | inl ended ↦ inr (
          ap (min rev) (least-ended later sessions ended) ∙ (let high : rev ≤ later = omega (arith, are.0.1, more) in omega (arith, high, are.0.1)) ∙
          ap (min rev) (sym (least-ended (head h) sessions ended)))
      | inr same ↦ inr (ap (min rev) same)
    ]

-- where no retired group is at rest at the head, all of them are collected, and so none is at rest anywhere
module _ (history next : History) (same : next.collected ≡ history.collected) where
  none_anywhere : (retired : List ℕ) (floor : ℕ) → resting_groups history retired (head history) ≡ [] → resting_groups next retired floor ≡ []
  none_anywhere [] floor none = refl
  none_anywhere (group ∷ retired) floor none =
      by (has history.collected group) refl (is_at_rest history (head history) group) (rests-head history group) (none_anywhere retired floor) none
    where
      by : (gone : Bool) → has history.collected group ≡ gone → (rests : Bool) → rests ≡ true →
          (resting_groups history retired (head history) ≡ [] → resting_groups next retired floor ≡ []) →
          cond (not gone && rests) (group ∷ resting_groups history retired (head history)) (resting_groups history retired (head history)) ≡ [] →
          resting_groups next (group ∷ retired) floor ≡ []
      by true is rests rests_is rest none =
          ap (λ b. cond (not b && is_at_rest next floor group) (group ∷ resting_groups next retired floor) (resting_groups next retired floor))
          (ap (λ collected. has collected group) same ∙ is) ∙ rest none
      by false is true rests_is rest none = absurd cc
      by false is false rests_is rest none = absurd cc

-- where nothing waits, nothing does after more revisions
module _ (before after : Writing) (more : List Revision) (are : AreAcknowledged before.history before.sessions) (on : GoesOn before after more) where
  abbrev h : History
  h = before.history

  abbrev next : History
  next = after.history

  further : head h ≤ head next
  further = omega (arith, ap length on.revisions, length-append h.revisions more)

  pub HasNoneLeft-later : HasNoneLeft before → HasNoneLeft after
  HasNoneLeft-later none =
      elim (ended_or_same h (head next) before.sessions are further) [
        | inl ended ↦
            ap₂ (λ retired most. resting_groups next retired (clean_floor next.revisions most)) on.retired
            (ap (least_acknowledged (head next)) on.sessions) ∙
            none_anywhere h next on.collected before.groups.retired (clean_floor next.revisions (least_acknowledged (head next) before.sessions))
            (ap (resting_groups h before.groups.retired) (sym (ap (clean_floor h.revisions) (least-ended (head h) before.sessions ended) ∙ clean-head h.revisions)) ∙ none)
        | inr same ↦
            let most = least_acknowledged (head h) before.sessions in
            let within = least-within (head h) before.sessions in
            let low = (greatest_clean_floor h.revisions most).is_within in
            ap₂ (λ retired most. resting_groups next retired (clean_floor next.revisions most)) on.retired
            (ap (least_acknowledged (head next)) on.sessions ∙ same) ∙
            resting_groups-later h next more on.revisions on.collected before.groups.retired (clean_floor next.revisions most) (clean_floor h.revisions most)
            (clean_floor-later h next more on.revisions on.collected most within) (omega (arith, low, within)) none
      ]
