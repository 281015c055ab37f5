-- Selective undo: what holds of each character holds of all, and of the text.
use Rattle.std.proofs.Common.{◌≡◌, ℕ, ◌+◌, Bool, true, false, ◌||◌, ◌⊎◌, inl, inr, List, [], refl, ap, sym, ◌∙◌}
use Rattle.std.proofs.lemmas.Bool.{both_ways}
use Rattle.plain_text.specs.Numbers.{has}
use Rattle.plain_text.proofs.callers.ListLemmas.{AllByRecursion-weaker}
use Rattle.plain_text.proofs.callers.NumberLemmas.{has-with_numbers, IsRising-with_numbers}
use Rattle.plain_edits.specs.History.{History, head, is_visible, IsTaggedBy, IsSound}
use Rattle.plain_edits.specs.Undo.{undone_now, undone_with, UndoesSelected}
use Rattle.plain_edits.proofs.callers.HistoryLemmas.{shown_same, undone-undo}
use Rattle.plain_edits.proofs.callers.UndoLemmas.{undoes_selected}
use Rattle.plain_edits.specs.HistorySteps.{MayUndoSet}
use Rattle.rev_undo.specs.Allowed.{HasEdit}
use Rattle.rev_undo.proofs.ForCallers.{of_all, of_one, rising_after}
use Rattle.rev_engine.specs.Asked.{IsGiven}
use Rattle.rev_engine.specs.Selective.{undid_back, AreMore, IsSelective}
use Rattle.rev_engine.proofs.AskedLemmas.{IsOfEngine-given}

pub undo_is_selective : (history : History) (more : List ℕ) → IsSound history → IsSelective history more
undo_is_selective history more sound = record {
  groups = λ group.
      ap (λ groups. has groups group) (undone-undo history.revisions (undone_with history more)) ∙ has-with_numbers (undone_now history) more group;
  each = AllByRecursion-weaker (IsTaggedBy (head history)) (UndoesSelected history more) (undoes_selected history more) history.characters sound;
  back =
      shown_same (IsTaggedBy (head history)) (is_visible (undid_back history more).revisions (head history + 2))
      (is_visible history.revisions (head history)) (λ tagged is. (undoes_selected history more tagged is).back) history.characters sound;
}

either : (a b : Bool) → (a || b) ≡ true → (a ≡ true) ⊎ (b ≡ true)
either true b is = inl refl
either false b is = inr is

unless : (a b : Bool) → (b ≡ true → a ≡ true) → (a || b) ≡ a
unless true b also = refl
unless false true also = sym (also refl)
unless false false also = refl

-- some groups more may be undone beside those that are
pub may_undo_more : (limit : ℕ) (history : History) (more : List ℕ) → IsGiven limit history → AreMore history more → MayUndoSet history (undone_with history more)
may_undo_more limit history more given are =
    let is = IsOfEngine-given limit history given in
    record {
      allowed = record {
        known =
            of_all (HasEdit history) (undone_with history more) (λ group there.
            elim (either (has (undone_now history) group) (has more group) (rw (has-with_numbers (undone_now history) more group) at there)) [
              | inl undone ↦ of_one (HasEdit history) (undone_now history) group is.undone_known undone
              | inr new ↦ of_one (HasEdit history) more group are.known new
            ]);
        frozen =
            of_all (λ group. has (undone_with history more) group ≡ has (undone_now history) group) history.collected (λ group collected.
            has-with_numbers (undone_now history) more group ∙
            unless (has (undone_now history) group) (has more group) (λ new.
            absurd (both_ways (has history.collected group)
            (of_one (λ g. has history.collected g ≡ false) more group are.not_collected new) collected)));
      };
      rising = IsRising-with_numbers (undone_now history) more (rising_after [] history.revisions (head history) tt is.forgets.formed.sets);
    }
