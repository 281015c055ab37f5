-- One more revision, an edit or an undo: what leads from the head before to the head after, and that the parts go together again.
use Rattle.std.proofs.Common.{◌≡◌, ℕ, ◌^◌, ◌<◌, List, length, refl, ap, sym, ◌∙◌, subst}
use Rattle.std.proofs.Math.Logic.{∥∥₁_elim, ∥∥₁_map}
use Rattle.std.proofs.Math.Nat.{ℕ_set}
use Rattle.std.specs.Coded.{Coded-set, coded_list, coded_ℕ}
use Rattle.plain_edits.specs.declared.delta.UnitDelta.{UnitDelta}
use Rattle.plain_text.specs.Text.{byte_len}
use Rattle.plain_edits.specs.History.{History, head, text_at}
use Rattle.delta_core.specs.Units.{text_after}
use Rattle.delta_core.specs.Synthesis.{IsBetween}
use Rattle.collection_laws.specs.Left.{left_of}
use Rattle.rev_list.specs.Hidden.{hidden_at}
use Rattle.rev_list.proofs.ForCallers.{hidden_without_text}
use Rattle.rev_engine.specs.State.{IsHeld, IsHistoryOf, IsLeftOf, shown_at}
use Rattle.rev_engine.specs.Engine.{IsChangeBy}
use Rattle.rev_engine.proofs.ChangeLemmas.{IsChange-between}
use Rattle.rev_engine.proofs.StandLemmas.{IsHistoryOf-left, shown-history}

-- the head text is edited by the change
pub record GoesOn (text union : List ℕ) (revisions : History) (limit spent : ℕ) (units : UnitDelta) : Type 0 where
  pub base : units.base ≡ length text
  pub short : byte_len (text_after units text) < 2 ^ 64
  pub holds : (text_now : List ℕ) → text_now ≡ text_after units text → IsHeld union text_now revisions limit spent

-- what is left of some history is one
pub some-left : (union : List ℕ) (revisions : History) → ∥ ((h : History) × IsLeftOf union revisions h) ∥₁ →
    ∥ ((h : History) × IsHistoryOf union revisions h) ∥₁
some-left union revisions some =
    ∥∥₁_map some (λ (s : (h : History) × IsLeftOf union revisions h). (left_of s.0, IsHistoryOf-left union revisions s.0 s.1))

-- the parts after a step are those of each history after the step
module _ (union union_after : List ℕ) (revisions revisions_after : History) (step : History → History)
    (goes : (h : History) → IsHistoryOf union revisions h → IsHistoryOf union_after revisions_after (step h)) where
  module _ (h : History) (is : IsHistoryOf union revisions h) where
    hidden_after : (at : ℕ) → hidden_at revisions_after at ≡ hidden_at (step h) at
    hidden_after at = ap (λ g. hidden_at g at) (goes h is).revisions_is ∙ hidden_without_text (step h) at

    -- what leads between the two heads is the change
    pub IsChangeBy-between : (units : UnitDelta) (from : ℕ) → text_at (step h) (head h) ≡ text_at h (head h) → from ≡ head revisions →
        IsBetween union_after (hidden_at revisions_after from) (hidden_at revisions_after (head revisions_after)) units →
        IsChangeBy h (step h) units
    IsChangeBy-between units from kept from_is between =
        IsChange-between h (step h) (record { rev = head (step h); units = units }) refl kept
        (subst (λ xs. IsBetween xs (hidden_at (step h) (head h)) (hidden_at (step h) (head (step h))) units) (goes h is).union_is
        (subst (λ before. IsBetween union_after before (hidden_at (step h) (head (step h))) units)
        (hidden_after from ∙ ap (hidden_at (step h)) (from_is ∙ ap head is.revisions_is))
        (subst (λ dead. IsBetween union_after (hidden_at revisions_after from) dead units)
        (hidden_after (head revisions_after) ∙ ap (λ g. hidden_at (step h) (head g)) (goes h is).revisions_is) between)))

    -- what the change leads to
    leads_from : (units : UnitDelta) → IsChangeBy h (step h) units →
        (units.base ≡ length (shown_at union revisions (head revisions))) ×
        (text_after units (shown_at union revisions (head revisions)) ≡ shown_at union_after revisions_after (head revisions_after))
    leads_from units change =
        let before : shown_at union revisions (head revisions) ≡ text_at h (head h) =
        shown-history union revisions h (head revisions) is ∙ ap (λ g. text_at h (head g)) is.revisions_is in
        let now : shown_at union_after revisions_after (head revisions_after) ≡ text_at (step h) (head (step h)) =
        shown-history union_after revisions_after (step h) (head revisions_after) (goes h is) ∙
        ap (λ g. text_at (step h) (head g)) (goes h is).revisions_is in (
          change.base ∙ ap length (sym before),
          ap (text_after units) before ∙ (change.leads ∙ sym now),
        )

  module _ (some : ∥ ((h : History) × IsHistoryOf union revisions h) ∥₁) where
    pub some-after : ∥ ((h : History) × IsHistoryOf union_after revisions_after h) ∥₁
    some-after = ∥∥₁_map some (λ (s : (h : History) × IsHistoryOf union revisions h). (step s.0, goes s.0 s.1))

    -- the same, where the history is some one
    leads : (units : UnitDelta) → ((h : History) → IsHistoryOf union revisions h → IsChangeBy h (step h) units) →
        (units.base ≡ length (shown_at union revisions (head revisions))) ×
        (text_after units (shown_at union revisions (head revisions)) ≡ shown_at union_after revisions_after (head revisions_after))
    leads units change = (
      ∥∥₁_elim some (ℕ_set _ _) (λ (s : (h : History) × IsHistoryOf union revisions h). (leads_from s.0 s.1 units (change s.0 s.1)).0),
      ∥∥₁_elim some (Coded-set (coded_list coded_ℕ) _ _) (λ (s : (h : History) × IsHistoryOf union revisions h).
          (leads_from s.0 s.1 units (change s.0 s.1)).1),
    )

    pub goes-on-by : (text : List ℕ) (limit spent : ℕ) → text ≡ shown_at union revisions (head revisions) →
        byte_len (shown_at union_after revisions_after (head revisions_after)) < 2 ^ 64 →
        ((text_now : List ℕ) → text_now ≡ shown_at union_after revisions_after (head revisions_after) →
        IsHeld union_after text_now revisions_after limit spent) →
        (units : UnitDelta) → ((h : History) → IsHistoryOf union revisions h → IsChangeBy h (step h) units) →
        GoesOn text union_after revisions_after limit spent units
    goes-on-by text limit spent shown short holds units change =
        let both = leads units change in
        let now : text_after units text ≡ shown_at union_after revisions_after (head revisions_after) = ap (text_after units) shown ∙ both.1 in
        record {
          base = both.0 ∙ ap length (sym shown);
          short = rw now short;
          holds = λ text_now text_is. holds text_now (text_is ∙ now);
        }
