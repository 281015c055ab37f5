-- The edit of the front end: its delta fits, and says what its unit delta says.
use Rattle.std.proofs.Common.{◌≡◌, ℕ, false, List, length, Option, Result, Ok, Err, IfOk, refl, ap, sym, ◌∙◌}
use Rattle.std.proofs.Math.Logic.{∥∥₁_elim, ∥∥₁_map}
use Rattle.std.specs.Arc.{arc_value}
use Rattle.std.specs.Coded.{Coded-set, coded_list, coded_ℕ}
use Rattle.plain_text.specs.Numbers.{has}
use Rattle.plain_edits.specs.Undo.{undone_now}
use Rattle.plain_edits.proofs.callers.EditLemmas.{text_at-edited_at_head}
use Rattle.plain_edits.specs.History.{History, head, text_at}
use Rattle.delta_core.specs.Units.{text_after}
use Rattle.delta_core.proofs.ForCallers.{IsUnitsOf-delta_of, IsDeltaOf-delta_of}
use Rattle.rev_engine.specs.declared.edit.UnitEdit.{UnitEdit}
use Rattle.rev_engine.specs.Engine.{IsSaidBy, StandsFor}
use Rattle.rev_engine.specs.Given.{AskedEdit, after, meant}
use Rattle.rev_engine.specs.State.{State}
use Rattle.rev_engine.proofs.ForCallers.{undone_now-stands}
use Rattle.undo_groups.specs.Groups.{Groups}
use Rattle.edit_groups.specs.declared.typing.Typing.{Typing}
use Rattle.doc_text.specs.declared.engine_step.EngineStep.{EngineStep}
use Rattle.doc_text.specs.InMemory.{head_shown}
use Rattle.doc_text.specs.Inner.{IsAfterEdit, IsFrontEdit, IsSaidOfSome, unit_edit}
use Rattle.doc_text.specs.Whole.{IsWhole, IsWholeOf}
use Rattle.doc_text.proofs.HeadLemmas.{head_shown-stands, some-whole}
use Rattle.doc_text.proofs.MoveLemmas.{head-after, sound-given}

-- the edit that it says, in a history
abbrev pub said_edit : History → UnitEdit → AskedEdit
said_edit h edit = unit_edit edit.group h edit.units

module _ (h : History) (engine : State) (stands : StandsFor engine h) (edit : UnitEdit) (is : IsFrontEdit engine edit) where
  base-front : edit.units.base ≡ length (text_at h (head h))
  base-front = is.base ∙ ap length (head_shown-stands engine h stands)

  pub IsSaidBy-front : IsSaidBy h edit (said_edit h edit)
  IsSaidBy-front =
      let text = text_at h (head h) in
      record {
        base = refl;
        fits = (IsDeltaOf-delta_of text edit.units is.canonical.well_formed base-front).fits;
        units = IsUnitsOf-delta_of text edit.units is.canonical base-front;
        group = refl;
        priority = sym is.priority;
        author = sym is.author;
      }

  -- ---- the text after it, in a group that is not undone

  pub text_at-front : has (undone_now engine.revisions) edit.group ≡ false →
      text_at (after h (said_edit h edit)) (head (after h (said_edit h edit))) ≡ text_after edit.units (text_at h (head h))
  text_at-front shown =
      let text = text_at h (head h) in
      let asked = said_edit h edit in
      ap (text_at (after h asked)) (head-after h asked) ∙
      text_at-edited_at_head h (meant h asked) (sound-given engine h stands) refl
      (ap (λ (groups : List ℕ). has groups edit.group) (sym (undone_now-stands engine h stands)) ∙ shown) ∙
      sym (IsUnitsOf-delta_of text edit.units is.canonical base-front).leads

-- whatever the history
module _ (engine : State) (groups : Groups) (typing : Option Typing) (whole : IsWhole engine groups typing) (edit : UnitEdit) (is : IsFrontEdit engine edit) where
  pub IsSaidOfSome-front : IsSaidOfSome engine edit
  IsSaidOfSome-front =
      ∥∥₁_map (some-whole engine groups typing whole) (λ (s : (h : History) × StandsFor engine h).
      (s.0, said_edit s.0 edit, record { stands = s.1; said = IsSaidBy-front s.0 engine s.1 edit is }))

  shown-front : (step : EngineStep) → has (undone_now engine.revisions) edit.group ≡ false →
      ((h : History) → StandsFor engine h → IsAfterEdit h (said_edit h edit) step) →
      head_shown (arc_value step.engine) ≡ text_after edit.units (head_shown engine)
  shown-front step is_shown each =
      ∥∥₁_elim whole (Coded-set (coded_list coded_ℕ) _ _) (λ (s : (h : History) × IsWholeOf h engine groups typing).
      let h = s.0 in
      let stands = s.1.state.stands in
      let made = each h stands in
      head_shown-stands (arc_value step.engine) (after h (said_edit h edit)) made.stands ∙ text_at-front h engine stands edit is is_shown ∙
      ap (text_after edit.units) (sym (head_shown-stands engine h stands)))

  pub leads-front : {E : Type 0} (result : Result EngineStep E) → has (undone_now engine.revisions) edit.group ≡ false →
      ((h : History) → StandsFor engine h → IfOk result (IsAfterEdit h (said_edit h edit))) →
      IfOk result (λ step. head_shown (arc_value step.engine) ≡ text_after edit.units (head_shown engine))
  leads-front (Ok step) is_shown each = shown-front step is_shown each
  leads-front (Err fault) is_shown each = tt
