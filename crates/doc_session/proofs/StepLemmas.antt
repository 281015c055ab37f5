-- The steps of the document in memory are those of the plain one.
use Rattle.std.proofs.Common.{◌≡◌, ℕ, ◌≤◌, Bool, List, [], ◌∷◌, length, Option, Some, None, Result, IfOk, refl, ap, sym, ◌∙◌, subst, arith}
use Rattle.plain_text.specs.declared.selection.Region.{Region}
use Rattle.plain_edits.specs.History.{head}
use Rattle.plain_edits.specs.HistorySteps.{Step, after_step}
use Rattle.xi_plain.specs.declared.command.EditAct.{EditAct}
use Rattle.edit_ops.specs.declared.replacement.Replacement.{Replacement}
use Rattle.plain_edits.specs.declared.delta.UnitDelta.{UnitDelta}
use Rattle.edit_ops.specs.Commands.{IsEffect, copied_text}
use Rattle.edit_ops.specs.Replacements.{IsEditOf}
use Rattle.rev_engine.specs.Engine.{IsChangeBy}
use Rattle.selection_core.specs.Mapped.{AreWithin}
use Rattle.undo_groups.specs.Groups.{Groups}
use Rattle.doc_text.specs.declared.revised.Revised.{Revised}
use Rattle.doc_text.specs.Revised.{IsTurnOf}
use Rattle.doc_text.proofs.ForCallers.{mapped_regions-moved, sound-given}
use Rattle.doc_view.specs.Idle.{do_nothing}
use Rattle.doc_view.specs.declared.moved.Goals.{Goals}
use Rattle.doc_view.specs.Moved.{AreMoved, with_goals}
use Rattle.doc_view.specs.View.{View}
use Rattle.doc_session.specs.declared.event.Effects.{Effects}
use Rattle.doc_session.specs.InMemory.{Doc}
use Rattle.doc_session.specs.Document.{Document}
use Rattle.doc_session.specs.Inner.{IsStepped}
use Rattle.doc_session.specs.Stands.{DocStandsFor}
use Rattle.doc_session.specs.Step.{effect_in, effect_on, history_step, is_idle, other_step, regions_by}

-- ---- regions over a revision

-- they are where the caret rule takes them
pub regions-moved : (doc : Doc) (plain : Document) (step : Step) (units : UnitDelta) (right : Bool) (goals : Goals) (moved : List Region) → DocStandsFor doc plain →
    IsChangeBy plain.text.history (after_step plain.text.history step) units → AreMoved units right goals doc.view.regions moved →
    moved ≡ regions_by plain (after_step plain.text.history step) right (with_goals goals plain.view.regions)
regions-moved doc plain step units right goals moved stands is are =
    let h = plain.text.history in
    are.is ∙
    mapped_regions-moved h (sound-given doc.text.engine h stands.text.parts.state.stands) step (record { rev = head (after_step h step); units = units }) is right
    (with_goals goals doc.view.regions) ∙
    ap (λ (v : View). regions_by plain (after_step h step) right (with_goals goals v.regions)) stands.view

pub AreWithin-more : (few many : ℕ) (regions : List Region) → few ≤ many → AreWithin few regions → AreWithin many regions
AreWithin-more few many [] less are = tt
AreWithin-more few many (region ∷ regions) less are = (omega (arith, are.0, less), AreWithin-more few many regions less are.1)

-- ---- an undo or a redo

module _ (plain : Document) (groups : Groups) where
  pub step-turned : {E : Type 0} (revised : Revised) (result : Result (Doc × Effects) E) →
      ((group : ℕ) → IsTurnOf plain.text (Some group) groups (Some revised) → IfOk result (IsStepped (history_step plain (Some group) groups))) →
      (group : Option ℕ) → IsTurnOf plain.text group groups (Some revised) → IfOk result (IsStepped (history_step plain group groups))
  step-turned revised result each None is = absurd is
  step-turned revised result each (Some group) is = each group is

  pub step-unturned : (group : Option ℕ) → IsTurnOf plain.text group groups None → history_step plain group groups ≡ other_step plain
  step-unturned None is = refl
  step-unturned (Some group) is = absurd is

-- ---- commands

-- the effect of a command is that on the plain document
pub effect-is : (doc : Doc) (plain : Document) (act : EditAct) → DocStandsFor doc plain → effect_in doc.view act ≡ effect_on plain act
effect-is doc plain act stands = ap (λ (v : View). effect_in v act) stands.view

-- what the view made of a command is its effect
pub effect-made : (doc now : Doc) (act : EditAct) (units : UnitDelta) (after : List Region) → doc ≡ now →
    IsEffect doc.view.text (effect_in doc.view act) units after → IsEffect now.view.text (effect_in now.view act) units after
effect-made doc now act units after same is = subst (λ (d : Doc). IsEffect d.view.text (effect_in d.view act) units after) same is

-- and it does nothing exactly where its unit delta does not
pub idle-is : (doc : Doc) (plain : Document) (act : EditAct) (units : UnitDelta) (after : List Region) (idle : Bool) → DocStandsFor doc plain →
    IsEffect doc.view.text (effect_in doc.view act) units after →
    ((replacements : List Replacement) → IsEditOf units.base replacements units → idle ≡ do_nothing units.base replacements) →
    idle ≡ is_idle plain (effect_on plain act)
idle-is doc plain act units after idle stands is each =
    let replacements = (effect_in doc.view act).replacements in
    each replacements (subst (λ n. IsEditOf n replacements units) (sym is.edit.of) is.edit) ∙
    ap (λ n. do_nothing n replacements) is.edit.of ∙
    ap (λ (v : View). do_nothing (length v.text) (effect_in v act).replacements) stands.view

pub copied-is : (doc : Doc) (plain : Document) → DocStandsFor doc plain → copied_text doc.view.text doc.view.regions ≡ copied_text plain.view.text plain.view.regions
copied-is doc plain stands = ap (λ (v : View). copied_text v.text v.regions) stands.view
