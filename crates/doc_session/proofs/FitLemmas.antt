-- A command of the front end is refused only where its characters are spent.
use Rattle.std.proofs.Common.{◌≡◌, ℕ, ◌+◌, ◌≤◌, Bool, true, false, List, Some, None, ap, sym, ◌∙◌, subst, arith}
use Rattle.std.specs.Prelude.{if◌then◌else◌, nat_lt}
use Rattle.xi_plain.specs.declared.command.EditAct.{EditAct}
use Rattle.plain_edits.specs.Delta.{inserted_len}
use Rattle.plain_edits.specs.Edits.{misfit_or_spent, spent}
use Rattle.plain_edits.specs.History.{head, inserted_count}
use Rattle.edit_ops.specs.declared.replacement.Replacement.{Replacement}
use Rattle.edit_ops.specs.Commands.{Effect}
use Rattle.edit_ops.specs.Replacements.{added_by, kept_by}
use Rattle.rev_engine.proofs.ForCallers.{formed-stands, refusal-kept}
use Rattle.doc_session.specs.InMemory.{Doc}
use Rattle.doc_session.specs.declared.event.Event.TheVariants.{Front}
use Rattle.doc_text.specs.Asking.{asked_refusal}
use Rattle.doc_text.specs.Refusal.{edit_refused}
use Rattle.doc_text.specs.Writing.{head_text}
use Rattle.doc_session.specs.Asking.{front_edit}
use Rattle.doc_session.specs.Document.{Document}
use Rattle.doc_session.specs.Laws.{IsSpentIfAny}
use Rattle.doc_session.specs.Stands.{DocStandsFor}
use Rattle.doc_session.specs.Step.{command_refusal, effect_on, is_idle, refusal_at}
use Rattle.delta_core.proofs.ForCallers.{Fits-elements}

spent_alone : (limit total : ℕ) → IsSpentIfAny (edit_refused (misfit_or_spent None limit total))
spent_alone limit total = by (nat_lt limit total)
  where
    by : (past : Bool) → IsSpentIfAny (edit_refused (if past then Some (spent total) else None))
    by true = tt
    by false = tt

edit_fits : (doc : Doc) (plain : Document) (replacements : List Replacement) → DocStandsFor doc plain →
    IsSpentIfAny (edit_refused (asked_refusal plain.text (front_edit plain None replacements)))
edit_fits doc plain replacements stands =
    let h = plain.text.history in
    let limit = plain.text.limit in
    let delta = (front_edit plain None replacements).delta in
    let total = inserted_count h + inserted_len delta.els in
    let low : h.floor ≤ head h = (formed-stands doc.text.engine h stands.text.parts.state.stands).floor in
    let high : head h ≤ head h = omega arith in
    let same : asked_refusal plain.text (front_edit plain None replacements) ≡ misfit_or_spent None limit total =
    refusal-kept h limit (head h) delta low high ∙
    ap (λ found. misfit_or_spent found limit total) (Fits-elements (kept_by replacements) (added_by replacements) (head_text plain.text)) in
    subst (λ refusal. IsSpentIfAny (edit_refused refusal)) (sym same) (spent_alone limit total)

effect_fits : (doc : Doc) (plain : Document) (effect : Effect) → DocStandsFor doc plain → IsSpentIfAny (edit_refused (command_refusal plain effect))
effect_fits doc plain effect stands = by (is_idle plain effect)
  where
    by : (idle : Bool) → IsSpentIfAny (edit_refused (if idle then None else asked_refusal plain.text (front_edit plain None effect.replacements)))
    by true = tt
    by false = edit_fits doc plain effect.replacements stands

pub command_fits : (doc : Doc) (plain : Document) (act : EditAct) → DocStandsFor doc plain → IsSpentIfAny (refusal_at plain (Front act))
command_fits doc plain act stands = effect_fits doc plain (effect_on plain act) stands
