use Rattle.std.proofs.Common.{ℕ, List, Option, ap, ap₂, sym, ◌∙◌, subst}
use Rattle.std.specs.Arc.{arc_value}
use Rattle.rev_engine.specs.State.{State}
use Rattle.undo_groups.specs.Groups.{Groups}
use Rattle.edit_groups.specs.declared.typing.Typing.{Typing}
use Rattle.doc_text.specs.InMemory.{TextState}
use Rattle.doc_text.specs.Revisions.{going_on}
use Rattle.doc_text.specs.Stands.{TextStandsFor}
use Rattle.doc_text.proofs.GroupLemmas.{IsWhole-run}
use Rattle.doc_text.proofs.RevisedLemmas.{TextStandsFor-run, run_text}
use Rattle.doc_text.proofs.text.TextState.with_run.Goals as goal

pub invariant_of-result : goal.invariant_of-result
invariant_of-result c =
    let text = c.self.inside in
    rw (c.in_ok-try_clone.ensures, c.in_ok-copy.ensures, c.run_on.ensures) (IsWhole-run (arc_value text.engine) text.stack text.typing c.args.kind c.self.invariant)

pub returns : goal.returns
returns c =
    let text = c.self.inside in
    let with_parts : State → Groups → Option Typing → List (Option ℕ) → TextState = λ engine groups typing sessions. record {
      engine = engine;
      groups = groups;
      typing = typing;
      saved = text.saved;
      sessions = sessions;
    } in
    let same =
    ap₂ (λ e g. with_parts e g c.run_on.result c.in_ok-copy-2.field-0) c.in_ok-try_clone.ensures c.in_ok-copy.ensures ∙
    ap₂ (λ t s. with_parts (arc_value text.engine) text.stack t s) c.run_on.ensures c.in_ok-copy-2.ensures ∙
    ap (λ (t : TextState). run_text t c.args.kind) c.self.view_is in
    record {
      stands = λ plain stands.
          subst (λ (t : TextState). TextStandsFor t (going_on plain c.args.kind)) (sym same) (TextStandsFor-run c.args.self.now plain c.args.kind stands);
      same = same;
    }
