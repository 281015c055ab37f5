use Rattle.std.proofs.Common.{ℕ, List, Option, None, ap, ap₂, sym, ◌∙◌, subst}
use Rattle.std.specs.Arc.{arc_value}
use Rattle.plain_edits.specs.History.{head}
use Rattle.rev_engine.specs.State.{State}
use Rattle.undo_groups.specs.Groups.{Groups}
use Rattle.doc_text.specs.InMemory.{TextState}
use Rattle.doc_text.specs.Revisions.{saved_text}
use Rattle.doc_text.specs.Stands.{TextStandsFor}
use Rattle.doc_text.proofs.GroupLemmas.{IsWhole-ended}
use Rattle.doc_text.proofs.RevisedLemmas.{TextStandsFor-saved}
use Rattle.doc_text.proofs.text.TextState.mark_saved.Goals as goal

pub invariant_of-result : goal.invariant_of-result
invariant_of-result c =
    let text = c.self.inside in
    rw (c.in_ok-try_clone.ensures, c.in_ok-copy.ensures) (IsWhole-ended (arc_value text.engine) text.stack text.typing c.self.invariant)

pub returns : goal.returns
returns c =
    let text = c.self.inside in
    let with_parts : State → Groups → ℕ → List (Option ℕ) → TextState = λ engine groups saved sessions. record {
      engine = engine;
      groups = groups;
      typing = None;
      saved = saved;
      sessions = sessions;
    } in
    let same =
    ap₂ (λ e g. with_parts e g c.head.result c.in_ok-copy-2.field-0) c.in_ok-try_clone.ensures c.in_ok-copy.ensures ∙
    ap₂ (λ n s. with_parts (arc_value text.engine) text.stack n s) (c.head.ensures.revisions) c.in_ok-copy-2.ensures ∙
    ap (λ (t : TextState). record t { typing = None; saved = head c.args.self.now.engine.revisions }) c.self.view_is in
    record {
      stands = λ plain stands.
          subst (λ (t : TextState). TextStandsFor t (saved_text plain)) (sym same) (TextStandsFor-saved c.args.self.now plain stands);
      same = same;
    }
