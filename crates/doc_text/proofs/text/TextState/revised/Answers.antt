use Rattle.std.proofs.Common.{ℕ, List, Option, refl, ap, ap₂, ◌∙◌}
use Rattle.std.specs.Arc.{arc_value}
use Rattle.doc_text.specs.InMemory.{TextState}
use Rattle.doc_text.proofs.RevisedLemmas.{IsRevised-later}
use Rattle.doc_text.proofs.text.TextState.revised.Goals as goal

pub returns-clause-revised : goal.returns-clause-revised
returns-clause-revised c = λ plain history stands is agree.
    let now = c.args.self.now in
    let with_parts : TextState → List (Option ℕ) → TextState = λ t sessions. record {
      engine = arc_value c.args.step.engine;
      groups = c.args.groups.stack;
      typing = c.args.typing;
      saved = t.saved;
      sessions = sessions;
    } in
    IsRevised-later now plain history c.args.step c.args.groups.stack c.args.typing c.args.author _ stands is agree c.requires.made
    (ap₂ with_parts c.self.view_is (c.in_ok-sessions.ensures ∙ ap (λ (t : TextState). t.sessions) c.self.view_is)) refl
    (c.in_ok-notice.ensures plain history stands is)

pub returns-clause-made : goal.returns-clause-made
returns-clause-made c = record {
  changes = c.requires.made.changes;
  counted = c.requires.made.counted;
  within = c.requires.within;
  sessions = c.in_ok-sessions.ensures ∙ ap (λ (t : TextState). t.sessions) c.self.view_is;
}
