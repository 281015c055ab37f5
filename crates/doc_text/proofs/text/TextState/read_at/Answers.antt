use Rattle.std.proofs.Common.{◌≡◌, length, ap, sym, ◌∙◌, subst}
use Rattle.std.specs.Arc.{arc_value}
use Rattle.std.specs.Prelude.{IfOk}
use Rattle.rev_engine.specs.Engine.{StandsFor}
use Rattle.rev_engine.specs.State.{State}
use Rattle.stale_spans.specs.declared.read.Read.{Read}
use Rattle.span_styles.specs.Layers.{length_after}
use Rattle.doc_text.specs.InMemory.{TextState, head_shown}
use Rattle.doc_text.specs.Inner.{StandsForSome}
use Rattle.doc_text.proofs.HeadLemmas.{some-whole}
use Rattle.doc_text.proofs.text.TextState.read_at.Goals as goal

pub read_engine-requires : goal.read_engine-requires
read_engine-requires c =
    let text = c.self.inside in
    subst StandsForSome (sym c.deref.ensures) (some-whole (arc_value text.engine) text.stack text.typing c.self.invariant)

pub returns : goal.returns
returns c =
    let engine_is = c.deref.ensures ∙ ap (λ (t : TextState). t.engine) c.self.view_is in
    record {
      read = λ plain stands.
          c.read_engine.ensures.read plain.history (subst (λ (e : State). StandsFor e plain.history) (sym engine_is) stands.parts.state.stands);
      edit = c.read_engine.ensures.edit;
      leads =
          subst (λ (e : State). IfOk c.read_engine.result (λ (read : Read). length_after read.units ≡ length (head_shown e))) engine_is
          c.read_engine.ensures.leads;
      accepted = λ plain stands.
          c.read_engine.ensures.accepted plain.history (subst (λ (e : State). StandsFor e plain.history) (sym engine_is) stands.parts.state.stands);
      refused = λ plain stands.
          c.read_engine.ensures.refused plain.history (subst (λ (e : State). StandsFor e plain.history) (sym engine_is) stands.parts.state.stands);
    }
