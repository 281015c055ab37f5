use Rattle.std.proofs.Common.{◌≡◌, ℕ, true, List, Option, ap, sym, ◌∙◌, subst}
use Rattle.std.specs.Arc.{arc_value}
use Rattle.std.specs.List.{AllByRecursion, fold}
use Rattle.plain_text.specs.Numbers.{has}
use Rattle.plain_edits.specs.Collection.{Collection, collected_at}
use Rattle.plain_edits.specs.History.{History}
use Rattle.rev_engine.specs.Asked.{IsCollectionTaken}
use Rattle.rev_engine.specs.Engine.{StandsFor}
use Rattle.rev_engine.specs.State.{State}
use Rattle.undo_groups.specs.Groups.{forgotten}
use Rattle.doc_text.specs.InMemory.{TextState, head_shown}
use Rattle.doc_text.proofs.CollectLemmas.{IsTextOf-collected, IsWhole-collected, less_text, shown-collected}
use Rattle.doc_text.proofs.text.TextState.without.Goals as goal

pub collecting-requires : goal.collecting-requires
collecting-requires c =
    let engine_is = c.deref.ensures ∙ ap (λ (t : TextState). t.engine) c.self.view_is in
    subst (λ (e : State). IsCollectionTaken e.revisions c.args.floor c.args.groups.now.keys) (sym engine_is) c.requires.taken

pub invariant_of-result : goal.invariant_of-result
invariant_of-result c =
    let text = c.self.inside in
    let gone = c.args.groups.now.keys in
    let retired = subst (λ (t : TextState). AllByRecursion (λ group. has t.groups.retired group ≡ true) gone) (sym c.self.view_is) c.requires.retired in
    let each : (h : History) → StandsFor (arc_value text.engine) h → StandsFor (arc_value c.in_ok-engine.engine) (collected_at h c.args.floor gone) =
    λ h stands. c.in_ok-engine.ensures.stands h (subst (λ (e : State). StandsFor e h) (sym c.deref.ensures) stands) in
    IsWhole-collected (arc_value text.engine) (arc_value c.in_ok-engine.engine) text.stack text.typing c.args.floor gone c.self.invariant each c.in_ok-stack.stack
    (c.in_ok-engine.ensures.limit ∙ ap (λ (e : State). e.limit) c.deref.ensures) c.in_ok-stack.ensures.forgotten c.in_ok-stack.ensures.sound retired

pub returns-clause-stands : goal.returns-clause-stands
returns-clause-stands c = λ plain stands floor.
    let text = c.self.inside in
    let made = arc_value c.in_ok-engine.engine in
    let stack = c.in_ok-stack.stack in
    let gone = c.args.groups.now.keys in
    let found : Collection = record { floor = c.args.floor; groups = gone } in
    let engine_is = c.deref.ensures ∙ ap (λ (t : TextState). t.engine) c.self.view_is in
    let with_sessions : List (Option ℕ) → TextState = λ s. record {
      engine = made;
      groups = stack;
      typing = text.typing;
      saved = text.saved;
      sessions = s;
    } in
    let is = ap with_sessions c.in_ok-copy.ensures ∙ ap (λ (t : TextState). less_text t made stack) c.self.view_is in
    IsTextOf-collected c.args.self.now _ plain made stack found stands is
    (c.in_ok-engine.ensures.limit ∙ ap (λ (e : State). e.limit) engine_is)
    (c.in_ok-engine.ensures.stands plain.history (subst (λ (e : State). StandsFor e plain.history) (sym engine_is) stands.state.stands))
    (c.in_ok-stack.ensures.forgotten ∙ ap (λ (t : TextState). fold forgotten t.groups gone) c.self.view_is) c.in_ok-stack.ensures.sound c.requires.retired floor

pub returns-clause-shown : goal.returns-clause-shown
returns-clause-shown c =
    let text = c.self.inside in
    let gone = c.args.groups.now.keys in
    let each : (h : History) → StandsFor (arc_value text.engine) h → StandsFor (arc_value c.in_ok-engine.engine) (collected_at h c.args.floor gone) =
    λ h stands. c.in_ok-engine.ensures.stands h (subst (λ (e : State). StandsFor e h) (sym c.deref.ensures) stands) in
    shown-collected (arc_value text.engine) (arc_value c.in_ok-engine.engine) text.stack text.typing c.args.floor gone c.self.invariant each ∙
    ap (λ (t : TextState). head_shown t.engine) c.self.view_is
