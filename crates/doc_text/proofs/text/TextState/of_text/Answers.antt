use Rattle.std.proofs.Common.{◌≡◌, arith, None, refl, ap, sym, ◌∙◌, subst}
use Rattle.std.specs.Arc.{arc_value}
use Rattle.plain_edits.specs.History.{loaded}
use Rattle.rev_engine.specs.State.{State}
use Rattle.undo_groups.specs.Groups.{IsStack, no_groups}
use Rattle.doc_text.specs.InMemory.{head_shown}
use Rattle.doc_text.specs.Stands.{TextStandsFor}
use Rattle.doc_text.specs.Whole.{IsWhole}
use Rattle.doc_text.specs.Writing.{loaded_text}
use Rattle.doc_text.proofs.AgreeLemmas.{Agree-loaded}
use Rattle.doc_text.proofs.HeadLemmas.{head_shown-stands}
use Rattle.doc_text.proofs.LoadLemmas.{IsStateOf-loaded, IsWhole-loaded, head_text-loaded}
use Rattle.doc_text.proofs.SessionLemmas.{AreAcknowledged-loaded}
use Rattle.doc_text.proofs.text.TextState.of_text.Goals as goal

pub returns : goal.returns
returns c =
    let stack : IsStack no_groups = subst IsStack c.new-stack.ensures c.given-given.ensures.sound in
    let engine = c.in_ok-of_text.field-0 in
    let engine_is : arc_value c.in_ok-engine.engine ≡ engine = c.in_ok-engine.ensures.ok in
    let stands = c.in_ok-of_text.ensures.stands in
    let Made : State → Type 0 =
    λ e. TextStandsFor (record { engine = e; groups = c.new-stack.result; typing = None; saved = 0; sessions = c.in_ok-sessions.sessions })
    (loaded_text c.args.text c.args.plugins c.args.limit) in
    record {
      stands =
          subst Made (sym engine_is) (record {
            parts = record {
              state = IsStateOf-loaded c.args.text engine c.args.limit stands c.in_ok-of_text.ensures.limit c.requires;
              limit = c.in_ok-of_text.ensures.limit;
              sessions = c.in_ok-sessions.ensures;
              acknowledged = AreAcknowledged-loaded c.args.text c.args.plugins;
              groups = c.new-stack.ensures;
              typing = refl;
              agree = Agree-loaded stack;
              saved = refl;
              saved_before = omega arith;
            };
            none_left = refl;
          });
      shown = ap head_shown engine_is ∙ head_shown-stands engine (loaded c.args.text) stands ∙ head_text-loaded c.args.text;
    }

pub invariant_of-result : goal.invariant_of-result
invariant_of-result c =
    let engine = c.in_ok-of_text.field-0 in
    let Whole : State → Type 0 = λ e. IsWhole e c.new-stack.result None in
    subst Whole (sym c.in_ok-engine.ensures.ok)
    (IsWhole-loaded c.args.text engine c.args.limit c.new-stack.result c.in_ok-of_text.ensures.stands c.in_ok-of_text.ensures.limit c.requires
    c.new-stack.ensures c.given-given.ensures.sound)
