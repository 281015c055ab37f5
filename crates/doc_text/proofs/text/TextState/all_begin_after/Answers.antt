use Rattle.std.proofs.Common.{◌≡◌, Some, slice_get, ap, subst, sym, ◌∙◌}
use Rattle.rev_engine.specs.Engine.{StandsFor}
use Rattle.rev_engine.specs.State.{State}
use Rattle.undo_groups.specs.Groups.{Groups}
use Rattle.doc_text.specs.InMemory.{TextState}
use Rattle.doc_text.specs.Stands.{IsTextOf}
use Rattle.doc_text.proofs.OldestLemmas.{first_there, none_begun, retired-kept}
use Rattle.doc_text.proofs.text.TextState.all_begin_after.Goals as goal

pub returns-in-Some : goal.returns-in-Some
returns-in-Some c = λ plain stands later.
    let h = plain.history in
    let oldest = c.in-Some.oldest in
    let was = subst (λ (d : TextState). IsTextOf d plain) (sym c.self.view_is) stands in
    let first : slice_get plain.groups.retired 0 ≡ Some oldest =
    ap (λ (s : Groups). slice_get s.retired 0) (sym was.groups) ∙ sym c.retired.ensures.group ∙ c.in-Some.is in
    let kept = retired-kept h plain.groups plain.typing was.agree oldest (first_there plain.groups.retired oldest first) in
    let begins = (c.begins_after.ensures h (subst (λ (e : State). StandsFor e h) (sym c.deref.ensures) was.state.stands) kept).0 later in
    none_begun h plain.groups plain.typing was.agree oldest c.args.rev first begins.none

pub returns-in-None : goal.returns-in-None
returns-in-None c = λ plain stands later floor within. absurd cc
