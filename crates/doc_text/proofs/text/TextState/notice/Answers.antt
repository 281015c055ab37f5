use Rattle.std.proofs.Common.{ℕ, List, length, Option, Some, None, refl, ap, sym, ◌∙◌, subst}
use Rattle.std.specs.Prelude.{if◌then◌else◌, ◌==◌}
use Rattle.std.specs.Arc.{arc_value}
use Rattle.plain_text.specs.Text.{byte_len}
use Rattle.delta_core.specs.Wire.{wire_of}
use Rattle.doc_text.specs.InMemory.{TextState, head_shown}
use Rattle.doc_text.specs.Notices.{notice_of}
use Rattle.doc_text.specs.Stands.{TextStandsFor}
use Rattle.doc_text.proofs.MoveLemmas.{notice-made}
use Rattle.doc_text.proofs.text.TextState.notice.Goals as goal

pub returns-then-is_empty : goal.returns-then-is_empty
returns-then-is_empty c = λ plain history stands is.
    let was = subst (λ (t : TextState). TextStandsFor t plain) (sym c.self.view_is) stands in
    sym (ap (λ b. if b then None else Some (notice_of plain.history history c.args.author))
    (ap (λ (ss : List (Option ℕ)). length ss == 0) (sym was.parts.sessions) ∙ sym c.is_empty.ensures ∙ c.if-is_empty.true))

pub returns : goal.returns
returns c = λ plain history stands is.
    let text = c.self.inside in
    let step = c.args.step.now in
    let was = subst (λ (t : TextState). TextStandsFor t plain) (sym c.self.view_is) stands in
    let made = notice-made plain.history history (arc_value text.engine) step c.args.author was.parts.state.stands is _
    c.new.ensures refl refl (c.byte_len.ensures ∙ ap byte_len (c.head_rope-2.ensures.shown ∙ ap head_shown c.deref-2.ensures))
    (c.in_ok-delta.ensures ∙ ap (λ t. wire_of t step.change.units) (c.head_rope.ensures.shown ∙ ap head_shown c.deref.ensures)) in
    ap Some made ∙ sym (ap (λ b. if b then None else Some (notice_of plain.history history c.args.author))
    (ap (λ (ss : List (Option ℕ)). length ss == 0) (sym was.parts.sessions) ∙ sym c.is_empty.ensures ∙ c.if-is_empty.false))
