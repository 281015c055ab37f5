use Rattle.std.proofs.Common.{◌∙◌, ap, [], ◌∷◌, ◌++◌}
use Rattle.plain_edits.specs.History.{History, Revision, edit}
use Rattle.plain_edits.specs.Edits.{PlainEdit, plain_edit, edited}
use Rattle.plain_history.specs.UnitEdit.{over_text}
use Rattle.plain_history.proofs.Steps.{edited-parts}
use Rattle.plain_history.proofs.history.PlainHistory.edit.Goals as goal

pub returns-clause-made : goal.returns-clause-made
returns-clause-made c =
    let h = c.args.self.now in
    let said = c.in_ok-e.ensures ∙
    ap (λ text. over_text c.args.base text c.args.delta.now c.args.group c.args.priority c.args.author) c.in_ok-text.ensures in
    edited-parts h (plain_edit h c.args.base c.args.delta.now c.args.group c.args.priority c.args.author) _ _ _ _
    (c.in_ok-characters.ensures ∙ ap (λ (e : PlainEdit). (edited h e).characters) said)
    (c.in_ok-push.ensures.pushed ∙ ap (λ (r : Revision). c.self.inside.revisions ++ r ∷ []) c.edit.ensures ∙
    ap (λ (k : History). k.revisions ++ edit c.args.base c.args.group c.args.priority c.args.author ∷ []) c.self.view_is)
    (ap (λ (k : History). k.floor) c.self.view_is) (ap (λ (k : History). k.collected) c.self.view_is)
