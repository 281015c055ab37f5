use Rattle.std.proofs.Common.{codes, ap, ◌∙◌}
use Rattle.serde_json.proofs.Views.{view-Object}
use Rattle.serde_json.specs.Data.{object}
use Rattle.plugin_side.specs.Inner.{with_if}
use Rattle.plugin_side.proofs.Plain.{edit_params-members}
use Rattle.plugin_side.proofs.ask_value.edit_value.Goals as goal

pub returns-clause-value : goal.returns-clause-value
returns-clause-value c =
    let a = c.args in
    view-Object c.put_if.new.members
    ∙ ap object (c.in_ok-put_if.ensures ∙ (λ i. with_if (codes "undo_group") (c.whole_if.ensures.value i) (c.in_ok-members.ensures.members i)))
    ∙ edit_params-members a.id.now a.rev a.delta.now a.priority a.after_cursor a.author.now a.named
