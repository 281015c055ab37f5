use Rattle.std.proofs.Common.{codes, refl, ap, ◌∙◌}
use Rattle.serde_json.proofs.Views.{view-Object}
use Rattle.serde_json.specs.Data.{object, member, no_members}
use Rattle.json_rpc.specs.Response.{text_data}
use Rattle.plugin_side.specs.Asking.{ask_method, ask_params, id_member}
use Rattle.plugin_side.specs.Inner.{with_if}
use Rattle.plugin_side.proofs.Plain.{with_if-below}
use Rattle.plugin_side.proofs.ask.command_value.Goals as goal

pub returns-clause-value : goal.returns-clause-value
returns-clause-value c =
    let command = c.args.command.now in
    view-Object c.put_if.new.members
    ∙ ap object
    (c.in_ok-put_if.ensures
    ∙ (λ i. with_if (codes "id") (c.in_ok-id.ensures.value i) (c.in_ok-members.ensures.members i))
    ∙ with_if-below (codes "id") (id_member command.id) (member (codes "method") (text_data (ask_method command.act)) (member (codes "params") (ask_params command.act) no_members)) (refl, (refl, tt)))
