use Rattle.std.proofs.Common.{option_and_then, sym, ap, ◌∙◌}
use Rattle.std.proofs.lemmas.Result.{IfOk-weaker}
use Rattle.serde_json.specs.View.{view}
use Rattle.plugin_wire.specs.Hearing.{heard}
use Rattle.plugin_side.specs.Heard.{with_room}
use Rattle.plugin_side.proofs.Hears.{value_told-parts}
use Rattle.plugin_side.proofs.notice.told_of.Goals as goal

pub returns : goal.returns
returns c =
    let d = view c.args.value in
    IfOk-weaker c.told_by.result _ _
    (λ told is.
    is
    ∙ ap (option_and_then with_room) (λ i. option_and_then (λ n. heard n (c.params_of.ensures i)) (c.in_ok-name.ensures i))
    ∙ sym (ap (option_and_then with_room) (value_told-parts d c.requires)))
    c.told_by.ensures
