use Rattle.std.proofs.Common.{option_and_then, sym, ap, ◌∙◌}
use Rattle.std.proofs.lemmas.Result.{IfOk-weaker}
use Rattle.serde_json.specs.View.{view}
use Rattle.plugin_wire.specs.Hearing.{heard}
use Rattle.plugin_side.specs.Heard.{with_room}
use Rattle.plugin_side.proofs.Hears.{heard-utf8}
use Rattle.plugin_side.proofs.notice.told_by.Goals as goal

pub returns-in-Some : goal.returns-in-Some
returns-in-Some c =
    let params = view c.args.params in
    IfOk-weaker c.told.result _ _
    (λ told is.
    is
    ∙ ap (λ n. option_and_then with_room (heard n params)) c.as_str.ensures.utf8
    ∙ ap (option_and_then with_room) (heard-utf8 c.in-Some.name params c.as_str.ensures.scalars)
    ∙ sym (ap (λ o. option_and_then with_room (option_and_then (λ n. heard n params) o)) c.in-Some.is))
    c.told.ensures
