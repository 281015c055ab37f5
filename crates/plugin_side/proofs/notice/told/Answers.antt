use Rattle.std.proofs.Common.{option_and_then, sym, ap}
use Rattle.serde_json.specs.View.{view}
use Rattle.plugin_side.specs.Heard.{with_room}
use Rattle.plugin_side.proofs.Hears.{heard-other}
use Rattle.plugin_side.proofs.notice.told.Goals as goal

pub returns-in_default : goal.returns-in_default
returns-in_default c =
    let other = c.in_default in
    sym (ap (option_and_then with_room) (heard-other c.args.name.now (view c.args.params) other.not-initialize other.not-new_buffer other.not-update other.not-did_close other.not-shutdown))
