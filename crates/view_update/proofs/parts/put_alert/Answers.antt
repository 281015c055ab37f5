use Rattle.view_update.proofs.Made.{OnOk-gives}
use Rattle.view_update.proofs.Joined.{alert_tokens}
use Rattle.view_update.proofs.parts.put_alert.Goals as goal

pub returns-clause-added : goal.returns-clause-added
returns-clause-added c =
    OnOk-gives _ _ c.end_object.result
    (alert_tokens c.args.message.now c.args.out.now c.begin_object.new.self c.name.new.self c.text.new.self c.end_object.new.self c.in_ok-begin_object.ensures.added c.in_ok-name.ensures.added
    c.in_ok-text.ensures.added)
    c.end_object.ensures.added
