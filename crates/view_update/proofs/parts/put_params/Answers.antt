use Rattle.view_update.proofs.Made.{OnOk-gives}
use Rattle.view_update.proofs.Joined.{params_tokens}
use Rattle.view_update.proofs.parts.put_params.Goals as goal

pub returns-clause-added : goal.returns-clause-added
returns-clause-added c =
    OnOk-gives _ _ c.end_object.result
    (params_tokens c.args.id.now c.args.update.now c.args.out.now c.begin_object.new.self c.name.new.self c.put_update.new.out c.name-2.new.self c.text.new.self c.end_object.new.self
    c.in_ok-begin_object.ensures.added c.in_ok-name.ensures.added c.in_ok-put_update.ensures.added c.in_ok-name-2.ensures.added c.in_ok-text.ensures.added)
    c.end_object.ensures.added
