use Rattle.view_update.proofs.Made.{OnOk-gives}
use Rattle.view_update.proofs.Joined.{scroll_tokens}
use Rattle.view_update.proofs.parts.put_scroll.Goals as goal

pub returns-clause-added : goal.returns-clause-added
returns-clause-added c =
    OnOk-gives _ _ c.end_object.result
    (scroll_tokens c.args.id.now c.args.line c.args.col c.args.out.now c.begin_object.new.self c.name.new.self c.count.new.self c.name-2.new.self c.count-2.new.self c.name-3.new.self c.text.new.self
    c.end_object.new.self c.in_ok-begin_object.ensures.added c.in_ok-name.ensures.added c.in_ok-count.ensures.added c.in_ok-name-2.ensures.added c.in_ok-count-2.ensures.added
    c.in_ok-name-3.ensures.added c.in_ok-text.ensures.added)
    c.end_object.ensures.added
