use Rattle.view_update.proofs.Made.{OnOk-gives}
use Rattle.view_update.proofs.Joined.{restyling_tokens}
use Rattle.view_update.proofs.parts.put_restyling.Goals as goal

pub returns-clause-added : goal.returns-clause-added
returns-clause-added c =
    OnOk-gives _ _ c.put_end.result
    (restyling_tokens c.args.ln c.args.lines.now c.args.out.now c.begin_object.new.self c.put_restyle_list.new.out c.put_count.new.out c.put_end.new.out c.in_ok-begin_object.ensures.added
    c.in_ok-put_restyle_list.ensures.added c.in_ok-put_count.ensures.added)
    c.put_end.ensures.added
