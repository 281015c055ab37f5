use Rattle.std.proofs.Common.{codes, length, map}
use Rattle.view_update.specs.Written.{list_data, line_data}
use Rattle.view_update.proofs.Made.{OnOk-gives}
use Rattle.view_update.proofs.Joined.{ins_tokens}
use Rattle.view_update.proofs.parts.put_ins.Goals as goal

pub returns-clause-added : goal.returns-clause-added
returns-clause-added c =
    OnOk-gives _ _ c.put_end.result
    (ins_tokens (list_data (map line_data c.args.lines.now)) (length c.args.lines.now) (codes "ins") c.args.out.now c.begin_object.new.self c.put_line_list.new.out c.put_end.new.out
    c.in_ok-begin_object.ensures.added c.in_ok-put_line_list.ensures.added)
    c.put_end.ensures.added
