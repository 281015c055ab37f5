use Rattle.std.proofs.Common.{codes, map}
use Rattle.view_update.specs.Written.{line_data}
use Rattle.view_update.proofs.Made.{OnOk-gives}
use Rattle.view_update.proofs.Joined.{list_tokens}
use Rattle.view_update.proofs.parts.put_line_list.Goals as goal

pub returns-clause-added : goal.returns-clause-added
returns-clause-added c =
    OnOk-gives _ _ c.end_list.result
    (list_tokens (codes "lines") (map line_data c.args.lines.now) c.args.out.now c.name.new.self c.begin_list.new.self c.put_lines.new.out c.end_list.new.self c.in_ok-name.ensures.added c.in_ok-begin_list.ensures.added
    c.in_ok-put_lines.ensures.added)
    c.end_list.ensures.added
