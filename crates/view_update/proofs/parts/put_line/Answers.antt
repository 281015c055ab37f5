use Rattle.std.proofs.Common.{codes, map}
use Rattle.view_update.specs.Written.{count_data, triple_items}
use Rattle.view_update.proofs.Made.{OnOk-gives}
use Rattle.view_update.proofs.Joined.{list_given, line_tokens}
use Rattle.view_update.proofs.parts.put_line.Goals as goal

pub returns-clause-added : goal.returns-clause-added
returns-clause-added c =
    let cursor = list_given (codes "cursor") (map count_data) c.as_slice.result.now c.args.line.now.cursor c.begin_object.new.self c.put_offsets.new.out c.as_slice.ensures c.in_ok-put_offsets.ensures.added in
    let styles = list_given (codes "styles") triple_items c.as_slice-2.result.now c.args.line.now.styles c.put_count.new.out c.put_styles.new.out c.as_slice-2.ensures c.in_ok-put_styles.ensures.added in
    OnOk-gives _ _ c.end_object.result
    (line_tokens c.args.line.now c.args.out.now c.begin_object.new.self c.put_offsets.new.out c.put_count.new.out c.put_styles.new.out c.name.new.self c.text.new.self c.end_object.new.self
    c.in_ok-begin_object.ensures.added cursor c.in_ok-put_count.ensures.added styles c.in_ok-name.ensures.added c.in_ok-text.ensures.added)
    c.end_object.ensures.added
