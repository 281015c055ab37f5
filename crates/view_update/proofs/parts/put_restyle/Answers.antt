use Rattle.std.proofs.Common.{codes, map}
use Rattle.view_update.specs.Written.{count_data, triple_items}
use Rattle.view_update.proofs.Made.{OnOk-gives}
use Rattle.view_update.proofs.Joined.{list_given, restyle_tokens}
use Rattle.view_update.proofs.parts.put_restyle.Goals as goal

pub returns-clause-added : goal.returns-clause-added
returns-clause-added c =
    let cursor = list_given (codes "cursor") (map count_data) c.as_slice.result.now c.args.restyle.now.cursor c.begin_object.new.self c.put_offsets.new.out c.as_slice.ensures c.in_ok-put_offsets.ensures.added in
    let styles = list_given (codes "styles") triple_items c.as_slice-2.result.now c.args.restyle.now.styles c.put_offsets.new.out c.put_styles.new.out c.as_slice-2.ensures c.in_ok-put_styles.ensures.added in
    OnOk-gives _ _ c.end_object.result
    (restyle_tokens c.args.restyle.now c.args.out.now c.begin_object.new.self c.put_offsets.new.out c.put_styles.new.out c.end_object.new.self c.in_ok-begin_object.ensures.added cursor styles)
    c.end_object.ensures.added
