use Rattle.std.proofs.Common.{codes, map}
use Rattle.view_update.specs.Written.{op_data}
use Rattle.view_update.proofs.Made.{OnOk-gives}
use Rattle.view_update.proofs.Joined.{list_given, update_tokens}
use Rattle.view_update.proofs.parts.put_update.Goals as goal

pub returns-clause-added : goal.returns-clause-added
returns-clause-added c =
    let ops = list_given (codes "ops") (map op_data) c.as_slice.result.now c.args.update.now.ops c.begin_object.new.self c.put_op_list.new.out c.as_slice.ensures c.in_ok-put_op_list.ensures.added in
    OnOk-gives _ _ c.end_object.result
    (update_tokens c.args.update.now c.args.out.now c.begin_object.new.self c.put_op_list.new.out c.name.new.self c.truth.new.self c.end_object.new.self c.in_ok-begin_object.ensures.added ops
    c.in_ok-name.ensures.added c.in_ok-truth.ensures.added)
    c.end_object.ensures.added
