use Rattle.view_update.specs.Written.{op_members}
use Rattle.view_update.proofs.Made.{OnOk-gives}
use Rattle.view_update.proofs.Joined.{object_tokens}
use Rattle.view_update.proofs.parts.put_plain.Goals as goal

pub returns-clause-added : goal.returns-clause-added
returns-clause-added c =
    OnOk-gives _ _ c.put_end.result
    (object_tokens c.args.out.now c.begin_object.new.self c.put_end.new.out (op_members c.args.n c.args.op.now) c.in_ok-begin_object.ensures.added)
    c.put_end.ensures.added
