use Rattle.std.proofs.Common.{codes, map}
use Rattle.view_update.specs.Written.{count_data}
use Rattle.view_update.proofs.Made.{OnOk-gives}
use Rattle.view_update.proofs.Joined.{list_tokens}
use Rattle.view_update.proofs.parts.put_offsets.Goals as goal

pub returns-clause-added : goal.returns-clause-added
returns-clause-added c =
    OnOk-gives _ _ c.end_list.result
    (list_tokens (codes "cursor") (map count_data c.args.offsets.now) _ _ _ _ _ c.in_ok-name.ensures.added c.in_ok-begin_list.ensures.added c.in_ok-put_counts.ensures.added)
    c.end_list.ensures.added
