use Rattle.std.proofs.Common.{codes}
use Rattle.view_update.specs.Written.{triple_items}
use Rattle.view_update.proofs.Made.{OnOk-gives}
use Rattle.view_update.proofs.Joined.{list_tokens}
use Rattle.view_update.proofs.parts.put_styles.Goals as goal

pub returns-clause-added : goal.returns-clause-added
returns-clause-added c =
    OnOk-gives _ _ c.end_list.result
    (list_tokens (codes "styles") (triple_items c.args.styles.now) _ _ _ _ _ c.in_ok-name.ensures.added c.in_ok-begin_list.ensures.added c.in_ok-put_triples.ensures.added)
    c.end_list.ensures.added
