use Rattle.std.proofs.Common.{◌+◌, ◌∙◌}
use Rattle.line_index.proofs.WholeLemmas.{line_start-either, same-run}
use Rattle.line_index.proofs.offsets.line_run.Goals as goal

pub returns : goal.returns
returns c =
    same-run c.unwrap_or.result c.unwrap_or-2.result _ _
    (c.unwrap_or.ensures ∙ line_start-either c.args.text.now c.args.index c.len.result c.starts_by-start.result.0 c.starts_by-start.ensures.first
    c.starts_by-start.ensures.no_first c.len.ensures.count)
    (c.unwrap_or-2.ensures ∙ line_start-either c.args.text.now (c.args.index + 1) c.len-2.result c.starts_by-start.result.1 c.starts_by-start.ensures.second
    c.starts_by-start.ensures.no_second c.len-2.ensures.count)
