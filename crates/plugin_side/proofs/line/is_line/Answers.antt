use Rattle.std.proofs.Common.{◌==◌, ap, ◌∙◌}
use Rattle.std.specs.List.{list_any}
use Rattle.plugin_side.proofs.LineFeeds.{HasNoLf-not_found}
use Rattle.plugin_side.proofs.line.is_line.Goals as goal

pub returns : goal.returns
returns c = HasNoLf-not_found _ c.contains.result (c.contains.ensures.value ∙ ap (list_any (λ b. b == 10)) (c.as_bytes.ensures.value ∙ c.as_str.ensures.utf8))
