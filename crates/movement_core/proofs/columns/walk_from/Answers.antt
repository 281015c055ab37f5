use Rattle.std.proofs.Common.{ap, ap₂, ◌∙◌}
use Rattle.cluster_core.specs.Walk.{counted_anew}
use Rattle.movement_core.specs.Inner.{items_past}
use Rattle.movement_core.proofs.columns.walk_from.Goals as goal

pub returns : goal.returns
returns c =
    c.begin_piece.ensures.left ∙
    ap₂ (λ t w. counted_anew t 0 w) (c.skipped-walk.ensures.tab ∙ c.new.ensures.tab)
    (c.skipped-walk.ensures.left ∙ ap (items_past c.args.from 0) c.new.ensures.left)
