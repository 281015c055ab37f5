use Rattle.std.proofs.Common.{sym, ◌∙◌}
use Rattle.selection_core.proofs.GapLemmas.{HasPassedAdds-next}
use Rattle.selection_core.proofs.gap_walk.pass_adds.Goals as goal

pub loop-parts-preserved : goal.loop-parts-preserved
loop-parts-preserved c =
    HasPassedAdds-next _ _ _ _ _ _ c.index-adds-parts.result c.index-adds-parts-in-loop-parts.result c.as_slice-adds.ensures c.loop-parts-test.true
    c.index-adds-parts.is c.index-adds-parts-in-loop-parts.is (sym c.goes_left.ensures ∙ c.if-goes_left.true) c.char_count-count.ensures
    c.loop-parts.invariant
