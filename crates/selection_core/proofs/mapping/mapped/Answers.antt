use Rattle.std.proofs.Common.{None}
use Rattle.plain_text.specs.declared.selection.Region.{Region}
use Rattle.selection_core.specs.Mapped.{mapped_region}
use Rattle.selection_core.proofs.MergeLemmas.{drop-next}
use Rattle.selection_core.proofs.GapLemmas.{IsMapping-next, mapped-next}
use Rattle.selection_core.proofs.mapping.mapped.Goals as goal

pub loop-region-preserved : goal.loop-region-preserved
loop-region-preserved c =
    let d : Region = record { anchor = 0; caret = 0; goal = None } in
    record {
      so_far =
          mapped-next (mapped_region c.args.units.now c.args.after) _ _ c.args.regions.now c.loop-region.region-index _ d c.loop-region-test.true
          c.loop-region.invariant.so_far c.in_ok-push.ensures.pushed c.next_region.ensures.region;
      ahead =
          IsMapping-next _ _ _ _ _ _ _ c.loop-region.invariant.ahead (drop-next _ c.loop-region.region-index d c.loop-region-test.true)
          c.next_region.ensures.walked;
    }
