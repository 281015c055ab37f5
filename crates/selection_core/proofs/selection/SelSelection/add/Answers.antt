use Rattle.selection_core.proofs.MergeLemmas.{IsSelection-added}
use Rattle.selection_core.proofs.selection.SelSelection.add.Goals as goal

pub returns-clause-sound : goal.returns-clause-sound
returns-clause-sound c =
    IsSelection-added c.args.region _ _ _ _ _ c.in_ok-merged.ensures c.as_slice-2.ensures c.in_ok-regions.ensures c.as_slice.ensures c.requires
