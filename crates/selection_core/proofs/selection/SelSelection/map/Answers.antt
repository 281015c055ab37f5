use Rattle.selection_core.proofs.GapLemmas.{IsSelection-moved}
use Rattle.selection_core.proofs.selection.SelSelection.map.Goals as goal

pub returns-clause-sound : goal.returns-clause-sound
returns-clause-sound c =
    IsSelection-moved c.args.units.now c.args.after _ _ _ _ _ c.in_ok-merged.ensures c.as_slice-2.ensures c.in_ok-regions.ensures c.as_slice.ensures c.requires.sound
