-- What private functions say.
use Rattle.std.specs.Prelude.{Bool, List}
use Rattle.subset_runs.specs.Subset.{expand_in}
use Rattle.rev_list.specs.declared.step.RevStep.{RevStep}
use Rattle.rev_list.specs.declared.step.RevStep.TheVariants.{Edit, Undo}

-- the same for a revision before: what an edit inserts is dead there, and what it deletes is as before; an undo moves nothing
abbrev pub dead_later : List Bool → RevStep → List Bool
dead_later dead (Edit e) = expand_in dead e.inserted
dead_later dead (Undo groups) = dead
