-- Lists of shared values.
use Rattle.std.specs.Prelude.{List, map}
use Rattle.std.specs.Arc.{arc_value}
use Rattle.std.specs.declared.sync.Arc.{Arc}

-- the values behind their pointers
abbrev pub values : {X Z : Type 0} → List (Arc X Z) → List X
values list = map arc_value list
