use Rattle.std.proofs.Common.{◌≡◌, ◌++◌}
use Rattle.std.specs.List.{flat_map, range_with_len}
use Rattle.plain_history.specs.UnitEdit.{edit_of}
use Rattle.plain_history.specs.Inner.{inserted_from}
use Rattle.plain_history.proofs.edit.push_inserted.Given as goal

abbrev pub invariant-loop-gap : goal.invariant-loop-gap
invariant-loop-gap l =
    l.made ≡ l.initial.made ++ flat_map (inserted_from l.history (edit_of l.e) l.index) (range_with_len 0 l.gap)
