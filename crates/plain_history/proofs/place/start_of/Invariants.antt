use Rattle.std.proofs.Common.{◌≡◌, ◌+◌, drop}
use Rattle.std.specs.List.{position_or_len}
use Rattle.plain_edits.specs.Place.{is_by}
use Rattle.plain_history.proofs.place.start_of.Given as goal

abbrev pub invariant-loop-index : goal.invariant-loop-index
invariant-loop-index l =
    l.index + position_or_len (is_by l.rev) (drop l.index l.run) ≡ position_or_len (is_by l.rev) l.run
