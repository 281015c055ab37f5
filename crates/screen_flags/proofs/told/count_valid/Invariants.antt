use Rattle.std.proofs.Common.{◌≡◌, [], length}
use Rattle.std.specs.Str.{chars}
use Rattle.plain_text.specs.InputLines.{lines_of}
use Rattle.screen_flags.specs.Told.{flags_told}
use Rattle.screen_flags.proofs.told.count_valid.Given as goal

abbrev pub invariant-loop-rest : goal.invariant-loop-rest
invariant-loop-rest l =
    flags_told (chars l.fn.id) [] (lines_of l.fn.bytes) ≡ flags_told (chars l.fn.id) l.flags (lines_of l.rest)

abbrev pub decreases-loop-rest : goal.decreases-loop-rest
decreases-loop-rest l = length l.rest
