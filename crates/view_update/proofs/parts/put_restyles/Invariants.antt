use Rattle.std.proofs.Common.{map}
use Rattle.view_update.specs.Written.{restyle_data}
use Rattle.view_update.specs.Fair.{IsFairRestyle}
use Rattle.view_update.proofs.Made.{Put}
use Rattle.view_update.proofs.parts.put_restyles.Given as goal

abbrev pub invariant-loop-restyle : goal.invariant-loop-restyle
invariant-loop-restyle l = Put (map restyle_data) IsFairRestyle l.restyles l.restyle-index l.initial.out l.out
