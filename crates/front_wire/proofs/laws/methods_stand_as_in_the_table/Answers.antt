use Rattle.std.proofs.Common.{refl}
use Rattle.front_wire.proofs.laws.methods_stand_as_in_the_table.Goals as goal

pub returns : goal.returns
returns c = record { lines = λ params. refl; edits = λ m. refl }
