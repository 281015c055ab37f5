use Rattle.std.proofs.Common.{refl}
use Rattle.std.specs.Str.{chars}
use Rattle.edit_cases.proofs.selections.replacing.Goals as goal

pub returns : goal.returns
unfolding chars
returns c = rw (c.in_ok-kept.ensures, c.in_ok-added.ensures) refl
