use Rattle.std.proofs.Common.{refl}
use Rattle.line_index.proofs.rows.far_changes.Goals as goal

pub returns : goal.returns
returns c = record { all = refl }
