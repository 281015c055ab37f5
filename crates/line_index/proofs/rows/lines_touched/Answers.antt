use Rattle.std.proofs.Common.{refl}
use Rattle.line_index.proofs.rows.lines_touched.Goals as goal

pub returns : goal.returns
returns c = record { inside = refl; feed = refl; joined = refl; both = refl; none = refl }
