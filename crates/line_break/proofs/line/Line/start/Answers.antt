use Rattle.std.proofs.Common.{[], refl}
use Rattle.std.specs.Str.{chars}
use Rattle.cluster_core.specs.Boundaries.{clusters_in}
use Rattle.line_break.proofs.line.Line.start.Goals as goal

pub returns-clause-stands : goal.returns-clause-stands
returns-clause-stands c = record {
  front = [];
  back = clusters_in (chars c.args.self.now.text.now);
  column = 0;
  parts = refl;
  gap = refl;
  left = c.new.ensures.left;
  tab_width = c.new.ensures.tab;
}
