use Rattle.std.proofs.Common.{length, ap, arith}
use Rattle.span_styles.proofs.RunLemmas.{IsAhead-from}
use Rattle.span_styles.proofs.run.StyleRuns.walk_from.Goals as goal

pub new-requires : goal.new-requires
new-requires c =
    IsAhead-from _ c.self.inside.runs.items _ (omega arith) (omega (arith, ap length c.self.view_is)) (rw (← c.deref.ensures.value) c.runs_after.ensures)
