use Rattle.std.proofs.Common.{sym, ◌∙◌}
use Rattle.xi_core.proofs.WordLemmas.{runs_itself}
use Rattle.xi_core.proofs.program.answered.Goals as goal

pub run-requires-after_bounds : goal.run-requires-after_bounds
run-requires-after_bounds g c κs within = runs_itself c.args.words.now _ _ (sym c.invocation_of-invocation.ensures ∙ c.in-Run.is)
