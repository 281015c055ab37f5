use Rattle.std.proofs.Common.{ap, ◌∙◌}
use Rattle.xi_core.specs.Words.{run_in}
use Rattle.xi_core.proofs.WordLemmas.{has_room, runs_behind}
use Rattle.xi_core.proofs.program.run_recorded.Goals as goal

pub split_at-requires : goal.split_at-requires
split_at-requires g c = has_room c.args.words.now _ c.requires tt

pub run-requires-after_bounds : goal.run-requires-after_bounds
run-requires-after_bounds g c κs within = ap run_in c.split_at.ensures.back ∙ runs_behind c.args.words.now c.args.form c.args.handed c.requires
