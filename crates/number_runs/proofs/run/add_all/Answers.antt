use Rattle.std.proofs.Common.{◌+◌, drop}
use Rattle.std.proofs.lemmas.List.{drop_more}
use Rattle.number_runs.proofs.JoinLemmas.{taking_one}
use Rattle.number_runs.proofs.run.add_all.Goals as goal

pub loop-run-preserved : goal.loop-run-preserved
loop-run-preserved c =
    let more = c.args.more.now in
    taking_one _ _ _ more (drop c.loop-run.run-index more) (drop (c.loop-run.run-index + 1) more) _ c.loop-run.invariant
    (drop_more more c.loop-run.run-index (record { start = 0; end = 0 }) c.loop-run-test.true) c.in_ok-add.ensures
