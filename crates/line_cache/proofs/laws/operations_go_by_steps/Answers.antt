use Rattle.line_cache.proofs.OpsLemmas.{ops_by-says}
use Rattle.line_cache.proofs.laws.operations_go_by_steps.Goals as goal

pub returns : goal.returns
returns c = record { same = λ count plan lines longest placed takes same. ops_by-says 0 count 0 plan lines longest placed takes same }
