use Rattle.std.proofs.Common.{ap, sym, ◌∙◌}
use Rattle.subset_runs.specs.Runs.{IsStored, flags_in}
use Rattle.subset_runs.proofs.RunLemmas.{flags_in-none, IsStored-none}
use Rattle.subset_runs.proofs.subset.Subset.none.Goals as goal

pub invariant_of-result : goal.invariant_of-result
invariant_of-result c = rw c.new.ensures.items (IsStored-none c.args.len)

pub returns : goal.returns
returns c = ap (λ runs. flags_in runs 0 c.args.len) c.new.ensures.items ∙ flags_in-none 0 c.args.len
