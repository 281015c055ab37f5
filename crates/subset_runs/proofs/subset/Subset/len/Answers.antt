use Rattle.std.proofs.Common.{length, ap, sym, ◌∙◌}
use Rattle.subset_runs.proofs.RunLemmas.{length-flags_in}
use Rattle.subset_runs.proofs.subset.Subset.len.Goals as goal

pub returns : goal.returns
returns c = sym (length-flags_in c.self.inside.runs.items 0 c.self.inside.len) ∙ ap length c.self.view_is
