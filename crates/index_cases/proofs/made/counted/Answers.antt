use Rattle.std.proofs.Common.{ap, ◌∙◌}
use Rattle.line_index.specs.Index.{Index}
use Rattle.index_cases.proofs.made.counted.Goals as goal

pub returns : goal.returns
returns g c = ap (λ (index : Index). index.text) c.in_ok-made.ensures.made ∙ c.in_ok-rope.ensures
