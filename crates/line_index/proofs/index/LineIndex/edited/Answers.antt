use Rattle.std.proofs.Common.{ap, arith}
use Rattle.line_index.specs.Index.{Index}
use Rattle.line_index.proofs.index.LineIndex.edited.Goals as goal

pub returns-in_err-lines-in-Wrapped-clause-none : goal.returns-in_err-lines-in-Wrapped-clause-none
returns-in_err-lines-in-Wrapped-clause-none g c =
    let own = rw c.in-Wrapped.is at c.self.view_is in
    let same = ap (λ (index : Index). index.width) own in
    λ none. absurd (omega (arith, same, c.width-wraps.ensures.value, c.width-wraps.ensures.wraps))
