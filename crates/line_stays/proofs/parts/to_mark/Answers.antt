use Rattle.std.proofs.Common.{Bool, List, drop, ap, ◌∙◌}
use Rattle.subset_runs.specs.Subset.{contains}
use Rattle.line_stays.proofs.WholeLemmas.{contains-front}
use Rattle.line_stays.proofs.parts.to_mark.Goals as goal

pub returns-clause-gone : goal.returns-clause-gone
returns-clause-gone c = λ k less.
    let front = c.front-front.result in
    ap (λ (ws : List Bool). contains ws k) c.front-front.ensures.same ∙ contains-front front.member front.len k (drop front.len c.args.walk.now) less ∙ c.if-front.false
