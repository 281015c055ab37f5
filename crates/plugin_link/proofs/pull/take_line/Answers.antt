use Rattle.std.proofs.Common.{ℕ, List, take, subst, Err}
use Rattle.plugin_link.specs.Pulling.{TextBy}
use Rattle.plugin_link.proofs.PullLemmas.{line_refused}
use Rattle.plugin_link.proofs.pull.take_line.Goals as goal

pub returns-in-Err : goal.returns-in-Err
returns-in-Err c =
    let At : List ℕ → Type 0 = λ bytes. TextBy (Err c.in-Err.end) (take c.args.at bytes) in
    line_refused c.in-Err.end c.args.kept.now c.args.kept.now c.args.at c.requires (subst At c.bytes.ensures c.in-Err.ensures)
