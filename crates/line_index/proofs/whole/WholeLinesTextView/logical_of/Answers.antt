use Rattle.std.proofs.Common.{sym, ◌∙◌}
use Rattle.line_index.proofs.WholeLemmas.{extent-whole}
use Rattle.line_index.proofs.whole.WholeLinesTextView.logical_of.Goals as goal

pub returns : goal.returns
returns c =
    let inside = rw (sym c.self.view_is) at c.requires in
    rw (← c.self.view_is) (c.line_run.ensures ∙ extent-whole c.self.inside.rope c.args.line inside)
