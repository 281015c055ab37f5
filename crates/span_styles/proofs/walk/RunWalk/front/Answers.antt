use Rattle.std.proofs.Common.{sym, ◌∙◌}
use Rattle.span_styles.proofs.WalkLemmas.{IsStyleFront-first}
use Rattle.span_styles.proofs.walk.RunWalk.front.Goals as goal

pub returns : goal.returns
returns c = rw (← c.self.view_is) (IsStyleFront-first _ c.self.inside.runs.now _ c.self.invariant.are (λ none. c.requires (sym c.self.view_is ∙ none)))
