use Rattle.span_styles.proofs.BareLemmas.{no_style}
use Rattle.span_styles.proofs.run.StyleRuns.has_styles.Goals as goal

pub returns : goal.returns
returns c = rw (← c.self.view_is, c.any_styled.ensures, c.deref.ensures.value) (no_style c.self.inside.runs.items c.self.invariant)
