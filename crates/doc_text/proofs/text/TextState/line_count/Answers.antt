use Rattle.std.proofs.Common.{ap, sym, ◌∙◌, subst, length, ◌<◌, ◌^◌}
use Rattle.plain_text.specs.Lines.{logical_lines}
use Rattle.doc_text.proofs.text.TextState.line_count.Goals as goal

pub line_count-requires : goal.line_count-requires
line_count-requires c = subst (λ t. length (logical_lines t) < 2 ^ 64) (sym c.head_rope.ensures.shown) c.requires

pub returns : goal.returns
returns c = λ plain stands. c.line_count.ensures ∙ ap (λ t. length (logical_lines t)) (c.head_rope.ensures.text plain stands)
