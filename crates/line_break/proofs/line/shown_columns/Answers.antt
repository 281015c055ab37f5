use Rattle.std.proofs.Common.{◌∙◌, sym, ap, take, drop, arith, length-take-le, take-append-drop}
use Rattle.std.specs.Str.{chars}
use Rattle.cluster_core.specs.Columns.{column_after}
use Rattle.line_break.specs.Inner.{inside_column}
use Rattle.line_break.proofs.LookLemmas.{inside_column-is}
use Rattle.line_break.proofs.TailLemmas.{shown-le-solid, solid_len-le}
use Rattle.line_break.proofs.line.shown_columns.Goals as goal

pub returns-else-tail-clause-some : goal.returns-else-tail-clause-some
returns-else-tail-clause-some c = λ tab shown is.
    let text = chars c.args.cluster.cluster.now in
    let count = c.args.tail.shown in
    let whole = c.args.cluster.column in
    let long = length-take-le count text (omega (arith, c.requires.tail.shown, shown-le-solid text, solid_len-le text)) in
    c.inside_column.ensures ∙ ap (inside_column c.args.column whole) c.split_at_gap.ensures.front ∙
    inside_column-is tab c.args.column whole (take count text) (drop count text) (omega (arith, long, shown))
    (is ∙ ap (column_after tab c.args.column) (sym (take-append-drop count text)))
