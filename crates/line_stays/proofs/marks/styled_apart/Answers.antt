use Rattle.std.proofs.Common.{ap, sym, ◌∙◌}
use Rattle.line_stays.specs.Change.{may_differ}
use Rattle.line_stays.specs.declared.change.Change.{Change}
use Rattle.line_stays.specs.Inner.{flags_by}
use Rattle.line_stays.proofs.MarkLemmas.{none-flags}
use Rattle.line_stays.proofs.marks.styled_apart.Goals as goal

pub returns-in-Nothing : goal.returns-in-Nothing
returns-in-Nothing c =
    c.none.ensures ∙ none-flags c.args.gaps.old c.args.gaps.n ∙ ap (λ (change : Change). flags_by (may_differ change) c.args.gaps.old c.args.gaps.n) (sym c.in-Nothing.is)

pub returns-in-Edited : goal.returns-in-Edited
returns-in-Edited c =
    c.none-in-Edited.ensures ∙ none-flags c.args.gaps.old c.args.gaps.n ∙
    ap (λ (change : Change). flags_by (may_differ change) c.args.gaps.old c.args.gaps.n) (sym c.in-Edited.is)
