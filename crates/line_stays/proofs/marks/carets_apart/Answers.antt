use Rattle.std.proofs.Common.{List, Bool, ap, ap₂, length, sym, ◌∙◌}
use Rattle.subset_runs.specs.Subset.{symmetric_difference}
use Rattle.plain_text.specs.Numbers.{has}
use Rattle.line_render.specs.Rendered.{carets_of}
use Rattle.line_stays.proofs.MarkLemmas.{length-flags}
use Rattle.line_stays.proofs.marks.carets_apart.Goals as goal

pub symmetric_difference-requires : goal.symmetric_difference-requires
symmetric_difference-requires c =
    ap length c.in_ok-here.ensures ∙ length-flags (has (carets_of c.args.regions.now)) c.args.gaps.old c.args.gaps.n ∙
    sym (ap length c.in_ok-there.ensures ∙ length-flags (has (carets_of c.args.others.now)) c.args.gaps.new c.args.gaps.n)

pub returns : goal.returns
returns c = c.in_ok-symmetric_difference.ensures ∙ ap₂ (λ (xs ys : List Bool). symmetric_difference xs ys) c.in_ok-here.ensures c.in_ok-there.ensures
