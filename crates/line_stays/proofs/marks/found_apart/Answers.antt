use Rattle.std.proofs.Common.{List, Bool, ap, ap₂, length, sym, ◌∙◌}
use Rattle.subset_runs.specs.Subset.{symmetric_difference}
use Rattle.match_index.specs.Found.{runs_in}
use Rattle.doc_layout.specs.Found.{is_found}
use Rattle.line_stays.proofs.MarkLemmas.{length-flags}
use Rattle.line_stays.proofs.marks.found_apart.Goals as goal

pub symmetric_difference-requires : goal.symmetric_difference-requires
symmetric_difference-requires g c =
    ap length c.in_ok-here.ensures ∙ length-flags (is_found (runs_in c.args.before.now.results.now)) c.args.gaps.old c.args.gaps.n ∙
    sym (ap length c.in_ok-there.ensures ∙ length-flags (is_found (runs_in c.args.after.now.results.now)) c.args.gaps.new c.args.gaps.n)

pub returns : goal.returns
returns g c = c.in_ok-symmetric_difference.ensures ∙ ap₂ (λ (xs ys : List Bool). symmetric_difference xs ys) c.in_ok-here.ensures c.in_ok-there.ensures
