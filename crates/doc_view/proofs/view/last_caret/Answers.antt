use Rattle.std.proofs.Common.{◌-◌, length, ap, ◌∙◌}
use Rattle.std.specs.Prelude.{slice_get}
use Rattle.doc_view.proofs.PointLemmas.{last_caret-is}
use Rattle.doc_view.proofs.view.last_caret.Goals as goal

pub returns-in-Some : goal.returns-in-Some
returns-in-Some c = last_caret-is c.args.regions.now c.in-Some.region.now (c.in-Some.ensures.value ∙ ap (λ rs. slice_get rs (length rs - 1)) c.as_slice.ensures)
