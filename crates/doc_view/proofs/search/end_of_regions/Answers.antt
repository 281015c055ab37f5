use Rattle.std.proofs.Common.{◌-◌, length, ap, ◌∙◌}
use Rattle.std.specs.Prelude.{slice_get}
use Rattle.doc_view.proofs.SearchLemmas.{end_of_regions-is}
use Rattle.doc_view.proofs.search.end_of_regions.Goals as goal

pub returns-in-Some : goal.returns-in-Some
returns-in-Some c =
    c.max.ensures ∙
    end_of_regions-is c.args.regions.now c.in-Some.region.now (c.in-Some.ensures.value ∙ ap (λ rs. slice_get rs (length rs - 1)) c.as_slice.ensures)
