use Rattle.std.proofs.Common.{◌-◌, List, length, ap, ◌∙◌}
use Rattle.std.specs.Prelude.{slice_get}
use Rattle.plain_text.specs.declared.selection.Region.{Region}
use Rattle.plain_text.specs.Numbers.{has}
use Rattle.line_render.specs.Rendered.{carets_of}
use Rattle.doc_view.proofs.ApartLemmas.{last-shared}
use Rattle.doc_view.proofs.view.ViewState.has_caret_of.Goals as goal

pub returns-in-Some : goal.returns-in-Some
returns-in-Some c =
    last-shared c.args.self.now.regions c.args.other.now.regions c.in-Some.region.now c.has_caret.result
    (c.in-Some.ensures.value ∙ ap (λ rs. slice_get rs (length rs - 1)) (c.as_slice.ensures ∙ c.selection.ensures.regions))
    (c.has_caret.ensures ∙ ap (λ (rs : List Region). has (carets_of rs) c.in-Some.region.now.caret) (c.as_slice-in-Some.ensures ∙ c.selection-in-Some.ensures.regions))
