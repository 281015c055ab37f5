use Rattle.std.proofs.Common.{◌≡◌, length, None, ap, sym, ◌∙◌}
use Rattle.std.proofs.lemmas.List.{length-replicate}
use Rattle.plain_edits.specs.UnitDelta.{unit_adds, unit_keeps}
use Rattle.plain_edits.specs.Styles.{mapped_layer}
use Rattle.span_styles.specs.Layers.{unstyled}
use Rattle.span_styles.specs.Shared.{shared_layer}
use Rattle.span_styles.proofs.MapLemmas.{mapped-unstyled}
use Rattle.span_styles.proofs.layer.StyleLayer.mapped.Goals as goal

pub returns-in-None : goal.returns-in-None
returns-in-None c =
    let bare : c.args.self.now ≡ unstyled c.self.inside.len = sym c.self.view_is ∙ ap (λ runs. shared_layer c.self.inside.len runs) c.in-None.is in
    let over : c.self.inside.len ≡ c.args.units.now.base = sym (length-replicate c.self.inside.len None) ∙ ap length (sym bare) ∙ c.requires.over in
    c.unstyled.ensures ∙ ap unstyled c.requires.after ∙ mapped-unstyled c.args.units.now c.self.inside.len over ∙
    ap (mapped_layer (unit_keeps c.args.units.now) (unit_adds c.args.units.now)) (sym bare)
