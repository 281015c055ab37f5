use Rattle.std.proofs.Common.{◌≡◌, ◌++◌, append-nil, ap, sym, ◌∙◌}
use Rattle.span_runs.specs.Spans.{spans_in}
use Rattle.span_styles.specs.Layers.{unstyled}
use Rattle.span_styles.specs.Shared.{shared_layer}
use Rattle.span_styles.proofs.ShowLemmas.{spans_in-unstyled}
use Rattle.span_styles.proofs.layer.StyleLayer.push_spans.Goals as goal

pub returns-in-None : goal.returns-in-None
returns-in-None c =
    let bare : c.args.self.now ≡ unstyled c.self.inside.len = sym c.self.view_is ∙ ap (λ runs. shared_layer c.self.inside.len runs) c.in-None.is in
    sym (append-nil c.args.spans.now) ∙
    ap (λ spans. c.args.spans.now ++ spans) (sym (ap (spans_in c.args.range) bare ∙ spans_in-unstyled c.args.range c.self.inside.len))
