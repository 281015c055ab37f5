use Rattle.std.proofs.Common.{◌≡◌, ◌++◌, [], ap, ap₂, sym, ◌∙◌, arith}
use Rattle.std.proofs.lemmas.Result.{IfOk-weaker}
use Rattle.std.proofs.lemmas.List.{nil_from_length}
use Rattle.span_styles.specs.Inner.{styles_in, overlaid_layer}
use Rattle.span_styles.proofs.OverlayLemmas.{overlaid-styles, styles_in-none}
use Rattle.span_styles.proofs.spanned.+styled.Goals as goal

pub returns-in-empty : goal.returns-in-empty
returns-in-empty t c =
    let none : c.args.spans.now ≡ [] = nil_from_length _ (omega arith) in
    IfOk-weaker c.unstyled.result _ _ (λ made is. is ∙ styles_in-none c.args.range ∙ ap (styles_in c.args.range) (sym none)) c.unstyled.ensures

pub returns-in_ok-above-in_default : goal.returns-in_ok-above-in_default
returns-in_ok-above-in_default t c =
    let above : c.in_ok-above-in_default.above ≡ styles_in c.args.range c.split_at.result.1.now = c.in_ok-above-in_default.ensures in
    let below : c.in_ok-below-in_default.below ≡ styles_in c.args.range c.split_at.result.0.now = c.in_ok-below-in_default.ensures in
    let parts : c.args.spans.now ≡ c.split_at.result.0.now ++ c.split_at.result.1.now = c.split_at.ensures.by_index.0 in
    IfOk-weaker c.overlaid.result _ _
    (λ made is. is ∙ ap₂ overlaid_layer above below ∙ overlaid-styles c.args.range c.split_at.result.0.now c.split_at.result.1.now ∙
    ap (styles_in c.args.range) (sym parts)) c.overlaid.ensures
