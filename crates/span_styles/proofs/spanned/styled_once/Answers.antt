use Rattle.std.proofs.Common.{◌≡◌, ◌-◌, ◌++◌, replicate, None, Some, ap, ◌∙◌}
use Rattle.span_styles.proofs.OverlayLemmas.{styles_in-once}
use Rattle.span_styles.proofs.spanned.styled_once.Goals as goal

pub returns : goal.returns
returns c =
    let second : c.push-2.new.self ≡ c.push.new.self ++ replicate (c.args.range.end - c.args.span.end) None = c.in_ok-push-2.ensures in
    let first : c.push.new.self ≡ c.in_ok-made.made ++ replicate (c.args.span.end - c.args.span.start) (Some c.args.span.style) = c.in_ok-push.ensures in
    let start : c.in_ok-made.made ≡ replicate (c.args.span.start - c.args.range.start) None = c.in_ok-made.ensures in
    second ∙ ap (λ layer. layer ++ replicate (c.args.range.end - c.args.span.end) None)
    (first ∙ ap (λ layer. layer ++ replicate (c.args.span.end - c.args.span.start) (Some c.args.span.style)) start) ∙
    styles_in-once c.args.range c.args.span c.requires.start c.requires.ordered c.requires.end
