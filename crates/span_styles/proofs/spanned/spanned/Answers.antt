use Rattle.std.proofs.Common.{◌≡◌, ◌-◌, ◌++◌, take, length, fold, ap, subst, ◌∙◌, arith}
use Rattle.span_styles.specs.Layers.{spanned_layer}
use Rattle.span_styles.specs.Inner.{styles_in}
use Rattle.span_styles.proofs.SpannedLemmas.{IsSpanning, IsSpanning-next, drop_item, range_room}
use Rattle.span_styles.proofs.spanned.spanned.Goals as goal

pub put_range-requires-clause-inside : goal.put_range-requires-clause-inside
put_range-requires-clause-inside c =
    let here = drop_item c.args.ranges.now c.loop-spanned.spanned-index c.spanned-item.result (omega (arith, c.loop-spanned-test.true)) c.spanned-item.is in
    let going = subst (λ rs. IsSpanning c.loop-spanned.made c.loop-spanned.rest c.loop-spanned.at (length c.args.layer.now) rs (fold spanned_layer c.args.layer.now c.args.ranges.now)) here c.loop-spanned.invariant in
    range_room _ _ _ _ _ _ _ going

pub loop-spanned-preserved : goal.loop-spanned-preserved
loop-spanned-preserved c =
    let here = drop_item c.args.ranges.now c.loop-spanned.spanned-index c.spanned-item.result (omega (arith, c.loop-spanned-test.true)) c.spanned-item.is in
    let going = subst (λ rs. IsSpanning c.loop-spanned.made c.loop-spanned.rest c.loop-spanned.at (length c.args.layer.now) rs (fold spanned_layer c.args.layer.now c.args.ranges.now)) here c.loop-spanned.invariant in
    let range = c.spanned-item.result.range in
    let put : c.put_range.new.made ≡ c.loop-spanned.made ++ (take (range.start - c.loop-spanned.at) c.loop-spanned.rest ++ styles_in range c.as_slice.result.now) = c.in_ok-put_range.ensures.made in
    IsSpanning-next _ _ _ _ _ _ _ _ _ going
    (put ∙ ap (λ spans. c.loop-spanned.made ++ (take (range.start - c.loop-spanned.at) c.loop-spanned.rest ++ styles_in range spans)) c.as_slice.ensures)
    c.in_ok-put_range.ensures.ahead
