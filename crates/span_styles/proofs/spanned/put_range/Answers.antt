use Rattle.std.proofs.Common.{◌≡◌, ◌-◌, ◌++◌, length, take, ap, ap₂, ◌∙◌, arith, append_assoc}
use Rattle.std.proofs.lemmas.List.FromFn.{length-map-range_with_len}
use Rattle.plain_edits.specs.Styles.{span_style}
use Rattle.span_styles.specs.Inner.{styles_in}
use Rattle.span_styles.proofs.SpannedLemmas.{take_all}
use Rattle.span_styles.proofs.spanned.put_range.Goals as goal

pub take_into-requires-2-clause-within : goal.take_into-requires-2-clause-within
take_into-requires-2-clause-within c =
    omega (
      arith,
      ap length c.walk_from-walk.ensures,
      ap length c.in_ok-styles.ensures,
      length-map-range_with_len (span_style c.args.spans.now) c.args.range.start (c.args.range.end - c.args.range.start),
    )

pub returns-clause-made : goal.returns-clause-made
returns-clause-made c =
    let len = length-map-range_with_len (span_style c.args.spans.now) c.args.range.start (c.args.range.end - c.args.range.start) in
    let second : c.take_into-2.new.made ≡ c.take_into.new.made ++ take (c.args.range.end - c.args.range.start) c.walk_from-walk.result = c.in_ok-take_into-2.ensures.taken in
    let first : c.take_into.new.made ≡ c.args.made.now ++ take c.args.left c.args.rest.now = c.in_ok-take_into.ensures.taken in
    let styles : c.walk_from-walk.result ≡ styles_in c.args.range c.args.spans.now = c.walk_from-walk.ensures ∙ c.in_ok-styles.ensures in
    second ∙
    ap₂ (λ xs ys. xs ++ ys) first
    (ap (λ layer. take (c.args.range.end - c.args.range.start) layer) styles ∙ take_all (c.args.range.end - c.args.range.start) (styles_in c.args.range c.args.spans.now) (omega arith)) ∙
    append_assoc c.args.made.now (take c.args.left c.args.rest.now) (styles_in c.args.range c.args.spans.now)
