use Rattle.std.proofs.Common.{ℕ, List, ap, ap₂, take, min, ◌∙◌}
use Rattle.std.specs.Str.{chars}
use Rattle.cluster_core.proofs.ColumnLemmas.{part_few, slice_range-min}
use Rattle.cluster_core.proofs.widths.part_of.Goals as goal

pub returns-clause-len : goal.returns-clause-len
returns-clause-len c =
    part_few c.args.text.now c.split_at_gap-2.result.0.now c.split_at_gap.result.1.now c.min-low.result c.saturating_sub.result c.utf8.text
    c.split_at_gap.ensures.back c.split_at_gap-2.ensures.bytes

pub returns-clause-part : goal.returns-clause-part
returns-clause-part c =
    let low = c.min-low.ensures ∙ ap (min c.args.from) c.char_count-count.ensures.count in
    let high = c.min-high.ensures ∙ ap (min c.args.to) c.char_count-count.ensures.count in
    c.split_at_gap-2.ensures.front ∙ ap₂ (λ (n : ℕ) (cs : List ℕ). take n cs) c.saturating_sub.ensures c.split_at_gap.ensures.back ∙
    slice_range-min (chars c.args.text.now) c.args.from c.args.to c.min-low.result c.min-high.result low high
