use Rattle.std.proofs.Common.{Bool, true, false, List, ◌++◌, ◌-◌, replicate, ap, ◌∙◌}
use Rattle.std.specs.Prelude.{min}
use Rattle.line_stays.proofs.MarkLemmas.{from-gap}
use Rattle.line_stays.proofs.flags.from_gap.Goals as goal

pub returns : goal.returns
returns c =
    let before = c.min-before.result in
    c.in_ok-append-2.ensures.ok ∙
    ap (λ (flags : List Bool). flags ++ replicate (c.args.n - before) true)
    (c.in_ok-append.ensures.ok ∙ ap (λ (flags : List Bool). flags ++ replicate before false) c.none-flags.ensures) ∙
    from-gap c.args.gap c.args.from c.args.n before (c.min-before.ensures ∙ ap (λ k. min k c.args.n) c.saturating_sub.ensures)
