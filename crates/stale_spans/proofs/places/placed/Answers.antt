use Rattle.std.proofs.Common.{◌+◌, subst, sym, arith}
use Rattle.span_styles.specs.Layers.{LieIn}
use Rattle.stale_spans.specs.Places.{StandIn}
use Rattle.stale_spans.proofs.PlacedLemmas.{IsPlaced-at, LieIn-meant, gaps-ordered}
use Rattle.stale_spans.proofs.places.placed.Goals as goal

pub returns-clause-ordered : goal.returns-clause-ordered
returns-clause-ordered c =
    gaps-ordered c.args.text.now c.args.asked.now.start (c.args.asked.now.start + c.args.asked.now.len) c.in-Some.start c.in-Some-gap_past.end
    (sym c.in-Some.ensures) (sym c.in-Some-gap_past.ensures) (omega arith)

pub returns-clause-inside : goal.returns-clause-inside
returns-clause-inside c =
    (IsPlaced-at c.args.text.now (c.args.asked.now.start + c.args.asked.now.len) c.in-Some-gap_past.end (sym c.in-Some-gap_past.ensures)).within

pub returns-clause-within : goal.returns-clause-within
returns-clause-within c =
    subst (LieIn (record { start = c.in-Some.start; end = c.in-Some-gap_past.end })) (sym c.in_ok-spans.ensures.meant)
    (LieIn-meant c.args.text.now c.args.asked.now.start c.args.asked.now.len c.in-Some.start c.in-Some-gap_past.end
    (sym c.in-Some.ensures) (sym c.in-Some-gap_past.ensures) c.as_slice.result.now
    (subst (StandIn c.args.asked.now.len) (sym c.as_slice.ensures) c.requires) c.in_ok-spans.ensures.accepted)
