use Rattle.std.proofs.Common.{◌≡◌, ◌+◌, suc, take, ap, ap₂, sym, ◌∙◌, arith}
use Rattle.std.specs.Cmp.Lexicographic.{pointwise}
use Rattle.doc_layout.proofs.ForCallers.{one-more-at}
use Rattle.doc_view.specs.Inner.{earlier}
use Rattle.doc_view.specs.Told.{has_same_ends}
use Rattle.doc_view.proofs.RegionLemmas.{AreEndsApart-found}
use Rattle.doc_view.proofs.same.ends_apart.Goals as goal

pub loop-index-preserved : goal.loop-index-preserved
loop-index-preserved c =
    ap (λ n. pointwise has_same_ends (take n c.args.regions.now) (take n c.args.others.now)) (let next : c.loop-index.index + 1 ≡ suc c.loop-index.index = omega arith in next) ∙
    one-more-at has_same_ends c.args.regions.now c.args.others.now c.loop-index.index _ _ c.loop-index-test.true c.if-index-others.true
    (sym c.has_same_ends.ensures ∙ c.if-has_same_ends.true) c.loop-index.invariant

pub returns : goal.returns
returns c =
    AreEndsApart-found _ _ _ c.loop-index.index c.requires.one c.requires.another c.loop-index.invariant
    (c.earlier.ensures ∙ ap₂ earlier c.start_at.ensures c.start_at-2.ensures)
