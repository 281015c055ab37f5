use Rattle.std.proofs.Common.{sym, ◌∙◌, arith}
use Rattle.number_set.proofs.SearchLemmas.{whole, upper, lower, found, missed, below_of, same_of, above_of}
use Rattle.number_set.proofs.set.NumberSet.search.Goals as goal

pub loop-low-init : goal.loop-low-init
loop-low-init c = rw c.len-high.ensures.len (whole c.args.self.now c.len-high.ensures.rising c.args.number)

pub loop-low-preserved-in-Less : goal.loop-low-preserved-in-Less
loop-low-preserved-in-Less c =
    upper c.args.self.now c.len-high.ensures.rising c.args.number _ _ _ c.at.result c.loop-low.invariant c.place_back-middle.ensures.from c.place_back-middle.ensures.to c.at.ensures (below_of _ _ (sym c.cmp.ensures ∙ c.in-Less.is))

pub returns-in-Equal-clause-place : goal.returns-in-Equal-clause-place
returns-in-Equal-clause-place c =
    found c.args.self.now c.len-high.ensures.rising c.args.number _ _ _ c.at.result c.loop-low.invariant c.place_back-middle.ensures.from c.place_back-middle.ensures.to c.at.ensures (same_of _ _ (sym c.cmp.ensures ∙ c.in-Equal.is))

pub loop-low-preserved : goal.loop-low-preserved
loop-low-preserved c =
    lower c.args.self.now c.len-high.ensures.rising c.args.number _ _ _ c.at.result c.loop-low.invariant c.place_back-middle.ensures.from c.place_back-middle.ensures.to c.at.ensures (above_of _ _ (sym c.cmp.ensures ∙ c.in-Greater.is))

pub returns-clause-place : goal.returns-clause-place
returns-clause-place c =
    missed c.args.self.now c.len-high.ensures.rising c.args.number _ _ c.loop-low.invariant (omega arith)
