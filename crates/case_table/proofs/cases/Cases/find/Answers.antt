use Rattle.std.proofs.Common.{Some, sym, ◌∙◌, ap, arith}
use Rattle.case_table.proofs.Search.{before_sought, after_sought, equal_names, one_row}
use Rattle.case_table.proofs.cases.Cases.find.Goals as goal

pub returns-in-Equal-clause-own : goal.returns-in-Equal-clause-own
returns-in-Equal-clause-own g c = λ row.
    let names = c.args.self.now in
    let same = equal_names c.at.result.now c.args.name.now (sym c.cmp.ensures ∙ c.in-Equal.is) in
    let at_middle = c.at.ensures.name ∙ ap Some same in
    (λ here. cc, λ found. ap Some (one_row names c.args.name.now _ row c.at.ensures.rising at_middle found))

pub loop-low-preserved-in-Less : goal.loop-low-preserved-in-Less
loop-low-preserved-in-Less g c =
    let less = sym c.cmp.ensures ∙ c.in-Less.is in
    record {
      above = λ row found. omega (arith, before_sought c.args.self.now c.args.name.now c.at.result.now _ row c.at.ensures.rising c.at.ensures.name less found);
      below = c.loop-low.invariant.below;
      within = c.loop-low.invariant.within;
      ordered = omega arith;
    }

pub loop-low-preserved : goal.loop-low-preserved
loop-low-preserved g c =
    let greater = sym c.cmp.ensures ∙ c.in-Greater.is in
    record {
      above = c.loop-low.invariant.above;
      below = λ row found. after_sought c.args.self.now c.args.name.now c.at.result.now _ row c.at.ensures.rising c.at.ensures.name greater found;
      within = omega arith;
      ordered = omega arith;
    }
