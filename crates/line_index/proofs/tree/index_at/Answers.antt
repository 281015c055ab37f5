use Rattle.std.proofs.Common.{◌≤◌, List, arith, subst, IsTrue}
use Rattle.std.specs.List.{flat_map}
use Rattle.line_index.specs.declared.cut.Cut.{Cut}
use Rattle.line_index.specs.Inner.{cuts_under}
use Rattle.line_index.specs.Sizes.{is_countable, sizes_of}
use Rattle.line_index.proofs.CutLemmas.{leaves-parted, part-fits, span-small}
use Rattle.line_index.proofs.TreeLemmas.{IsCutAt-end, IsCutAt-found}
use Rattle.line_index.proofs.tree.index_at.Goals as goal

pub returns-then-gap-all : goal.returns-then-gap-all
returns-then-gap-all c = IsCutAt-end (cuts_under c.args.cuts.now) c.args.gap c.summary-all.result c.summary-all.ensures.sum c.requires c.if-gap-all.true

pub index_of-requires-clause-fits : goal.index_of-requires-clause-fits
index_of-requires-clause-fits c =
    let front : List Cut = flat_map (λ (own : List Cut). own) c.find.ensures.front in
    let back : List Cut = flat_map (λ (own : List Cut). own) c.find.ensures.back in
    let whole = leaves-parted c.args.cuts.now.leaves c.find.ensures.front c.find.ensures.back c.find.result.0.now c.find.ensures.cut in
    span-small c.find.result.0.now
    (part-fits front c.find.result.0.now back (subst (λ (cuts : List Cut). IsTrue (is_countable (sizes_of cuts))) whole c.summary-all.ensures.fits))

pub returns : goal.returns
returns c =
    let front : List Cut = flat_map (λ (own : List Cut). own) c.find.ensures.front in
    let back : List Cut = flat_map (λ (own : List Cut). own) c.find.ensures.back in
    let whole = leaves-parted c.args.cuts.now.leaves c.find.ensures.front c.find.ensures.back c.find.result.0.now c.find.ensures.cut in
    let passed = c.find.ensures.passed in
    let by_then : c.find.result.1.chars ≤ c.args.gap = omega arith in
    IsCutAt-found (cuts_under c.args.cuts.now) front c.find.result.0.now back c.args.gap c.index_of.result c.find.result.1 whole c.find.ensures.total by_then
    c.index_of.ensures.index c.index_of.ensures.by_then c.index_of.ensures.last
