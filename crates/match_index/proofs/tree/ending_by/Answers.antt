use Rattle.std.proofs.Common.{◌≤◌, List, ℕ, ap, append-nil, arith, subst, IsTrue}
use Rattle.std.specs.List.{flat_map}
use Rattle.match_index.specs.Inner.{strides_under}
use Rattle.match_index.specs.Strides.{reach_of, is_countable, span}
use Rattle.match_index.proofs.TreeLemmas.{last-end, last-found, leaves-parted, part-fits, span-small}
use Rattle.match_index.proofs.tree.ending_by.Goals as goal

pub returns-then-gap-all : goal.returns-then-gap-all
returns-then-gap-all c =
    last-end (strides_under c.args.strides.now) c.args.gap c.summary-all.result c.summary-all.ensures.sum c.if-gap-all.true

pub ending_by-count-requires-clause-fits : goal.ending_by-count-requires-clause-fits
ending_by-count-requires-clause-fits c =
    let front : List ℕ = flat_map (λ (own : List ℕ). own) c.find.ensures.front in
    let back : List ℕ = flat_map (λ (own : List ℕ). own) c.find.ensures.back in
    let whole = leaves-parted c.args.strides.now.leaves c.find.ensures.front c.find.ensures.back c.find.result.0.now c.find.ensures.cut in
    span-small c.find.result.0.now
    (part-fits front c.find.result.0.now back (subst (λ (xs : List ℕ). IsTrue (is_countable (reach_of xs))) whole c.summary-all.ensures.fits))

pub returns : goal.returns
returns c =
    let front : List ℕ = flat_map (λ (own : List ℕ). own) c.find.ensures.front in
    let back : List ℕ = flat_map (λ (own : List ℕ). own) c.find.ensures.back in
    let whole = leaves-parted c.args.strides.now.leaves c.find.ensures.front c.find.ensures.back c.find.result.0.now c.find.ensures.cut in
    let passed = c.find.ensures.passed in
    let reached = c.find.ensures.reached in
    let by_then : c.find.result.1.chars ≤ c.args.gap = omega arith in
    last-found (strides_under c.args.strides.now) front c.find.result.0.now back c.args.gap c.ending_by-count.result.0 c.ending_by-count.result.1 c.find.result.1 whole
    c.find.ensures.total by_then (omega (arith, ap span (append-nil c.find.result.0.now))) c.ending_by-count.ensures
