use Rattle.std.proofs.Common.{◌≡◌, ◌+◌, ◌-◌, ◌<◌, List, ap, arith, length, length-append, subst, ◌∙◌, IsTrue, []}
use Rattle.std.specs.List.{flat_map}
use Rattle.line_index.specs.declared.cut.Cut.{Cut}
use Rattle.line_index.specs.declared.cut.Sizes.{Sizes}
use Rattle.line_index.specs.Inner.{cuts_under}
use Rattle.line_index.specs.Sizes.{is_countable, sizes_of}
use Rattle.line_index.proofs.CutLemmas.{leaves-parted, part-fits}
use Rattle.line_index.proofs.TreeLemmas.{end-small, get-all, number-small, together-fits, together-take}
use Rattle.line_index.proofs.tree.cut_at.Goals as goal

pub sizes_to-requires-clause-fits : goal.sizes_to-requires-clause-fits
sizes_to-requires-clause-fits c =
    let front : List Cut = flat_map (λ (own : List Cut). own) c.find.ensures.front in
    let back : List Cut = flat_map (λ (own : List Cut). own) c.find.ensures.back in
    let whole = leaves-parted c.args.cuts.now.leaves c.find.ensures.front c.find.ensures.back c.find.result.0.now c.find.ensures.cut in
    part-fits front c.find.result.0.now back (subst (λ (cuts : List Cut). IsTrue (is_countable (sizes_of cuts))) whole c.summary-all.ensures.fits)

pub plus-requires : goal.plus-requires
plus-requires c =
    let front : List Cut = flat_map (λ (own : List Cut). own) c.find.ensures.front in
    let back : List Cut = flat_map (λ (own : List Cut). own) c.find.ensures.back in
    let whole = leaves-parted c.args.cuts.now.leaves c.find.ensures.front c.find.ensures.back c.find.result.0.now c.find.ensures.cut in
    together-fits c.find.result.1 c.sizes_to.result front c.find.result.0.now back (c.args.index - c.find.result.1.pieces) c.find.ensures.total c.sizes_to.ensures
    (subst (λ (cuts : List Cut). IsTrue (is_countable (sizes_of cuts))) whole c.summary-all.ensures.fits)

pub returns-clause-before : goal.returns-clause-before
returns-clause-before c =
    let front : List Cut = flat_map (λ (own : List Cut). own) c.find.ensures.front in
    let back : List Cut = flat_map (λ (own : List Cut). own) c.find.ensures.back in
    let whole = leaves-parted c.args.cuts.now.leaves c.find.ensures.front c.find.ensures.back c.find.result.0.now c.find.ensures.cut in
    let many : c.find.result.1.pieces ≡ 0 + length front = ap (λ (s : Sizes). s.pieces) c.find.ensures.total in
    let passed : c.find.result.1.pieces < c.args.index + 1 = c.find.ensures.passed in
    let reached = c.find.ensures.reached in
    c.plus.ensures ∙
    together-take c.find.result.1 c.sizes_to.result (cuts_under c.args.cuts.now) front c.find.result.0.now back c.args.index (c.args.index - c.find.result.1.pieces)
    c.find.ensures.total c.sizes_to.ensures whole (omega arith) (omega (arith, length-append c.find.result.0.now []))

pub returns-clause-cut : goal.returns-clause-cut
returns-clause-cut c =
    let front : List Cut = flat_map (λ (own : List Cut). own) c.find.ensures.front in
    let back : List Cut = flat_map (λ (own : List Cut). own) c.find.ensures.back in
    let whole = leaves-parted c.args.cuts.now.leaves c.find.ensures.front c.find.ensures.back c.find.result.0.now c.find.ensures.cut in
    let many : c.find.result.1.pieces ≡ 0 + length front = ap (λ (s : Sizes). s.pieces) c.find.ensures.total in
    let passed : c.find.result.1.pieces < c.args.index + 1 = c.find.ensures.passed in
    let reached = c.find.ensures.reached in
    get-all (cuts_under c.args.cuts.now) front c.find.result.0.now back c.args.index (c.args.index - c.find.result.1.pieces) c.get.result whole (omega arith)
    (omega (arith, length-append c.find.result.0.now [])) c.get.ensures

pub returns-clause-end : goal.returns-clause-end
returns-clause-end c =
    end-small (cuts_under c.args.cuts.now) c.args.index c.plus.result c.get.result c.summary-all.ensures.fits (returns-clause-before c) (returns-clause-cut c)

pub returns-clause-number : goal.returns-clause-number
returns-clause-number c =
    number-small (cuts_under c.args.cuts.now) c.args.index c.plus.result c.summary-all.ensures.fits (returns-clause-before c) c.requires
