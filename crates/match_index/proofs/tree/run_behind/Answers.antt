use Rattle.std.proofs.Common.{ap, arith, sym}
use Rattle.match_index.specs.declared.stride.Reach.{Reach}
use Rattle.match_index.specs.Inner.{strides_under}
use Rattle.match_index.proofs.StrideLemmas.{end-within, long-at, no-run, run-behind}
use Rattle.match_index.proofs.TreeLemmas.{span-small}
use Rattle.match_index.proofs.tree.run_behind.Goals as goal

pub returns-then-index-all : goal.returns-then-index-all
returns-then-index-all c =
    sym (no-run c.args.len 0 (strides_under c.args.strides.now) c.args.index
    (omega (arith, c.if-index-all.true, ap (λ (e : Reach). e.matches) c.summary-all.ensures.sum)))

pub overflow_add-end : goal.overflow_add-end
overflow_add-end c =
    let small = span-small (strides_under c.args.strides.now) c.summary-all.ensures.fits in
    omega (arith, c.requires.behind, small, end-within (strides_under c.args.strides.now) c.args.index c.stride_at.result c.stride_at.ensures)

pub overflow_sub-result : goal.overflow_sub-result
overflow_sub-result c =
    omega (arith, long-at c.args.len (strides_under c.args.strides.now) c.args.index c.stride_at.result c.requires.long c.stride_at.ensures)

pub returns : goal.returns
returns c = run-behind c.args.len (strides_under c.args.strides.now) c.args.index c.args.end c.stride_at.result c.requires.behind c.stride_at.ensures
