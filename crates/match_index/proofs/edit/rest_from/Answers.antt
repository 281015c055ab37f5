use Rattle.std.proofs.Common.{◌≡◌, inr, arith, length}
use Rattle.match_index.specs.Inner.{strides_under}
use Rattle.match_index.proofs.EditLemmas.{rest-here, rest-next}
use Rattle.match_index.proofs.StrideLemmas.{end-within, long-at, span-next}
use Rattle.match_index.proofs.TreeLemmas.{span-small}
use Rattle.match_index.proofs.edit.rest_from.Goals as goal

pub overflow_add-next : goal.overflow_add-next
overflow_add-next c =
    let small = span-small (strides_under c.args.strides.now) c.summary-all.ensures.fits in
    omega (
      arith,
      small,
      c.ending_by-index.ensures.ends,
      end-within (strides_under c.args.strides.now) c.ending_by-index.result.0 c.stride_at.result c.stride_at.ensures,
    )

pub returns-then-next-len-clause-rest : goal.returns-then-next-len-clause-rest
returns-then-next-len-clause-rest c =
    let long = long-at c.args.len (strides_under c.args.strides.now) c.ending_by-index.result.0 c.stride_at.result c.requires c.stride_at.ensures in
    rest-here c.args.len (strides_under c.args.strides.now) c.args.gap c.ending_by-index.result.0 c.ending_by-index.result.1 c.stride_at.result
    c.ending_by-index.ensures c.stride_at.ensures (omega (arith, long, c.if-next-len.true))

pub returns-clause-rest : goal.returns-clause-rest
returns-clause-rest c =
    let count : c.len.result ≡ length (strides_under c.args.strides.now) = c.len.ensures in
    rest-next c.args.len (strides_under c.args.strides.now) c.args.gap c.ending_by-index.result.0 c.ending_by-index.result.1 c.stride_at.result c.requires
    c.ending_by-index.ensures c.stride_at.ensures (omega (arith, count, c.if-index-len.false))

pub returns-clause-from : goal.returns-clause-from
returns-clause-from c =
    let count : c.len.result ≡ length (strides_under c.args.strides.now) = c.len.ensures in
    omega (
      arith,
      c.ending_by-index.ensures.past (omega (arith, count, c.if-index-len.false)),
      c.ending_by-index.ensures.ends,
      span-next (strides_under c.args.strides.now) c.ending_by-index.result.0 c.stride_at.result c.stride_at.ensures,
    )

pub returns-clause-to : goal.returns-clause-to
returns-clause-to c =
    inr (omega (
      arith,
      c.ending_by-index.ensures.ends,
      end-within (strides_under c.args.strides.now) c.ending_by-index.result.0 c.stride_at.result c.stride_at.ensures,
    ))
