use Rattle.std.proofs.Common.{arith}
use Rattle.macro_record.proofs.ForCallers.{played-short-by}
use Rattle.whole_cases.proofs.tapes.plays.Goals as goal

pub played-requires-clause-small : goal.played-requires-clause-small
played-requires-clause-small c =
    let few = c.if-times-gt1024.false in
    let short = c.if-len-ge1024.false in
    let len = c.len.ensures in
    played-short-by c.from_vec-tape.result c.args.lines.0 c.args.lines.1 c.args.times 1024 1024 (omega (arith, few)) (omega (arith, short, len)) (omega arith)
