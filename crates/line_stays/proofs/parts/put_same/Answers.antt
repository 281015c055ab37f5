use Rattle.std.proofs.Common.{◌-◌, true, arith}
use Rattle.line_stays.proofs.SettledLemmas.{stays-said}
use Rattle.line_stays.proofs.parts.put_same.Goals as goal

pub returns : goal.returns
returns c = λ had partner same partners each so_far.
    stays-said had partner same c.args.part.old c.args.part.new (c.args.to - c.args.part.old) c.args.from c.args.to true c.args.stays.now _ c.stay_in.result
    c.stay_in.ensures c.in_ok-push.ensures.pushed c.requires.low c.requires.ordered (omega (arith, c.requires.low, c.requires.ordered)) partners each so_far
