use Rattle.std.proofs.Common.{◌-◌, ◌^◌, ◌∙◌, arith}
use Rattle.std.proofs.lemmas.Result.{IfOk-weaker}
use Rattle.stale_spans.proofs.CarriedLemmas.{AreOver-marked, spans_of-carried}
use Rattle.stale_spans.proofs.marks.carried.Goals as goal

pub map-requires-clause-over : goal.map-requires-clause-over
map-requires-clause-over c =
    AreOver-marked c.args.units.now c.args.range c.args.marks.now c.in_ok-bare.bare c.in_ok-marked.marked c.in_ok-bare.ensures c.in_ok-marked.ensures

pub returns : goal.returns
returns c =
    IfOk-weaker c.spans.result _ _
    (λ made is. is ∙ spans_of-carried c.args.units.now c.args.range c.args.marks.now (2 ^ 64 - 1) c.in_ok-bare.bare c.in_ok-marked.marked c.in_ok-carried.carried
    c.in_ok-bare.ensures c.in_ok-marked.ensures c.in_ok-carried.ensures (omega (arith, c.requires.bound)))
    c.spans.ensures
