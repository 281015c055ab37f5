use Rattle.std.proofs.Common.{◌≡◌, sym, arith}
use Rattle.span_styles.proofs.RunLemmas.{length-layer_of, end_of-last, end_of}
use Rattle.span_styles.proofs.run.StyleRuns.len.Goals as goal

pub returns-in-Some : goal.returns-in-Some
returns-in-Some c =
    let len = length-layer_of 0 c.self.inside.runs.items c.self.invariant in
    let last : end_of 0 c.self.inside.runs.items ≡ c.in-Some.run'.now.end =
    end_of-last 0 c.self.inside.runs.items c.in-Some.run'.now (rw (← c.deref.ensures.value) (sym c.in-Some.ensures.value)) in
    rw (← c.self.view_is) (omega arith)
