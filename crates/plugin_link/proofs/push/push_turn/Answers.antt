use Rattle.std.proofs.Common.{arith, ◌∙◌}
use Rattle.plugin_link.specs.Turns.{framed, utf8_of}
use Rattle.plugin_link.specs.Link.{link_told}
use Rattle.plugin_link.proofs.PullLemmas.{pushed_line, cut_line}
use Rattle.plugin_link.proofs.push.push_turn.Goals as goal

pub loop-line-preserved : goal.loop-line-preserved
loop-line-preserved g c =
    let told = link_told g.L.Link.left g.L.Link.held g.L.Link.faults in
    let (put, pushes, parts) = c.loop-line.invariant in
    pushed_line (told c.args.link.now) (told c.loop-line.link) (told c.push_line.new.link) (framed (utf8_of c.args.lines.now)) put
    c.as_bytes.result.now c.line-item.result c.args.lines.now c.loop-line.line-index pushes parts (omega (arith, c.loop-line-test.true)) c.line-item.is
    (c.as_bytes.ensures.value ∙ c.as_str.ensures.utf8) c.in_default.ensures

pub returns-in-Err : goal.returns-in-Err
returns-in-Err g c =
    let told = link_told g.L.Link.left g.L.Link.held g.L.Link.faults in
    let (put, pushes, parts) = c.loop-line.invariant in
    cut_line (told c.args.link.now) (told c.loop-line.link) (told c.push_line.new.link) (framed (utf8_of c.args.lines.now)) put
    c.as_bytes.result.now c.line-item.result c.args.lines.now c.loop-line.line-index pushes parts (omega (arith, c.loop-line-test.true)) c.line-item.is
    (c.as_bytes.ensures.value ∙ c.as_str.ensures.utf8) c.in-Err.ensures
