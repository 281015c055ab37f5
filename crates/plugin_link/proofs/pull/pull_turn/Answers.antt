use Rattle.std.proofs.Common.{◌≡◌, ◌≢◌, length, [], ◌∷◌, ◌++◌, ap, sym, subst, Option, Ok, arith, rules, length-append}
use Rattle.plugin_link.specs.Turns.{utf8_of}
use Rattle.plugin_link.specs.Link.{link_told}
use Rattle.plugin_link.specs.Pulling.{Reads}
use Rattle.plugin_link.specs.declared.link_end.LinkEnd.{LinkEnd}
use Rattle.plugin_link.proofs.PullLemmas.{has_line, reads_turn, reads_stopped, reads_no_memory, failed_end}
use Rattle.plugin_link.proofs.pull.pull_turn.Goals as goal

pub returns-in_err-line : goal.returns-in_err-line
returns-in_err-line g c =
    let told = link_told g.L.Link.left g.L.Link.held g.L.Link.faults in
    let end = c.in_err-line.field-0.0 in
    let At : Option LinkEnd → Type 0 =
    λ ended. Reads (told c.args.link.now) (told c.pull_line.new.link) c.args.kept.now c.pull_line.new.kept (utf8_of c.loop.lines) ended in
    subst At (sym (failed_end c.from_residual.result end c.from_residual.ensures.1))
    (reads_stopped end (told c.args.link.now) (told c.loop.link) (told c.pull_line.new.link) c.args.kept.now c.loop.kept c.pull_line.new.kept c.loop.lines
    c.loop.counter c.loop.invariant.has c.in_err-line.ensures c.loop.invariant.count (omega (arith, c.loop-test.true)))

pub returns-then-is_empty : goal.returns-then-is_empty
returns-then-is_empty g c =
    let told = link_told g.L.Link.left g.L.Link.held g.L.Link.faults in
    let none : c.in_ok-line.line ≡ [] = search rules in
    reads_turn (told c.args.link.now) (told c.loop.link) (told c.pull_line.new.link) c.args.kept.now c.loop.kept c.pull_line.new.kept c.loop.lines
    c.in_ok-line.line c.loop.counter c.loop.invariant.has c.in_ok-line.ensures none c.loop.invariant.count (omega (arith, c.loop-test.true))

pub returns-then-is_err : goal.returns-then-is_err
returns-then-is_err g c =
    let told = link_told g.L.Link.left g.L.Link.held g.L.Link.faults in
    let same : c.push.new.self ≡ c.loop.lines = search rules in
    reads_no_memory (told c.args.link.now) (told c.loop.link) (told c.pull_line.new.link) c.args.kept.now c.loop.kept c.pull_line.new.kept c.loop.lines
    c.push.new.self (Ok c.in_ok-line.line) c.loop.counter c.loop.invariant.has c.in_ok-line.ensures same c.loop.invariant.count (omega (arith, c.loop-test.true))

pub loop-preserved : goal.loop-preserved
loop-preserved g c =
    let told = link_told g.L.Link.left g.L.Link.held g.L.Link.faults in
    let some : c.in_ok-line.line ≢ [] = search rules in
    let pushed : c.push.new.self ≡ c.loop.lines ++ c.in_ok-line.line ∷ [] = search rules in
    record {
      has =
          has_line (told c.args.link.now) (told c.loop.link) (told c.pull_line.new.link) c.args.kept.now c.loop.kept c.pull_line.new.kept c.loop.lines
          c.push.new.self c.in_ok-line.line c.loop.invariant.has c.in_ok-line.ensures some pushed;
      count = omega (arith, c.loop.invariant.count, ap length pushed, length-append c.loop.lines (c.in_ok-line.line ∷ []));
    }
