use Rattle.std.proofs.Common.{◌≡◌, ◌<◌, true, false, None, Some, length, sym, ap, ◌∙◌, arith}
use Rattle.std.proofs.lemmas.Grind.{common_steps}
use Rattle.std.proofs.lemmas.Bool.Decides.{nat_tests}
use Rattle.case_lines.specs.Lines.{content_of}
use Rattle.case_scripts.specs.Inner.{said_view}
use Rattle.case_scripts.specs.Said.{said_of}
use Rattle.case_scripts.proofs.CutLemmas.{is_cut}
use Rattle.case_scripts.proofs.ScriptLemmas.{cut_length, line_refused, line_taken, line_unsaid, reads-bad, reads-line}
use Rattle.case_scripts.proofs.script.read_script.Goals as goal

pub loop-rest-preserved : goal.loop-rest-preserved
loop-rest-preserved c =
    let rest = c.loop-rest.rest.now in
    let line = c.first_line.result.0.now in
    let later = c.first_line.result.1.now in
    let cut = is_cut rest line later c.first_line.ensures.line c.first_line.ensures.rest in
    let some : 0 < length rest = grind (arith, common_steps, nat_tests) in
    let means : said_of (content_of line) ≡ Some (said_view c.in-Some.said) =
    ap said_of (sym c.content_of.ensures) ∙ sym c.in-Some.ensures.said in
    let does : c.in-Ok-true.field-0 ≡ true = grind (arith, common_steps) in
    let takes = line_taken c.loop-rest.script c.take.new.self line (said_view c.in-Some.said) c.in-Ok-true.field-0 means does c.in-Ok-true.ensures in
    record {
      reads = reads-line c.args.text.now c.loop-rest.script c.take.new.self c.loop-rest.number rest line later c.loop-rest.invariant.reads some cut takes;
      count = omega (arith, c.loop-rest.invariant.count, cut_length rest line later some cut);
    }

pub returns-in_default-clause-refused : goal.returns-in_default-clause-refused
returns-in_default-clause-refused c = λ room.
    let rest = c.loop-rest.rest.now in
    let line = c.first_line.result.0.now in
    let later = c.first_line.result.1.now in
    let cut = is_cut rest line later c.first_line.ensures.line c.first_line.ensures.rest in
    let some : 0 < length rest = grind (arith, common_steps, nat_tests) in
    let unsaid : said_of (content_of line) ≡ None = ap said_of (sym c.content_of.ensures) ∙ sym c.in_default.ensures.said in
    reads-bad c.args.text.now c.loop-rest.script c.loop-rest.number rest line later c.loop-rest.invariant.reads some cut
    (line_unsaid c.loop-rest.script line unsaid)

pub returns-in-Ok-false-clause-refused : goal.returns-in-Ok-false-clause-refused
returns-in-Ok-false-clause-refused c = λ room.
    let rest = c.loop-rest.rest.now in
    let line = c.first_line.result.0.now in
    let later = c.first_line.result.1.now in
    let cut = is_cut rest line later c.first_line.ensures.line c.first_line.ensures.rest in
    let some : 0 < length rest = grind (arith, common_steps, nat_tests) in
    let means : said_of (content_of line) ≡ Some (said_view c.in-Some.said) =
    ap said_of (sym c.content_of.ensures) ∙ sym c.in-Some.ensures.said in
    let does : c.in-Ok-false.field-0 ≡ false = grind (arith, common_steps) in
    reads-bad c.args.text.now c.loop-rest.script c.loop-rest.number rest line later c.loop-rest.invariant.reads some cut
    (line_refused c.loop-rest.script c.take.new.self line (said_view c.in-Some.said) c.in-Ok-false.field-0 means does c.in-Ok-false.ensures)
