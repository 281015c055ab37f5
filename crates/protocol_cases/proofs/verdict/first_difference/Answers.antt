use Rattle.std.proofs.Common.{◌≡◌, ◌+◌, ◌<◌, true, false, Some, length, sym, ap, ◌∙◌, arith}
use Rattle.std.proofs.lemmas.Grind.{common_steps}
use Rattle.std.proofs.lemmas.Bool.Decides.{nat_tests}
use Rattle.std.specs.Str.{bytes_eq}
use Rattle.case_scripts.proofs.ForCallers.{is_cut}
use Rattle.protocol_cases.proofs.VerdictLemmas.{first_difference-other, first_difference-same_line}
use Rattle.protocol_cases.proofs.verdict.first_difference.Goals as goal
use Rattle.protocol_cases.proofs.verdict.first_difference.Goals.{then-not-is_empty, else-not-is_empty+then-not-is_empty-2}

pub returns-then-ne : goal.returns-then-ne
returns-then-ne c =
    let a = c.loop-expected_rest.expected_rest.now in
    let b = c.loop-expected_rest.got_rest.now in
    let line = c.first_line.result.0.now in
    let rest = c.first_line.result.1.now in
    let other = c.first_line-in-loop-expected_rest.result.0.now in
    let later = c.first_line-in-loop-expected_rest.result.1.now in
    let cut = is_cut a line rest c.first_line.ensures.line c.first_line.ensures.rest in
    let cut_other = is_cut b other later c.first_line-in-loop-expected_rest.ensures.line c.first_line-in-loop-expected_rest.ensures.rest in
    let differ : bytes_eq line other ≡ false = grind (arith, common_steps) in
    ap Some c.in_ok-difference.ensures ∙
    sym (first_difference-other c.loop-expected_rest.number a line rest b other later cut cut_other differ) ∙
    c.loop-expected_rest.invariant.rest

pub loop-expected_rest-preserved : goal.loop-expected_rest-preserved
loop-expected_rest-preserved c =
    let a = c.loop-expected_rest.expected_rest.now in
    let b = c.loop-expected_rest.got_rest.now in
    let line = c.first_line.result.0.now in
    let rest = c.first_line.result.1.now in
    let other = c.first_line-in-loop-expected_rest.result.0.now in
    let later = c.first_line-in-loop-expected_rest.result.1.now in
    let cut = is_cut a line rest c.first_line.ensures.line c.first_line.ensures.rest in
    let cut_other = is_cut b other later c.first_line-in-loop-expected_rest.ensures.line c.first_line-in-loop-expected_rest.ensures.rest in
    let same : bytes_eq line other ≡ true = grind (arith, common_steps) in
    let some : 0 < length a + length b =
    elim c.if-not-is_empty.branch [
      | then-not-is_empty w ↦ grind (arith, common_steps, nat_tests)
      | else-not-is_empty+then-not-is_empty-2 w ↦ grind (arith, common_steps, nat_tests)
    ] in
    let goes = first_difference-same_line c.loop-expected_rest.number a line rest b other later cut cut_other same some in
    record {
      rest = sym goes.lines ∙ c.loop-expected_rest.invariant.rest;
      count = omega (arith, c.loop-expected_rest.invariant.count, goes.shorter);
    }
