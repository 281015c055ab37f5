use Rattle.std.proofs.Common.{◌≡◌, ◌<◌, sym, ◌∙◌, arith, rules}
use Rattle.std.specs.Ordering.{nat_cmp}
use Rattle.std.specs.Cmp.Lexicographic.{slice_cmp}
use Rattle.std.specs.declared.cmp.Ordering.TheVariants.{Less}
use Rattle.std.proofs.lemmas.Bool.Decides.{nat_tests}
use Rattle.case_table.proofs.Reading.{IsRead-step, IsRead-missing, IsRead-falls, IsRead-left, IsRead-over, IsTable-over}
use Rattle.case_table.proofs.Laws.{names_of-count, names_of-rising, text_of_names-names_of}
use Rattle.case_table.proofs.Search.{not_below, then_below}
use Rattle.case_table.proofs.cases.Cases.new.Goals as goal
use Rattle.case_table.proofs.cases.Cases.new.Goals.{else-row-gt0-via-then-row-gt0+else-le, else-row-gt0-via-else-row-gt0}

pub returns-in_default-clause-bad : goal.returns-in_default-clause-bad
returns-in_default-clause-bad g c =
    IsRead-missing g.row.N c.args.text.now _ _ c.loop-row.places c.loop-row.row c.loop-row.invariant.2 (omega arith) c.in_default.ensures.last

pub returns-then-le-clause-bad : goal.returns-then-le-clause-bad
returns-then-le-clause-bad g c =
    let falls = not_below c.in-Some.name.now c.loop-row.before.now (sym c.le.ensures ∙ c.if-le.true) in
    IsRead-falls g.row.N c.args.text.now _ _ c.in-Some.name.now c.in-Some.after.now c.loop-row.places c.loop-row.row c.loop-row.invariant.2 (omega arith) c.in-Some.ensures.first (omega arith) falls

pub loop-row-preserved : goal.loop-row-preserved
loop-row-preserved g c =
    let above : 0 < c.loop-row.row → slice_cmp nat_cmp c.loop-row.before.now c.in-Some.name.now ≡ Less = λ later.
    elim c.else-row-gt0.branch [
      | else-row-gt0-via-then-row-gt0+else-le w ↦ then_below c.in-Some.name.now c.loop-row.before.now (sym w.le.ensures ∙ w.if-le.false)
      | else-row-gt0-via-else-row-gt0 w ↦ absurd (omega arith)
    ] in (
      search rules,
      search rules,
      rw c.set.ensures.set (IsRead-step g.row.N c.args.text.now c.loop-row.rest.now _ c.in-Some.name.now c.in-Some.after.now c.loop-row.places c.loop-row.row c.loop-row.invariant.2 (omega arith) c.in-Some.ensures.first c.in-Some.ensures.whole c.loop-row.invariant.0 above),
    )

pub invariant_of-result : goal.invariant_of-result
invariant_of-result g c =
    IsTable-over g.row.N c.args.text.now _ _ c.loop-row.places c.loop-row.row c.loop-row.invariant.2 (omega arith) (grind (arith, nat_tests))

pub returns-then-is_empty-clause-ok : goal.returns-then-is_empty-clause-ok
returns-then-is_empty-clause-ok g c =
    IsRead-over g.row.N c.args.text.now _ _ c.loop-row.places c.loop-row.row c.loop-row.invariant.2 (omega arith) (grind (arith, nat_tests))

pub returns-then-is_empty-clause-text : goal.returns-then-is_empty-clause-text
returns-then-is_empty-clause-text g c = sym (text_of_names-names_of g.row.N c.args.text.now (returns-then-is_empty-clause-ok g c))

pub returns-then-is_empty-clause-count : goal.returns-then-is_empty-clause-count
returns-then-is_empty-clause-count g c = names_of-count g.row.N c.args.text.now (returns-then-is_empty-clause-ok g c)

pub returns-then-is_empty-clause-rising : goal.returns-then-is_empty-clause-rising
returns-then-is_empty-clause-rising g c = names_of-rising g.row.N c.args.text.now (returns-then-is_empty-clause-ok g c)

pub returns-else-is_empty-clause-bad : goal.returns-else-is_empty-clause-bad
returns-else-is_empty-clause-bad g c =
    IsRead-left g.row.N c.args.text.now _ _ c.loop-row.places c.loop-row.row c.loop-row.invariant.2 (omega arith) (grind (arith, nat_tests))
