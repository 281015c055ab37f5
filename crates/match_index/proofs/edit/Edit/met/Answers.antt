use Rattle.std.proofs.Common.{◌+◌, ◌-◌, ◌≤◌, ℕ, ap, arith, length, subst, sym}
use Rattle.std.specs.List.{AllByRecursion}
use Rattle.match_index.specs.Found.{Found}
use Rattle.match_index.specs.Edited.{after_of}
use Rattle.match_index.specs.Inner.{strides_under}
use Rattle.match_index.proofs.EditedLemmas.{edit-long, gap-inside}
use Rattle.match_index.proofs.edit.Edit.met.Goals as goal

pub rest_from-rest-requires : goal.rest_from-rest-requires
rest_from-rest-requires c =
    let edit = c.args.self.now in
    subst (λ (n : ℕ). AllByRecursion (λ stride. n ≤ stride) (strides_under c.args.self.now.strides.now)) (sym c.char_count-len.ensures)
    (edit-long edit.before.now (strides_under edit.strides.now) (after_of c.args.self.now) edit.front edit.old edit.new c.requires.editing)

pub overflow_add-self : goal.overflow_add-self
overflow_add-self c =
    let edit = c.args.self.now in
    let inside : c.args.self.now.new + (c.rest_from-rest.result.gap - c.args.self.now.old) ≤ length c.args.self.now.after.now =
    gap-inside edit.before.now (strides_under edit.strides.now) (after_of c.args.self.now) edit.front edit.old edit.new c.requires.editing
    c.rest_from-rest.result.gap c.loop-search.walked.at c.rest_from-rest.ensures.to c.loop-search.invariant.past c.loop-search.invariant.walked.inside
    (omega (arith, c.rest_from-rest.ensures.from)) in
    omega (arith, inside, c.len-after.ensures.count, c.len-after.type_inv)

pub go_on-requires-in-loop-search-clause-inside : goal.go_on-requires-in-loop-search-clause-inside
go_on-requires-in-loop-search-clause-inside c =
    let edit = c.args.self.now in
    let inside : c.args.self.now.new + (c.rest_from-rest.result.gap - c.args.self.now.old) ≤ length c.args.self.now.after.now =
    gap-inside edit.before.now (strides_under edit.strides.now) (after_of c.args.self.now) edit.front edit.old edit.new c.requires.editing
    c.rest_from-rest.result.gap c.loop-search.walked.at c.rest_from-rest.ensures.to c.loop-search.invariant.past c.loop-search.invariant.walked.inside
    (omega (arith, c.rest_from-rest.ensures.from)) in
    omega (arith, inside, ap (λ (f : Found). length f.text) c.search-search.ensures)
