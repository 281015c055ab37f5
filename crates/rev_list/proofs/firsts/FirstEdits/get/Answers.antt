use Rattle.std.proofs.Common.{ap, sym, ◌∙◌, arith}
use Rattle.std.specs.List.{flat_map}
use Rattle.std.specs.Prelude.{Some}
use Rattle.number_set.proofs.ForCallers.{place_inside}
use Rattle.rev_list.proofs.FirstLemmas.{rev_of_searched, rev_of_unsearched}
use Rattle.rev_list.proofs.firsts.FirstEdits.get.Goals as goal

pub rev_at-requires : goal.rev_at-requires
rev_at-requires c =
    let s = c.self.inside in
    let within = place_inside s.groups c.in-Ok.ensures.rising c.args.group _ c.in-Ok.ensures.place in
    rw (← c.self.view_is) (omega (arith, c.self.invariant, within))

pub returns-in-Ok : goal.returns-in-Ok
returns-in-Ok c =
    let s = c.self.inside in
    let read = rw (← c.self.view_is) at c.rev_at.ensures in
    rw (← c.self.view_is)
    (ap Some read ∙
    sym (rev_of_searched s.groups (flat_map (λ batch. batch) s.revs.leaves) c.args.group _ c.rev_at.result c.in-Ok.ensures.rising c.self.invariant c.in-Ok.ensures.place))

pub returns-in-Err : goal.returns-in-Err
returns-in-Err c =
    let s = c.self.inside in
    rw (← c.self.view_is)
    (sym (rev_of_unsearched s.groups (flat_map (λ batch. batch) s.revs.leaves) c.args.group _ c.in-Err.ensures.rising c.in-Err.ensures.place))
