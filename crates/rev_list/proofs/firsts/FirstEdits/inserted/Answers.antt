use Rattle.std.proofs.Common.{◌+◌, [], ◌∷◌, List, ℕ, length, ap, ap₂, sym, ◌∙◌, arith}
use Rattle.std.specs.List.{flat_map}
use Rattle.shared_tree.specs.Replaced.{replaced}
use Rattle.shared_tree.proofs.ForCallers.{few_fit}
use Rattle.number_set.proofs.ForCallers.{gap_inside, put}
use Rattle.rev_list.specs.Groups.{rev_of}
use Rattle.rev_list.proofs.FirstLemmas.{length_inserted, rev_of_put}
use Rattle.rev_list.proofs.firsts.FirstEdits.inserted.Goals as goal

pub edited-requires-clause-inside : goal.edited-requires-clause-inside
edited-requires-clause-inside c =
    let s = c.self.inside in
    let place = rw (← c.self.view_is) at c.requires in
    omega (arith, c.self.invariant, gap_inside s.groups c.in_ok-with.ensures.rising c.args.group c.args.at place)

pub edited-requires-clause-fits : goal.edited-requires-clause-fits
edited-requires-clause-fits c =
    let xs : List ℕ = flat_map (λ batch. batch) c.self.inside.revs.leaves in
    let one = ap (λ t. flat_map (λ batch. batch) t.leaves) c.in_ok-one.ensures ∙ ap (λ batch. flat_map (λ b. b) (batch ∷ [])) c.in_ok-of_one.ensures in
    rw one (few_fit (replaced xs c.args.at c.args.at (c.args.rev ∷ [])) (omega (arith, length_inserted xs c.args.at c.args.rev, c.len.ensures)))

pub invariant_of-result : goal.invariant_of-result
invariant_of-result c =
    let s = c.self.inside in
    let xs : List ℕ = flat_map (λ batch. batch) s.revs.leaves in
    let place = rw (← c.self.view_is) at c.requires in
    let one = ap (λ t. flat_map (λ batch. batch) t.leaves) c.in_ok-one.ensures ∙ ap (λ batch. flat_map (λ b. b) (batch ∷ [])) c.in_ok-of_one.ensures in
    let groups = c.in_ok-with.ensures.made ∙ sym (put s.groups c.in_ok-with.ensures.rising c.args.group c.args.at place) in
    ap length (c.in_ok-edited.ensures ∙ ap (replaced xs c.args.at c.args.at) one) ∙ length_inserted xs c.args.at c.args.rev ∙
    ap (λ n. n + 1) c.self.invariant ∙ sym (ap length groups ∙ length_inserted s.groups c.args.at c.args.group)

pub returns : goal.returns
returns c = λ other.
    let s = c.self.inside in
    let xs : List ℕ = flat_map (λ batch. batch) s.revs.leaves in
    let place = rw (← c.self.view_is) at c.requires in
    let one = ap (λ t. flat_map (λ batch. batch) t.leaves) c.in_ok-one.ensures ∙ ap (λ batch. flat_map (λ b. b) (batch ∷ [])) c.in_ok-of_one.ensures in
    let groups = c.in_ok-with.ensures.made ∙ sym (put s.groups c.in_ok-with.ensures.rising c.args.group c.args.at place) in
    rw (← c.self.view_is)
    (ap₂ (λ gs rs. rev_of gs rs other) groups (c.in_ok-edited.ensures ∙ ap (replaced xs c.args.at c.args.at) one) ∙
    rev_of_put s.groups xs c.args.group c.args.rev c.args.at other c.in_ok-with.ensures.rising c.self.invariant place)
