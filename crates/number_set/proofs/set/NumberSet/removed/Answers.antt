use Rattle.std.proofs.Common.{◌≡◌, ◌+◌, [], List, ℕ, ap, ◌∙◌, arith}
use Rattle.std.specs.List.{flat_map}
use Rattle.plain_text.specs.Numbers.{without_number}
use Rattle.plain_text.proofs.callers.NumberLemmas.{IsRising-without}
use Rattle.shared_tree.specs.Replaced.{replaced}
use Rattle.shared_tree.proofs.ForCallers.{few_fit}
use Rattle.number_set.proofs.SearchLemmas.{place_inside, one_less, taken}
use Rattle.number_set.proofs.set.NumberSet.removed.Goals as goal

pub overflow_add-at : goal.overflow_add-at
overflow_add-at c =
    let place = rw (← c.self.view_is) at c.requires.place in
    let few = rw (← c.self.view_is) at c.requires.few in
    omega (arith, few, place_inside _ c.self.invariant c.args.number c.args.at place)

pub edited-requires-clause-inside : goal.edited-requires-clause-inside
edited-requires-clause-inside c =
    let place = rw (← c.self.view_is) at c.requires.place in
    omega (arith, place_inside _ c.self.invariant c.args.number c.args.at place)

pub edited-requires-clause-fits : goal.edited-requires-clause-fits
edited-requires-clause-fits c =
    let xs : List ℕ = flat_map (λ batch. batch) c.self.inside.tree.leaves in
    let few = rw (← c.self.view_is) at c.requires.few in
    rw (ap (λ t. flat_map (λ batch. batch) t.leaves) c.new.ensures) (few_fit (replaced xs c.args.at (c.args.at + 1) []) (omega (arith, few, one_less xs c.args.at)))

pub invariant_of-result : goal.invariant_of-result
invariant_of-result c =
    let xs : List ℕ = flat_map (λ batch. batch) c.self.inside.tree.leaves in
    let place = rw (← c.self.view_is) at c.requires.place in
    let made : flat_map (λ batch. batch) c.in_ok-edited.field-0.leaves ≡ without_number xs c.args.number =
    c.in_ok-edited.ensures ∙ ap (λ t. replaced xs c.args.at (c.args.at + 1) (flat_map (λ batch. batch) t.leaves)) c.new.ensures ∙ taken xs c.self.invariant c.args.number c.args.at place in
    rw made (IsRising-without xs c.args.number c.self.invariant)

pub returns : goal.returns
returns c =
    let xs : List ℕ = flat_map (λ batch. batch) c.self.inside.tree.leaves in
    let place = rw (← c.self.view_is) at c.requires.place in
    let made : flat_map (λ batch. batch) c.in_ok-edited.field-0.leaves ≡ without_number xs c.args.number =
    c.in_ok-edited.ensures ∙ ap (λ t. replaced xs c.args.at (c.args.at + 1) (flat_map (λ batch. batch) t.leaves)) c.new.ensures ∙ taken xs c.self.invariant c.args.number c.args.at place in
    rw (← c.self.view_is) made
