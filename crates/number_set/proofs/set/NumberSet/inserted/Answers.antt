use Rattle.std.proofs.Common.{◌≡◌, [], ◌∷◌, List, ℕ, ap, ◌∙◌}
use Rattle.std.specs.List.{flat_map}
use Rattle.plain_text.specs.Numbers.{with_number}
use Rattle.plain_text.proofs.callers.NumberLemmas.{IsRising-with}
use Rattle.shared_tree.specs.Replaced.{replaced}
use Rattle.number_set.proofs.SearchLemmas.{gap_inside, put}
use Rattle.number_set.proofs.set.NumberSet.inserted.Goals as goal

pub edited-requires-clause-inside : goal.edited-requires-clause-inside
edited-requires-clause-inside c =
    let place = rw (← c.self.view_is) at c.requires.place in
    gap_inside _ c.self.invariant c.args.number c.args.at place

pub invariant_of-result : goal.invariant_of-result
invariant_of-result c =
    let xs : List ℕ = flat_map (λ batch. batch) c.self.inside.tree.leaves in
    let place = rw (← c.self.view_is) at c.requires.place in
    let one = ap (λ t. flat_map (λ batch. batch) t.leaves) c.in_ok-one.ensures in
    let made : flat_map (λ batch. batch) c.in_ok-edited.field-0.leaves ≡ with_number xs c.args.number =
    c.in_ok-edited.ensures ∙ ap (replaced xs c.args.at c.args.at) (one ∙ ap (λ batch. flat_map (λ b. b) (batch ∷ [])) c.in_ok-of_one.ensures) ∙ put xs c.self.invariant c.args.number c.args.at place in
    rw made (IsRising-with xs c.args.number c.self.invariant)

pub returns-clause-made : goal.returns-clause-made
returns-clause-made c =
    let xs : List ℕ = flat_map (λ batch. batch) c.self.inside.tree.leaves in
    let place = rw (← c.self.view_is) at c.requires.place in
    let one = ap (λ t. flat_map (λ batch. batch) t.leaves) c.in_ok-one.ensures in
    let made : flat_map (λ batch. batch) c.in_ok-edited.field-0.leaves ≡ with_number xs c.args.number =
    c.in_ok-edited.ensures ∙ ap (replaced xs c.args.at c.args.at) (one ∙ ap (λ batch. flat_map (λ b. b) (batch ∷ [])) c.in_ok-of_one.ensures) ∙ put xs c.self.invariant c.args.number c.args.at place in
    rw (← c.self.view_is) made
