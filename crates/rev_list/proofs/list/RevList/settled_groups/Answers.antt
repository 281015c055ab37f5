use Rattle.std.proofs.Common.{◌≡◌, ap, ◌∙◌}
use Rattle.std.specs.Arc.{arc_value}
use Rattle.rev_list.specs.Settled.{Settled}
use Rattle.rev_list.proofs.RecordLemmas.{settled_are, settled_hides, settled_lengths}
use Rattle.rev_list.proofs.list.RevList.settled_groups.Goals as goal

pub returns-clause-groups : goal.returns-clause-groups
returns-clause-groups c =
    let s = c.self.inside in
    let was = c.self.invariant in
    let are : c.groups.result.now ≡ (arc_value s.settled).groups = c.groups.ensures ∙ ap (λ (x : Settled). x.groups) c.deref.ensures in
    rw (are, ← c.self.view_is) (settled_are (arc_value s.settled) s.records was.parts was.sound was.kept)

pub returns-clause-lengths : goal.returns-clause-lengths
returns-clause-lengths c =
    let s = c.self.inside in
    let was = c.self.invariant in
    let are : c.groups.result.now ≡ (arc_value s.settled).groups = c.groups.ensures ∙ ap (λ (x : Settled). x.groups) c.deref.ensures in
    rw (are, ← c.self.view_is) (settled_lengths (arc_value s.settled) s.records was.parts was.sound was.kept)

pub returns-clause-hides : goal.returns-clause-hides
returns-clause-hides c = λ set.
    let s = c.self.inside in
    let was = c.self.invariant in
    let are : c.groups.result.now ≡ (arc_value s.settled).groups = c.groups.ensures ∙ ap (λ (x : Settled). x.groups) c.deref.ensures in
    rw (are, ← c.self.view_is) (settled_hides (arc_value s.settled) s.records was.parts was.sound was.kept set)
