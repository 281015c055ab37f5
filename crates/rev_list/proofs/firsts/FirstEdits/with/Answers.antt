use Rattle.std.proofs.Common.{◌≡◌, ℕ, ap, ◌∙◌}
use Rattle.std.specs.List.{flat_map}
use Rattle.std.proofs.lemmas.Result.{IfOk-weaker}
use Rattle.rev_list.specs.Groups.{Firsts, rev_of, first_after}
use Rattle.rev_list.proofs.FirstLemmas.{first_after_same}
use Rattle.rev_list.proofs.firsts.FirstEdits.with.Goals as goal

-- a group that is there keeps its first edit
pub returns-in-Ok : goal.returns-in-Ok
returns-in-Ok c =
    let s = c.self.inside in
    let was : Firsts = record { groups = s.groups; revs = flat_map (λ batch. batch) s.revs.leaves } in
    let same : (other : ℕ) → rev_of was.groups was.revs other ≡ first_after (rev_of was.groups was.revs other) c.args.group c.args.rev other =
    first_after_same was.groups was.revs c.args.group c.args.rev _ c.in-Ok.ensures.rising c.self.invariant c.in-Ok.ensures.place in
    rw (← c.self.view_is)
    (IfOk-weaker c.copy.result (λ made. made ≡ was)
    (λ made. (other : ℕ) → rev_of made.groups made.revs other ≡ first_after (rev_of was.groups was.revs other) c.args.group c.args.rev other)
    (λ made is other. ap (λ made. rev_of made.groups made.revs other) is ∙ same other) (rw (← c.self.view_is) at c.copy.ensures))

pub inserted-requires : goal.inserted-requires
inserted-requires c = rw (← c.self.view_is) c.in-Err.ensures.place
