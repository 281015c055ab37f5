use Rattle.std.proofs.Common.{map, ap, sym, ◌∙◌, subst}
use Rattle.std.specs.List.{AllByRecursion}
use Rattle.rev_list.specs.Settled.{HasLengths}
use Rattle.rev_collect.proofs.JoinLemmas.{blank_lengths, groups-blank}
use Rattle.rev_collect.proofs.join.all_joined.Goals as goal

pub with_edits-requires-clause-numbers : goal.with_edits-requires-clause-numbers
with_edits-requires-clause-numbers c = ap (map (λ g. g.group)) c.in_ok-groups.ensures ∙ groups-blank c.args.len c.in_ok-numbers.numbers

pub with_edits-requires-clause-groups : goal.with_edits-requires-clause-groups
with_edits-requires-clause-groups c =
    subst (AllByRecursion (HasLengths c.args.len)) (sym c.in_ok-groups.ensures) (blank_lengths c.args.len c.in_ok-numbers.numbers)
