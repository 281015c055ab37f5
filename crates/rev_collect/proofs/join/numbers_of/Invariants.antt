use Rattle.std.proofs.Common.{◌≡◌, drop}
use Rattle.std.specs.List.{fold}
use Rattle.plain_text.specs.Numbers.{with_number}
use Rattle.rev_collect.specs.Joined.{numbers_of}
use Rattle.rev_collect.proofs.join.numbers_of.Given as goal

abbrev pub invariant-loop-edit : goal.invariant-loop-edit
invariant-loop-edit l = fold (λ numbers e. with_number numbers e.group) l.numbers (drop l.edit-index l.edits) ≡ numbers_of l.edits
