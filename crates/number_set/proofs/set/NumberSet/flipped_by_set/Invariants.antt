use Rattle.std.proofs.Common.{◌≡◌}
use Rattle.plain_text.specs.Numbers.{flipped}
use Rattle.number_set.proofs.set.NumberSet.flipped_by_set.Given as goal

abbrev pub invariant-loop-number : goal.invariant-loop-number
invariant-loop-number l = record {
  can_next : (goal.iterator-loop-number).can_next l.number-iterator;
  is_finite : (goal.iterator-loop-number).is_finite l.number-iterator;
  so_far : flipped l.made l.number-iterator ≡ flipped l.self l.others.keys;
}
