use Rattle.std.proofs.Common.{◌≡◌, ◌+◌, ◌≤◌, length, take, nat_lt}
use Rattle.std.specs.List.{suffix_len}
use Rattle.plain_history.proofs.place.start_of_later.Given as goal

abbrev pub invariant-loop-start : goal.invariant-loop-start
invariant-loop-start l = record {
  inside : l.start ≤ length l.left;
  counted : l.start + suffix_len (λ tagged. nat_lt l.base tagged.inserted) l.left ≡ length l.left + suffix_len (λ tagged. nat_lt l.base tagged.inserted) (take l.start l.left);
}

abbrev pub decreases-loop-start : goal.decreases-loop-start
decreases-loop-start l = l.start
