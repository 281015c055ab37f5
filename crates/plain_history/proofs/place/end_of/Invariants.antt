use Rattle.std.proofs.Common.{◌≡◌, ◌+◌, ◌≤◌, length, take, not}
use Rattle.std.specs.List.{suffix_len}
use Rattle.plain_edits.specs.Place.{is_by}
use Rattle.plain_history.proofs.place.end_of.Given as goal

abbrev pub invariant-loop-end : goal.invariant-loop-end
invariant-loop-end l = record {
  inside : l.end ≤ length l.run;
  counted : l.end + suffix_len (λ tagged. not (is_by l.rev tagged)) l.run ≡ length l.run + suffix_len (λ tagged. not (is_by l.rev tagged)) (take l.end l.run);
}

abbrev pub decreases-loop-end : goal.decreases-loop-end
decreases-loop-end l = l.end
