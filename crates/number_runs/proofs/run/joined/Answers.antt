use Rattle.std.proofs.Common.{◌≡◌, ◌∷◌, drop, arith}
use Rattle.number_runs.proofs.JoinLemmas.{joined_none, joined_one, rising_of_sorted}
use Rattle.number_runs.proofs.run.joined.Goals as goal

pub loop-number-init : goal.loop-number-init
loop-number-init c =
    let gives : c.into_iter-number-iterator.result ≡ c.args.more.now.keys = c.into_iter-number-iterator.ensures.into_iter_gives.0 in
    record {
      can_next = tt;
      is_finite = tt;
      inside = omega arith;
      so_far = rw c.new-runs.ensures.items (rw gives (joined_none c.args.first.now c.args.more.now.keys c.requires (rising_of_sorted _ c.len-count.ensures.ordered)));
    }

pub loop-number-preserved : goal.loop-number-preserved
loop-number-preserved c =
    let first = c.args.first.now in
    let steps : c.loop-number.number-iterator ≡ c.in-Some.number.now ∷ c.next.new.self = c.in-Some.ensures.steps in
    record {
      can_next = tt;
      is_finite = tt;
      inside = c.in_ok-taken.ensures.inside;
      so_far = joined_one first _ _ _ (drop c.loop-number.taken first) (drop c.in_ok-taken.taken first) c.in-Some.number.now _ _ _ c.loop-number.invariant.so_far steps
          c.in_ok-taken.ensures.adds c.in_ok-add.ensures;
    }
