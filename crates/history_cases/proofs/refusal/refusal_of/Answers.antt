use Rattle.std.proofs.Common.{ℕ, ◌≤◌, slice_index_or}
use Rattle.rev_undo.proofs.ForCallers.{of_one}
use Rattle.rev_engine.specs.Asked.{DiffersAt}
use Rattle.history_cases.proofs.refusal.refusal_of.Goals as goal

pub returns-then-none_before : goal.returns-then-none_before
returns-then-none_before c =
    let plain = c.args.plain.now in
    let groups = c.args.groups.now in
    let group = slice_index_or c.collected-group-items.result.now c.loop-group.group-index 0 in (
      c.all_known.ensures.0 c.if-not-all_known.false,
      record {
        differs = c.differs.ensures.0 c.if-differs.true;
        least = λ other differs.
            of_one (λ (n : ℕ). DiffersAt plain groups n → group ≤ n) plain.collected other (c.none_before.ensures c.if-none_before.true) differs.0 differs;
      },
    )
