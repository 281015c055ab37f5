use Rattle.std.proofs.Common.{◌≡◌, ◌-◌, ap, arith, length}
use Rattle.delta_core.specs.Units.{text_after}
use Rattle.match_index.specs.Found.{Found}
use Rattle.match_index.specs.Inner.{strides_under}
use Rattle.match_index.proofs.ChangedLemmas.{none-sought}
use Rattle.match_index.proofs.KeptLemmas.{kept-edit, kept-short, kept-short_after}
use Rattle.match_index.proofs.MatchLemmas.{not-empty}
use Rattle.match_index.proofs.matches.Matches.strides_after.Goals as goal

pub overflow_sub-edit : goal.overflow_sub-edit
overflow_sub-edit c =
    let base : c.args.units.now.base ≡ length c.self.inside.rope = rw (← c.self.view_is) at c.requires.base in
    omega (
      arith,
      c.len.ensures.count,
      kept-short c.args.units.now c.self.inside.rope c.kept_ends-front.result.0 c.kept_ends-front.result.1 base c.kept_ends-front.ensures,
    )

pub overflow_sub-edit-2 : goal.overflow_sub-edit-2
overflow_sub-edit-2 c =
    let base : c.args.units.now.base ≡ length c.self.inside.rope = rw (← c.self.view_is) at c.requires.base in
    let after : c.args.rope.now ≡ text_after c.args.units.now c.self.inside.rope = rw (← c.self.view_is) at c.requires.after in
    omega (
      arith,
      c.len-2.ensures.count,
      ap length after,
      kept-short_after c.args.units.now c.self.inside.rope c.kept_ends-front.result.0 c.kept_ends-front.result.1 base c.kept_ends-front.ensures,
    )

pub found_after-requires : goal.found_after-requires
found_after-requires c =
    let base : c.args.units.now.base ≡ length c.self.inside.rope = rw (← c.self.view_is) at c.requires.base in
    let after : c.args.rope.now ≡ text_after c.args.units.now c.self.inside.rope = rw (← c.self.view_is) at c.requires.after in
    let found : Found = record { text = c.args.rope.now; chars = c.self.inside.chars; fold = c.self.inside.fold } in
    kept-edit c.self.inside.rope (strides_under c.self.inside.strides) found c.args.units.now c.kept_ends-front.result.0 c.kept_ends-front.result.1
    (c.len.result - c.kept_ends-front.result.1) (c.len-2.result - c.kept_ends-front.result.1) base c.kept_ends-front.ensures after
    (ap (λ n. n - c.kept_ends-front.result.1) c.len.ensures.count) (ap (λ n. n - c.kept_ends-front.result.1) c.len-2.ensures.count) c.self.invariant
    (not-empty c.self.inside.chars c.is_empty.result c.is_empty.ensures.1 c.if-is_empty.false)

pub returns-then-is_empty-clause-changed : goal.returns-then-is_empty-clause-changed
returns-then-is_empty-clause-changed c =
    rw (← c.self.view_is)
    (none-sought c.args.units.now (record { text = c.self.inside.rope; chars = c.self.inside.chars; fold = c.self.inside.fold }) c.args.rope.now
    (c.is_empty.ensures.0 c.if-is_empty.true))
