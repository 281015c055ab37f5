use Rattle.std.proofs.Common.{arith, sym, ◌∙◌}
use Rattle.delta_core.proofs.CarryLemmas.{IsNext-own, IsNext-other, IsNext-base, here_le_length, some_left}
use Rattle.delta_core.proofs.carry.next_carried.Goals as goal

pub skip-requires : goal.skip-requires
skip-requires c = omega (arith, c.inserted_len-ins.ensures, here_le_length c.args.own.now)

pub skip-requires-in-Other : goal.skip-requires-in-Other
skip-requires-in-Other c = omega (arith, c.inserted_len-later.ensures, here_le_length c.args.other.now)

pub front-requires : goal.front-requires
front-requires c =
    let turn = c.in-Base.ensures in
    (some_left _ _ c.requires.base (sym c.inserted_len-ins.ensures ∙ turn.0) (sym c.inserted_len-later.ensures ∙ turn.1) c.requires.more).0

pub front-requires-in-Base : goal.front-requires-in-Base
front-requires-in-Base c =
    let turn = c.in-Base.ensures in
    (some_left _ _ c.requires.base (sym c.inserted_len-ins.ensures ∙ turn.0) (sym c.inserted_len-later.ensures ∙ turn.1) c.requires.more).1

pub returns-in-Own : goal.returns-in-Own
returns-in-Own c =
    let turn = rw (c.inserted_len-ins.ensures, c.inserted_len-later.ensures) at c.in-Own.ensures in
    rw (c.skip.ensures, c.inserted_len-ins.ensures) (IsNext-own _ _ _ c.requires.base turn.0 turn.1)

pub returns-in-Other : goal.returns-in-Other
returns-in-Other c =
    let turn = rw (c.inserted_len-ins.ensures, c.inserted_len-later.ensures) at c.in-Other.ensures in
    rw (c.skip-in-Other.ensures, c.inserted_len-later.ensures) (IsNext-other _ _ _ c.requires.base turn.0 turn.1)

pub returns-in-Base : goal.returns-in-Base
returns-in-Base c =
    let turn = c.in-Base.ensures in
    rw (c.skip-in-Base.ensures, c.skip-in-Base-2.ensures)
    (IsNext-base _ _ _ c.front.result c.front-in-Base.result c.min-len.result c.requires.base (sym c.inserted_len-ins.ensures ∙ turn.0)
    (sym c.inserted_len-later.ensures ∙ turn.1) c.front.ensures c.front-in-Base.ensures (omega (arith, c.min-len.ensures)) (omega (arith, c.min-len.ensures))
    (omega (arith, c.min-len.ensures, c.front.ensures.some, c.front-in-Base.ensures.some)))
