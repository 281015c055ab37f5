use Rattle.std.proofs.Common.{◌≡◌, ◌+◌, ℕ, [], drop, length, ap, true, arith, sym, subst}
use Rattle.plain_text.specs.Text.{gap_of, is_place}
use Rattle.std.proofs.lemmas.List.{drop_all}
use Rattle.delta_core.proofs.UnitLemmas.{IsReading-start, IsUnitsOf-all, place_within, is_place-end, gap_of-le}
use Rattle.delta_core.proofs.unit_form.to_units.Goals as goal

pub loop-el-init : goal.loop-el-init
loop-el-init c =
    IsReading-start c.args.text.now c.args.delta.now c.new-units.result c.requires c.new-units.ensures.base c.new-units.ensures.kept c.new-units.ensures.added

pub gaps_between-requires-clause-ordered : goal.gaps_between-requires-clause-ordered
gaps_between-requires-clause-ordered c = omega (arith, c.byte_len.ensures, place_within c.args.text.now c.loop-el.at c.loop-el.invariant.place)

pub gaps_between-requires-clause-end : goal.gaps_between-requires-clause-end
gaps_between-requires-clause-end c = subst (λ (k : ℕ). is_place c.args.text.now k ≡ true) (sym c.byte_len.ensures) (is_place-end c.args.text.now)

pub pass-requires : goal.pass-requires
pass-requires c =
    let text = c.args.text.now in
    let at_end = subst (λ (k : ℕ). is_place text k ≡ true) (sym c.byte_len.ensures) (is_place-end text) in
    omega (arith, gap_of-le text c.byte_len.result at_end, c.gaps_between.ensures, c.loop-el.invariant.base)

pub returns : goal.returns
returns c =
    let text = c.args.text.now in
    let delta = c.args.delta.now in
    let done : drop c.loop-el.el-index delta.els ≡ [] =
    drop_all c.loop-el.el-index delta.els (omega (arith, c.loop-el-test.false, ap length c.as_slice-el-items.ensures)) in
    IsUnitsOf-all text delta c.loop-el.units c.pass.new.self c.in_ok-into_units.field-0 c.loop-el.at c.gaps_between.result _ c.loop-el.invariant done
    (subst (λ (k : ℕ). gap_of text c.loop-el.at + c.gaps_between.result ≡ gap_of text k) c.byte_len.ensures c.gaps_between.ensures) c.in_ok-pass.ensures.base
    c.in_ok-pass.ensures.kept c.in_ok-pass.ensures.added c.in_ok-into_units.ensures.canonical c.in_ok-into_units.ensures.base c.in_ok-into_units.ensures.kept
    c.in_ok-into_units.ensures.added
