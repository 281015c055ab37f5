use Rattle.std.proofs.Common.{ap, sym, ◌∙◌, arith}
use Rattle.plain_text.specs.Numbers.{with_number}
use Rattle.edit_groups.proofs.ForgetLemmas.{all-taken-by, few-retired, next-taken}
use Rattle.edit_groups.proofs.retired.retired_groups.Goals as goal

pub overflow_add-index : goal.overflow_add-index
overflow_add-index c =
    omega (arith, c.loop-group.invariant.within, few-retired c.args.stack.now c.given-given.ensures.sound, c.given-given.ensures.sound.small)

pub loop-group-smaller : goal.loop-group-smaller
loop-group-smaller c =
    let next = next-taken c.args.stack.now.retired c.loop-group.index c.in-Some.group c.in-Some.ensures.rising (sym c.in-Some.ensures.group) in
    omega (arith, next.inside)

pub loop-group-preserved : goal.loop-group-preserved
loop-group-preserved c =
    let next = next-taken c.args.stack.now.retired c.loop-group.index c.in-Some.group c.in-Some.ensures.rising (sym c.in-Some.ensures.group) in
    record {
      so_far =
          c.in_ok-insert.ensures.keys ∙ ap (λ keys. with_number keys c.in-Some.group) c.loop-group.invariant.so_far ∙ next.longer;
      within = omega (arith, next.inside);
    }

pub returns : goal.returns
returns c =
    c.loop-group.invariant.so_far ∙
    all-taken-by c.args.stack.now.retired c.loop-group.index c.retired.result c.retired.ensures.group c.in_default.not-Some
