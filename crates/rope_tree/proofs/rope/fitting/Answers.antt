use Rattle.std.proofs.Common.{arith}
use Rattle.std.proofs.lemmas.Str.{IsUtf8-past_char}
use Rattle.rope_tree.proofs.RopeLemmas.{taken-all, taken-more}
use Rattle.rope_tree.proofs.rope.fitting.Goals as goal

pub overflow_add-gap : goal.overflow_add-gap
overflow_add-gap c = omega (arith, c.loop-c.invariant.taken.rises, c.loop-c.invariant.short)

pub loop-c-preserved : goal.loop-c-preserved
loop-c-preserved c = record {
  is_text = IsUtf8-past_char _ _ c.in-Some.c c.loop-c.invariant.is_text c.in-Some.ensures.steps.0;
  taken = rw c.len_utf8.ensures.value (taken-more _ _ _ _ _ c.in-Some.c c.loop-c.invariant.is_text c.in-Some.ensures.steps.0 c.loop-c.invariant.taken);
  short = omega arith;
}

pub returns-clause-some : goal.returns-clause-some
returns-clause-some c =
    let all = taken-all _ _ _ _ c.in-None.ensures.steps.0.0 c.loop-c.invariant.taken in
    λ some. omega (arith, all)
