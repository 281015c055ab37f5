use Rattle.std.proofs.Common.{◌≡◌, ◌-◌, ◌≤◌, ◌++◌, ◌∙◌, length, drop, ap, arith}
use Rattle.std.specs.Str.{chars}
use Rattle.rope_tree.proofs.RopeLemmas.{part-more}
use Rattle.rope_tree.proofs.rope.between.Goals as goal

pub loop-chunk-preserved : goal.loop-chunk-preserved
loop-chunk-preserved c =
    let before = c.loop-chunk.invariant in
    let own = c.in-Some.chunk.now in
    let start = c.in-Some.start in
    let cut = rw before.same at c.in-Some.ensures.given in
    let shown : chars c.cut.result.1.now ≡ drop start own = c.cut.ensures.back in
    let pushed : c.push_str-in-Some.new.self ≡ c.loop-chunk.text ++ drop start own = c.in_ok-push_str-2.ensures.pushed ∙ ap (λ xs. c.loop-chunk.text ++ xs) shown in
    let counted : c.len.result ≡ length own = c.len.ensures in
    let few : length own - start ≤ c.loop-chunk.left = omega (arith, c.if-left-count.false) in
    record {
      same = c.in-Some.ensures.same ∙ before.same;
      made = rw (pushed, counted) (part-more c.loop-chunk.text own _ _ _ c.loop-chunk.left start cut few before.made);
    }
