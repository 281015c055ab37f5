use Rattle.std.proofs.Common.{◌<◌, ◌-◌, ◌∙◌, ℕ, Option, Some, ap, arith, length, sym, refl}
use Rattle.plain_text.specs.declared.run.Run.{Run}
use Rattle.match_index.specs.Found.{last_to, Found}
use Rattle.match_index.specs.Inner.{strides_under}
use Rattle.match_index.proofs.MatchLemmas.{has-long}
use Rattle.match_index.proofs.StrideLemmas.{end-long, last-by, last-none}
use Rattle.match_index.proofs.matches.Matches.last_to.Goals as goal

pub returns-then-index-eq0 : goal.returns-then-index-eq0
returns-then-index-eq0 c =
    rw (← c.self.view_is)
    (sym (last-none (length c.self.inside.chars) c.args.gap (strides_under c.self.inside.strides) c.ending_by-index.result.0 c.ending_by-index.result.1
    c.ending_by-index.ensures c.if-index-eq0.true) ∙ ap (last_to c.args.gap) c.self.invariant.are)

pub overflow_sub-result : goal.overflow_sub-result
overflow_sub-result c =
    let own : Found = record { text = c.self.inside.rope; chars = c.self.inside.chars; fold = c.self.inside.fold } in
    let long = has-long own (strides_under c.self.inside.strides) (length c.self.inside.chars) refl c.self.invariant in
    let some : 0 < c.ending_by-index.result.0 = omega (arith, c.if-index-eq0.false) in
    omega (
      arith,
      c.char_count.ensures,
      c.ending_by-index.ensures.ends,
      end-long (length c.self.inside.chars) (strides_under c.self.inside.strides) c.ending_by-index.result.0 long some c.ending_by-index.ensures.inside,
    )

pub returns : goal.returns
returns c =
    let end : ℕ = c.ending_by-index.result.1 in
    let some : 0 < c.ending_by-index.result.0 = omega (arith, c.if-index-eq0.false) in
    rw (← c.self.view_is)
    (ap (λ (n : ℕ). (let one : Option Run = Some (record { start = c.ending_by-index.result.1 - n; end = c.ending_by-index.result.1 }) in one)) c.char_count.ensures ∙
    sym (last-by (length c.self.inside.chars) c.args.gap (strides_under c.self.inside.strides) c.ending_by-index.result.0 c.ending_by-index.result.1
    c.ending_by-index.ensures some) ∙ ap (last_to c.args.gap) c.self.invariant.are)
