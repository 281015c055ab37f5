use Rattle.std.proofs.Common.{◌+◌, ◌-◌, ◌∙◌, ℕ, List, ap, arith, length, refl}
use Rattle.std.specs.Prelude.{slice_get}
use Rattle.match_index.specs.Found.{first_from, Found}
use Rattle.match_index.specs.Inner.{strides_under}
use Rattle.match_index.specs.Strides.{runs_behind}
use Rattle.match_index.proofs.MatchLemmas.{has-long, has-some}
use Rattle.match_index.proofs.StrideLemmas.{all-counted, first-by}
use Rattle.match_index.proofs.TreeLemmas.{span-small}
use Rattle.match_index.proofs.matches.Matches.first_from.Goals as goal

pub run_behind-requires-clause-long : goal.run_behind-requires-clause-long
run_behind-requires-clause-long c =
    let own : Found = record { text = c.self.inside.rope; chars = c.self.inside.chars; fold = c.self.inside.fold } in
    has-long own (strides_under c.self.inside.strides) c.char_count-len.result c.char_count-len.ensures c.self.invariant

pub returns : goal.returns
returns c =
    let own : Found = record { text = c.self.inside.rope; chars = c.self.inside.chars; fold = c.self.inside.fold } in
    let strides : List ℕ = strides_under c.self.inside.strides in
    let small = span-small (strides_under c.self.inside.strides) c.summary-all.ensures.fits in
    rw (← c.self.view_is)
    (c.run_behind.ensures ∙ ap (λ (n : ℕ). slice_get (runs_behind n 0 (strides_under c.self.inside.strides)) c.ending_by-index.result.0) c.char_count-len.ensures ∙
    first-by (length c.self.inside.chars) c.args.gap (strides_under c.self.inside.strides) c.ending_by-index.result.0 c.ending_by-index.result.1 c.saturating_add.result
    (has-long own (strides_under c.self.inside.strides) (length c.self.inside.chars) refl c.self.invariant) (has-some own (strides_under c.self.inside.strides) c.self.invariant) c.ending_by-index.ensures
    (all-counted (c.args.gap + (length c.self.inside.chars - 1)) (strides_under c.self.inside.strides) c.ending_by-index.result.0 c.ending_by-index.result.1 c.saturating_add.result
    c.ending_by-index.ensures small (omega (arith, c.saturating_add.ensures, c.saturating_sub.ensures, c.char_count-len.ensures)))
    (omega (arith, c.saturating_add.ensures, c.saturating_sub.ensures, c.char_count-len.ensures)) ∙
    ap (first_from c.args.gap) c.self.invariant.are)
