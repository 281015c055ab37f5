use Rattle.std.proofs.Common.{◌≡◌, ◌-◌, arith, length, subst, sym}
use Rattle.std.specs.Prelude.{max}
use Rattle.match_index.specs.declared.search.Walked.{Walked}
use Rattle.match_index.specs.Edited.{after_of, HasBegun}
use Rattle.match_index.specs.Inner.{strides_under}
use Rattle.match_index.proofs.EditedLemmas.{begun-stays}
use Rattle.match_index.proofs.edit.Edit.begun.Goals as goal

pub returns-clause-begun : goal.returns-clause-begun
returns-clause-begun c =
    let edit = c.args.self.now in
    let start : c.max-start.result ≡ max c.ending_by-index.result.1 (c.args.self.now.front - (length c.args.self.now.chars.now - 1)) =
    omega (arith, c.max-start.ensures, c.saturating_sub.ensures, c.char_count-len.ensures) in
    subst (λ (w : Walked). HasBegun (strides_under c.args.self.now.strides.now) (after_of c.args.self.now) c.args.self.now.front c.ending_by-index.result.0 w.from w.start)
    (sym c.new.ensures)
    (begun-stays edit.before.now (strides_under edit.strides.now) (after_of c.args.self.now) edit.front edit.old edit.new c.requires c.ending_by-index.result.0
    c.ending_by-index.result.1 c.max-start.result c.ending_by-index.ensures start)
