use Rattle.std.proofs.Common.{◌∙◌, ap, length, sym}
use Rattle.match_index.specs.Inner.{strides_under}
use Rattle.match_index.proofs.StrideLemmas.{length-runs}
use Rattle.match_index.proofs.matches.Matches.len.Goals as goal

pub returns : goal.returns
returns c =
    rw (← c.self.view_is)
    (c.len.ensures ∙ sym (length-runs (length c.self.inside.chars) 0 (strides_under c.self.inside.strides)) ∙ ap length c.self.invariant.are)
