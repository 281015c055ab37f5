use Rattle.std.proofs.Common.{◌≡◌, ◌++◌, true, drop, length}
use Rattle.std.specs.Prelude.{◌==◌}
use Rattle.line_index.specs.Cuts.{cuts_from}
use Rattle.line_index.specs.Inner.{RiseFrom}
use Rattle.line_index.specs.Sizes.{cuts_in}
use Rattle.line_index.proofs.tree.words_of.Given as goal

abbrev pub invariant-loop-end : goal.invariant-loop-end
invariant-loop-end l = record {
  made : cuts_in l.words.items ++ cuts_from (length l.words.items == 0) l.from (drop l.end-index l.ends) ≡ cuts_from true 0 l.ends;
  rise : RiseFrom l.from (drop l.end-index l.ends);
}
