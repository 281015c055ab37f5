use Rattle.std.proofs.Common.{◌≡◌, ◌++◌, length}
use Rattle.line_index.specs.Inner.{cuts_under}
use Rattle.line_index.specs.Sizes.{cuts_in}
use Rattle.line_index.proofs.tree.put_words.Given as goal

abbrev pub invariant-loop-rest : goal.invariant-loop-rest
invariant-loop-rest l = record {
  made : cuts_under l.tree ++ cuts_in l.rest ≡ cuts_under l.fn.tree ++ cuts_in l.words;
}

abbrev pub decreases-loop-rest : goal.decreases-loop-rest
decreases-loop-rest l = length l.rest
