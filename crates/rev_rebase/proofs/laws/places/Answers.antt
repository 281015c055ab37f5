use Rattle.rev_rebase.proofs.TextLemmas.{edited-put_in}
use Rattle.rev_rebase.proofs.FlagLemmas.{insertion_flags-textless, deletion_flags-textless}
use Rattle.rev_rebase.proofs.laws.places.Goals as goal

pub returns : goal.returns
returns c = record {
  insertions = insertion_flags-textless;
  deletions = deletion_flags-textless;
  step = edited-put_in;
}
