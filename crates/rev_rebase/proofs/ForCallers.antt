-- What other crates may cite of the proofs of `rev_rebase`.
pub use Rattle.rev_rebase.proofs.FlagLemmas.{insertion_flags-textless, deletion_flags-textless}
pub use Rattle.rev_rebase.proofs.PlacesLemmas.{count-insertion_flags, step-text}
