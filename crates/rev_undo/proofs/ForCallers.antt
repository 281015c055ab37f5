-- What other crates may cite of the proofs of `rev_undo`.
pub use Rattle.rev_undo.proofs.AllowedLemmas.{of_all, of_one}
pub use Rattle.rev_undo.proofs.StartLemmas.{rising_after}
