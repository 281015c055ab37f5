-- How long the sets of an edit are.
pub use Rattle.rev_list.proofs.ForCallers.{grown_flags, same_flags}
