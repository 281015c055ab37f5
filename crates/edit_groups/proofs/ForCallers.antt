-- What other crates may cite of the proofs of `edit_groups`.
pub use Rattle.edit_groups.proofs.ForgetLemmas.{has-removed, same_order}
pub use Rattle.edit_groups.proofs.LeastLemmas.{least-within}
