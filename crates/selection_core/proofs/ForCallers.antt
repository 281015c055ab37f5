-- What other crates may cite of the proofs of `selection_core`.
pub use Rattle.selection_core.proofs.ChangeLemmas.{new_gap-after_step}
