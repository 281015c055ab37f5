-- What other crates may cite of the proofs of `span_runs`.
pub use Rattle.span_runs.proofs.GapLemmas.{RiseUpTo-lower}
