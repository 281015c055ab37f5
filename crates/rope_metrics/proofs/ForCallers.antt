-- What other crates may cite of the proofs of `rope_metrics`.
pub use Rattle.rope_metrics.proofs.OffsetLemmas.{long-append}
