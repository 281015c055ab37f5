-- What other crates may cite of the proofs of `stale_spans`: at a revision the layers of the head text follow by the style rule.
pub use Rattle.stale_spans.proofs.MovedLemmas.{mapped_layers-change}
