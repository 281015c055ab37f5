-- What other crates may cite of the proofs of `rope_node`.
pub use Rattle.rope_node.proofs.TextLemmas.{length-short, text_fits}
