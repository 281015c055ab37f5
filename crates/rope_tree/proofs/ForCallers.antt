-- What other crates may cite of the proofs of `rope_tree`.
pub use Rattle.rope_tree.proofs.RopeLemmas.{replaced_bytes}
