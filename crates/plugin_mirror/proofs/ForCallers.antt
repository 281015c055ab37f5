-- What other crates may cite of the proofs of `plugin_mirror`.
pub use Rattle.plugin_mirror.proofs.RunLemmas.{books_say}
