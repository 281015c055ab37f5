-- What other crates may cite of the proofs of `storm_lines`.
pub use Rattle.storm_lines.proofs.LineLemmas.{inputs_come_apart}
