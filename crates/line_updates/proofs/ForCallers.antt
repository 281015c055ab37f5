-- What other crates may cite of the proofs of `line_updates`: the piece behind a logical line.
pub use Rattle.line_updates.proofs.NextLemmas.{next-end, next-past}
