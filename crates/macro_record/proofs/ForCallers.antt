-- What other crates may cite of the proofs of `macro_record`.
pub use Rattle.macro_record.proofs.LengthLemmas.{played-short, played-short-by}
pub use Rattle.macro_record.proofs.LineLemmas.{EndsLine, lines_of-line}
