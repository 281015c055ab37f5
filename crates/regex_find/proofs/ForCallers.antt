-- What other crates may cite of the proofs of `regex_find`.
pub use Rattle.regex_find.proofs.ReplaceLemmas.{woven-replaced}
