-- What other crates may cite of the proofs of `span_styles`: how long the layers are that its calls give.
pub use Rattle.span_styles.proofs.LengthLemmas.{AreOver-new, AreOver-spanned, AreOver-mapped, length_after-text}
