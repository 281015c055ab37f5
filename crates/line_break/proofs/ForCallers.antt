-- What other crates may cite of the breaks of a line and of the pieces of a text.

-- the breaks of a line pass the test, what passes it is these breaks, and two lists that pass it are one
pub use Rattle.line_break.proofs.TestLemmas.{breaks_of-pass, AreBreaks-value, AreBreaks-same}
-- breaks rise to the line's end; the pieces joined are the line, and each fits or is one cluster
pub use Rattle.line_break.proofs.PieceLemmas.{AreEnds-breaks_of, pieces-joined, pieces-each}
-- what is wrapped is pieces of the text
pub use Rattle.line_break.proofs.PieceLemmas.{ArePieces-wrapped}
