-- What other crates may cite of the proofs of `line_stays`: that no other logical lines are touched by text, how many there are, that they are numbered,
-- and what the screen of a plan shows.
pub use Rattle.line_stays.proofs.TouchLemmas.{are_numbered, has_lines, touches_no_others, touches_none}
pub use Rattle.line_stays.proofs.RevisionLemmas.{touches-revised}
pub use Rattle.line_stays.proofs.ShowLemmas.{equal-planned, length-planned, valid-planned}
pub use Rattle.line_stays.proofs.CountLemmas.{line-counts}
-- and where no line has a partner that is valid
pub use Rattle.line_stays.proofs.NoneLemmas.{none-untouched, none-valid, nothing-stays}
