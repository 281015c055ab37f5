-- What other crates may cite of the proofs of `line_cache`: an update says what standings say that need no lines, and which lines a plan leaves
-- valid.
pub use Rattle.line_cache.proofs.LawLemmas.{update_plan-apart, valid-plan}
-- and of partners those that are valid by a screen's truths
pub use Rattle.line_cache.proofs.ScreenLemmas.{partners-of, valid-at, valid_at}
