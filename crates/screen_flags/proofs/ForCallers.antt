-- What other crates may cite of the proofs of `screen_flags`.
pub use Rattle.screen_flags.proofs.LawLemmas.{flags_count, flags_follow}
pub use Rattle.screen_flags.proofs.ToldLemmas.{others_tell_none, updates_tell_changes}
