-- What other crates may cite of the proofs of `view_update`.
pub use Rattle.view_update.proofs.Lines.{IsLineOf-empty_note, others_are_no_updates, updates_are_read, updates_read_back}
