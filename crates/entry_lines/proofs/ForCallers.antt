-- What other crates may cite of the proofs of `entry_lines`.
pub use Rattle.entry_lines.proofs.Pieces.{lines_written-append, all_append}
pub use Rattle.entry_lines.proofs.Updates.{pieces_say_their_updates}
pub use Rattle.entry_lines.proofs.Answers.{results_name_the_request}
pub use Rattle.entry_lines.proofs.ViewIds.{view_ids_differ}
