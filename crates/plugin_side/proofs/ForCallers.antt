-- What other crates may cite of the proofs of `plugin_side`.
pub use Rattle.plugin_side.proofs.Hears.{notices_are_heard, answers_are_heard, lines_come_apart, results_come_apart}
pub use Rattle.plugin_side.proofs.Plain.{IsLineOf-command}
pub use Rattle.plugin_side.proofs.ReadBack.{ask_of-command, commands_read_back}
