-- What other crates may cite of the proofs of `plugin_session`: how a session goes on from visit to visit, and past the entries of others.
pub use Rattle.plugin_session.proofs.AloneLemmas.{ready_on}
pub use Rattle.plugin_session.proofs.CallLemmas.{Begins-length, Stand-bound}
pub use Rattle.plugin_session.proofs.DoorLemmas.{TellsMore-none, TellsMore-append}
pub use Rattle.plugin_session.proofs.SeatLemmas.{no_own, others_of}
pub use Rattle.plugin_session.proofs.SessionLemmas.{served_further, served_stays, Went-on}
pub use Rattle.plugin_session.proofs.WholeLemmas.{over_is_whole}
pub use Rattle.plugin_session.proofs.WorkerLemmas.{same_on, served_at_close}
