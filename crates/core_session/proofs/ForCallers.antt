-- What other crates may cite of the proofs of `core_session`.
pub use Rattle.core_session.proofs.SessionLemmas.{views_of-push, written-push, IsOfLine-command_of, open_front}
pub use Rattle.core_session.proofs.ShelfLemmas.{AreSavesAsked-closed, AreSavesAsked-push, HoldsSaves-closed, HoldsSaves-keeps, HoldsSaves-none, HoldsSaves-push}
unfoldable pub use Rattle.core_session.proofs.StepLemmas.{AreEvents, IsBase}
pub use Rattle.core_session.proofs.StepLemmas.{all_events, by_views}
pub use Rattle.core_session.proofs.AfterLemmas.{all_base, all_without}
pub use Rattle.core_session.proofs.RevisionLemmas.{revisions_few, sessions_of}
pub use Rattle.core_session.proofs.ShownLemmas.{updates_in-push}
pub use Rattle.core_session.proofs.ShowsLemmas.{updates_in-lines, updates_of-some}
pub use Rattle.core_session.proofs.ClosedLemmas.{shows_none}
pub use Rattle.core_session.proofs.KeptLemmas.{absurd_of, IsLegal-closed, IsLegal-front, IsLegal-push, closing-push, closing_last, open_not_over}
pub use Rattle.core_session.proofs.GrownLemmas.{AreWritten-sent, failures_with-sent}
pub use Rattle.core_session.proofs.ServesLemmas.{nothing_stops_it, refused_exactly}
