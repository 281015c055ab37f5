-- What other crates may cite of the proofs of `doc_session`.
pub use Rattle.doc_session.proofs.ActLemmas.{Leaves, by_front, request_of-refused}
pub use Rattle.doc_session.proofs.ConfigLemmas.{config-event_step}
pub use Rattle.doc_session.proofs.FitLemmas.{command_fits}
pub use Rattle.doc_session.proofs.IdleLemmas.{typing-some, typing-within}
pub use Rattle.doc_session.proofs.ScreenLemmas.{IsUpToDate-settled, updates_show}
pub use Rattle.doc_session.proofs.SettleLemmas.{IsLastTold-settled, part-settled}
pub use Rattle.doc_session.proofs.SomeLemmas.{effect-some}
pub use Rattle.doc_session.proofs.UntoldLemmas.{layers-viewed}
pub use Rattle.doc_session.proofs.TouchedLemmas.{AreTouched-change}
