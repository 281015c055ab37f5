-- What other crates may cite of the proofs of `doc_view`.
pub use Rattle.doc_view.proofs.FrontLemmas.{IsKeptLeftOf-edited}
pub use Rattle.doc_view.proofs.IdleLemmas.{do_nothing-none}
pub use Rattle.doc_view.proofs.MovedLemmas.{AreWithin-plain, IsSelection-plain, some-plain}
pub use Rattle.doc_view.proofs.SearchLemmas.{next_found-within, previous_found-within, with_match-some, with_match-sound}
