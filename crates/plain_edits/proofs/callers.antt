-- What other crates may cite of histories, of insertion places and of edits.
pub mod RankLemmas
pub mod HistoryLemmas
pub mod PlaceLemmas
pub mod EditLemmas
pub mod UndoLemmas
pub mod ChangeLemmas
pub mod CollectionLemmas
pub mod StepLemmas
pub mod CaretLemmas
pub mod StyleLemmas
pub mod WellFormedLemmas
pub mod BlockLemmas
pub mod RunLemmas
pub mod FirstLemmas
pub mod WeaveLemmas
pub mod CanonicalLemmas
