-- What other crates may cite of the proofs of `doc_text`.
pub use Rattle.rope_node.specs.Lengths.{byte_len-append}
pub use Rattle.doc_text.proofs.AgreeLemmas.{IsLast, IsLast-next_undo, fresh, has-next_undo, next_undo-opened}
pub use Rattle.doc_text.proofs.ChunkLemmas.{beginning-greatest, take-beginning}
pub use Rattle.doc_text.proofs.CollectLemmas.{IsTextOf-sessions, collection_of-nothing, floor-found, fold_forgotten, none-retired, part-collected}
pub use Rattle.doc_text.proofs.FaultLemmas.{DocRefuses-lack, DocRefuses-place, DocRefuses-revision, range_refusal-none, reading_refusal-by}
pub use Rattle.doc_text.proofs.HeadLemmas.{head-stands, head-text, text_in-stands}
pub use Rattle.doc_text.proofs.LaterLemmas.{HasNoneLeft-later}
pub use Rattle.doc_text.proofs.LoadLemmas.{head_text-loaded}
pub use Rattle.doc_text.proofs.MoveLemmas.{head-after, head-undid, mapped_regions-moved, sound-given}
pub use Rattle.doc_text.proofs.OnceLemmas.{collected_once, nothing_after}
pub use Rattle.doc_text.proofs.SessionLemmas.{least-ended}
