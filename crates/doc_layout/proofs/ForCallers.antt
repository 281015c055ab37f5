-- What other crates may cite of the proofs of `doc_layout`.
pub use Rattle.doc_layout.proofs.AskedLemmas.{covered-each}
pub use Rattle.doc_layout.proofs.LayoutLemmas.{length-byte_len, mapped-put, slice-drop, slice-take, slice-there, slice_range-none}
pub use Rattle.doc_layout.proofs.SameLemmas.{apart, empty-is, one-differs-at, one-more-at}
pub use Rattle.doc_layout.proofs.TellLemmas.{layouts-tell}
pub use Rattle.doc_layout.proofs.ReadLemmas.{lines-read, regions-read, slice-alike, styles-read}
-- the same styles make the same spans, wherever a piece stands
pub use Rattle.doc_layout.proofs.MovedLemmas.{own_spans-alike}
-- results of a search rise, and those that share a run find the same characters of it
pub use Rattle.doc_layout.proofs.FoundLemmas.{RiseApart-filter, RiseApart-matches, found-shared}
