-- What other crates may cite of the proofs of `rev_engine`.
pub use Rattle.rev_engine.proofs.SpentLemmas.{inserted_count-plain}
pub use Rattle.rev_engine.proofs.StandLemmas.{IsKnown-stands, collected-stands, floor-stands, formed-stands, head-stands, refusal-kept, shown_head-stands, spent-loaded, undone_now-stands}
pub use Rattle.rev_engine.proofs.AskedLemmas.{IsOfEngine-given, undone_now-edited}
