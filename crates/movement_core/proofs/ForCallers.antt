-- What other crates may cite of the proofs of `movement_core`.
pub use Rattle.movement_core.proofs.WholeLemmas.{StartAtPlaces-whole_lines}
pub use Rattle.movement_core.proofs.MoveLemmas.{AreWithin-selection, region_after-inside, target-inside}
pub use Rattle.movement_core.proofs.BoundaryLemmas.{place-inside}
pub use Rattle.movement_core.proofs.FitLemmas.{greatest_place-within}
pub use Rattle.movement_core.proofs.HeadLemmas.{HasHead, head-first, head-none, head-start, heads-rise}
pub use Rattle.plain_screen.proofs.callers.OwnLemmas.{start_of-get}
pub use Rattle.movement_core.proofs.LineLemmas.{under-le, under-own}
pub use Rattle.movement_core.proofs.WordLemmas.{run_len-le}
