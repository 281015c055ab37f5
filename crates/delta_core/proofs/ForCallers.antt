-- What other crates may cite of the proofs of `delta_core`.
pub use Rattle.delta_core.proofs.CarryLemmas.{IsCarried-carried, base_step, other_step, own_steps}
pub use Rattle.delta_core.proofs.ElementsLaws.{Fits-elements, IsDeltaOf-delta_of, IsUnitsOf-delta_of, applied-delta_by, elements_from-same, woven-within}
pub use Rattle.delta_core.proofs.StepLemmas.{IsMaking, IsMaking-added, IsMaking-dropped, IsMaking-kept, IsMaking-start, room_dropped, room_kept}
pub use Rattle.delta_core.proofs.UnitLemmas.{gap_of-end, is_place-end, place_within}
pub use Rattle.delta_core.proofs.WireLaws.{CopyFits-to, Fits-wire, applied-shown, applied-wire}
