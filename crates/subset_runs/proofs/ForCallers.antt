-- What other crates may cite of the proofs of `subset_runs`.
pub use Rattle.subset_runs.proofs.EqualRuns.{flags_decided}
pub use Rattle.subset_runs.proofs.FlagLemmas.{count-append, count-replicate_false, count-replicate_true, count_le_length}
pub use Rattle.subset_runs.proofs.RenumberingLemmas.{length-expand_as}
pub use Rattle.subset_runs.proofs.StretchLemmas.{count_added_next, count_moved_next, front_len, front_part, items_outside-gone}
pub use Rattle.subset_runs.proofs.TransformLaws.{items_outside-expand_as, length-at_each, symmetric_difference-back, symmetric_difference_comm}
