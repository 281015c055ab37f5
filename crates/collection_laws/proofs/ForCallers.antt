-- What other crates may cite of the laws of collection.
pub use Rattle.collection_laws.proofs.ListLemmas.{rising_same}
pub use Rattle.collection_laws.proofs.GuardLemmas.{MayForget-loaded, MayForget-after_step, base_of-le}
pub use Rattle.collection_laws.proofs.DroppedLemmas.{IsOurs, all_ours, all_dropped_old, dropped_stands_apart, edit_after, later_is_kept, later_run-without_dropped, shown_is_kept}
pub use Rattle.collection_laws.proofs.SettledLemmas.{IsForgotten, IsRising-settled_deletions, StaysAs, drop-left, edits-last_edit, has-settled_deletions, head-left, last_edit-le, le-last_edit, revision_at-after, revision_at-before, settled_rev-after, settled_rev-last, settled_rev-none, settles, undone-left}
pub use Rattle.collection_laws.proofs.ShownLemmas.{HasFloor, HasRisingSet-undone_by, change_adds-left, change_keeps-left, is_visible-left, length-left, text_at-left, visible_at-left}
pub use Rattle.collection_laws.proofs.LaterLemmas.{LeavesUndone, is_dropped-later, is_kept-deleted, is_kept-new, is_kept-new_deleted, is_kept-old, leaves-edit, left_of-undid, left_of-undid_by, revisions-later, settled-deleted, settled-later, settled-new, settled-new_deleted, sifted-later}
pub use Rattle.collection_laws.proofs.EditedLemmas.{left_of-edited}
pub use Rattle.collection_laws.proofs.CollectedLemmas.{left_of-collected, left_of-whole}
pub use Rattle.collection_laws.proofs.LeftLemmas.{IsAtRest-left, IsWellFormed-left, all_uncollected, clean_floor-left, collection_of-left, is_at_rest-left, is_clean-left, none_dropped}
pub use Rattle.collection_laws.proofs.ForgetfulLemmas.{MayForget-after_steps, forgetful_steps-loaded, left_of-after_step, left_of-after_steps}
