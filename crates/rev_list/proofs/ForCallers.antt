-- What other crates may cite of the proofs of `rev_list`.
pub use Rattle.rev_list.proofs.FirstLemmas.{one_group, HasFirst, first_found, any_edit, no_edit}
pub use Rattle.rev_list.proofs.HistoryLemmas.{IsPlain, length-after_edit, length-dead_now}
pub use Rattle.rev_list.proofs.RecordLemmas.{undone_rises}
pub use Rattle.rev_list.proofs.StepLemmas.{filter-there, map-with_new}
pub use Rattle.rev_list.proofs.TagLemmas.{undone_after-edit}
pub use Rattle.rev_list.proofs.TextLemmas.{grown_flags, hidden_without_text, same_flags, step_without_text}
pub use Rattle.rev_list.proofs.UpToFloorLemmas.{revision_at-settled}
pub use Rattle.rev_list.proofs.UnderLemmas.{is_visible_under-agree, hidden_under-agree}
pub use Rattle.rev_list.proofs.UnderEditLemmas.{map_where, is_visible_under-more, is_visible_under-new, is_visible_under-deletion, is_visible_under-deleted, hidden_under-undid}
pub use Rattle.rev_list.proofs.UntilLemmas.{clean-take, lengths_after, revisions-after, until-head}
