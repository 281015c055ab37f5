-- What other crates may cite of the proofs of `session_step`.
pub use Rattle.session_step.proofs.ViewLemmas.{same_id, id_is, other_way, view_of-found, only_own}
unfoldable pub use Rattle.session_step.proofs.ViewLemmas.{OnlyOwn}
pub use Rattle.session_step.proofs.ViewLemmas.{AreNumbered, numbered_none, numbered_push, numbered_without, numbered_stepped, apart-numbered}
pub use Rattle.session_step.proofs.ViewLemmas.{next_not_given, not_given-before, not_given-others}
pub use Rattle.session_step.proofs.EndedLemmas.{head-without_sessions, screen-without_sessions, sessions-without_sessions, view-without_sessions}
pub use Rattle.session_step.proofs.PluginLemmas.{all_found, all_with_document, alone_step, by_plugin, is_by_plugin, no_step, numbered_plugin, steps_alone, steps_none}
pub use Rattle.session_step.proofs.SessionsLemmas.{sessions-event_step, sessions_by, sessions_by-event_step}
pub use Rattle.session_step.proofs.OpenLemmas.{first_inside, named_at, none_named, serves_found}
