-- What other crates may cite of the proofs of `plugin_wire`.
pub use Rattle.plugin_wire.proofs.Notices.{notices_read_back, answers_are_no_notices}
pub use Rattle.plugin_wire.proofs.Each.{EachLeft, EachLeft-turned, EachLeft-popped, EachLeft-popped_bad, EachLeft-emptied}
pub use Rattle.plugin_wire.proofs.Made.{MadeOfEls, MadeOfEls-none, MadeOfEls-next, MadeOfEls-values, MadeOfEls-fair}
pub use Rattle.plugin_wire.proofs.ReadBack.{whole_shape-whole_data, text_shape-text_data, delta_shape-delta_data}
