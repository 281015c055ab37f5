-- What other crates may cite of the proofs of `number_set`.
pub use Rattle.number_set.proofs.SearchLemmas.{rises, gap_inside, place_inside, put}
pub use Rattle.number_set.proofs.SetLemmas.{no, has-append, has-one, has-own, has-take, has-drop, absent, parted, above, above-all, IsRising-take, IsRising-drop, IsRising-end, few-rising, has-without, in-without, without-with, with-without}
pub use Rattle.number_set.proofs.FlipLemmas.{flipped_back, flipped_nothing}
