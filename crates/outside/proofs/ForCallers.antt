-- What other crates may cite of the proofs of `outside`.
pub use Rattle.outside.proofs.Calls.{Gains-append, Gains-none, Gives-append, Rose-earlier}
