-- What other crates may cite of the proofs of `front_wire`.
pub use Rattle.front_wire.proofs.CloseLemmas.{closes-command_of}
