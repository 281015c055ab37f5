-- What other crates may cite of the proofs of `json_rpc`.
pub use Rattle.json_rpc.proofs.Apart.{lines_of-lines}
pub use Rattle.json_rpc.proofs.Lines.{IsLineOf-line_of}
pub use Rattle.json_rpc.proofs.Responses.{line_request-note}
pub use Rattle.json_rpc.proofs.Tokens.{Adds-pushed}
