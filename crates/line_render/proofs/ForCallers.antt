-- What other crates may cite of the proofs of `line_render`.
pub use Rattle.line_render.proofs.LawLemmas.{length-text_of_piece, own-layout_line_of, piece-inside, pieces-told, rendered-pieces}
-- runs of one style, of a layer that is given by a rule
pub use Rattle.line_render.proofs.RunLemmas.{runs_by, runs_by-same, runs_by-none, runs_by-all}
