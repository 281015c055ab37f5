-- What other crates may cite of the proofs of `case_scripts`.
unfoldable pub use Rattle.case_scripts.proofs.CutLemmas.{IsCut}
pub use Rattle.case_scripts.proofs.CutLemmas.{is_cut}
