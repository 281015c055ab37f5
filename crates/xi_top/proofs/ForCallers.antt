-- What other crates may cite of the proofs of `xi_top`.
pub use Rattle.xi_top.proofs.LineLemmas.{ended_lines-line, ended_lines-no_end, line_found, none_found, unended-line, unended-no_end}
pub use Rattle.xi_top.proofs.CalmLemmas.{EndsWell-calm, told_input}
pub use Rattle.xi_top.proofs.RunLemmas.{HasCauses-run, HoldsSaves-run, IsReadByCount-outcome, IsWrittenByCount-run, asked-lines}
pub use Rattle.xi_top.proofs.RanLemmas.{fails_settled}
pub use Rattle.xi_top.proofs.ClosedLemmas.{IsRun-closed}
pub use Rattle.xi_top.proofs.CoreLemmas.{plugin_fits, reads_lines, tells_faults}
pub use Rattle.xi_top.proofs.TurnLemmas.{begins_on}
pub use Rattle.xi_top.proofs.UnstartedLemmas.{IsReadByCount-none, RunsAlone-none}
