-- WHAT RUNS OF A FRONT END COME TO, handed on to who stands on these and on storms.
pub use Rattle.session_step.specs.Accepted.{AreAccepted}
pub use Rattle.core_session.specs.Shelves.{HoldsSaves, shelf_state}
pub use Rattle.xi_top.specs.declared.run.Report.{Report}
pub use Rattle.xi_top.specs.Alone.{terms_for}
pub use Rattle.xi_top.specs.Run.{HasCauses, IsReadByCount, Passage, RunsAlone, passage_of}
pub use Rattle.xi_top.specs.Written.{IsWrittenByCount}
pub use Rattle.xi_top.specs.InTime.{AnswersInTime}
pub use Rattle.xi_top.specs.Turns.{ServesPlugins, TakesTurns}
pub use Rattle.xi_top.specs.Calm.{EndsWell, IsCalm}
