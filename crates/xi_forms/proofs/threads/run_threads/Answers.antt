use Rattle.xi_top.proofs.ForCallers.{EndsWell-calm, HasCauses-run, HoldsSaves-run, IsWrittenByCount-run}
use Rattle.xi_forms.proofs.threads.run_threads.Goals as goal

pub returns-clause-causes : goal.returns-clause-causes
returns-clause-causes g c = HasCauses-run _ _ _ _ c.run.ensures.ran

pub returns-clause-saves : goal.returns-clause-saves
returns-clause-saves g c = HoldsSaves-run _ _ _ _ c.run.ensures.ran

pub returns-clause-writes : goal.returns-clause-writes
returns-clause-writes g c = IsWrittenByCount-run _ _ _ _ c.run.ensures.ran

pub returns-clause-complete : goal.returns-clause-complete
returns-clause-complete g c = EndsWell-calm _ _ _ _ c.run.ensures.ran
