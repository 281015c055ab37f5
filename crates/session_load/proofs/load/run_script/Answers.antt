use Rattle.core_session.specs.Core.{sink_of}
use Rattle.session_load.proofs.LoadLemmas.{table_of_script}
use Rattle.session_load.proofs.load.run_script.Goals as goal

pub returns : goal.returns
returns c =
    table_of_script c.args.script.now (sink_of c.enter-2.new.core).counts (sink_of c.enter_lines.new.core).counts c.enter_lines.result c.enter_lines.ensures
