use Rattle.rev_list.proofs.RecordLemmas.{history-loaded, holds_loaded}
use Rattle.rev_list.proofs.list.RevList.start.Goals as goal

pub invariant_of-result : goal.invariant_of-result
invariant_of-result c =
    rw (c.in_ok-new.ensures.ok, c.loaded.ensures, c.new-2.ensures, c.in_ok-new-2.ensures.ok, c.none.ensures, c.in_ok-start.ensures, c.new-4.ensures)
    (holds_loaded c.args.len)

pub returns : goal.returns
returns c = rw (c.in_ok-new.ensures.ok, c.loaded.ensures, c.new-2.ensures) (history-loaded c.args.len)
