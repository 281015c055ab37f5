use Rattle.rev_undo.proofs.AllowedLemmas.{keys_rise}
use Rattle.rev_undo.proofs.allowed.may_undo.Goals as goal

pub returns-then-all_known : goal.returns-then-all_known
returns-then-all_known c = (
  λ is. record {
    known = c.all_known.ensures.0 c.if-all_known.true;
    frozen = c.agrees_on_collected.ensures.0 is;
    rising = keys_rise c.args.groups.now.keys c.len-count.ensures.ordered;
  },
  λ may. c.agrees_on_collected.ensures.1 may.frozen,
)
