use Rattle.rev_list.proofs.list.RevList.dead_then.Goals as goal

pub returns-in-Err-clause-unknown : goal.returns-in-Err-clause-unknown
returns-in-Err-clause-unknown c = λ n. (
  λ e. (c.in-Err.ensures.unknown n).0 cc,
  λ p.
      let same = (c.in-Err.ensures.unknown n).1 p in
      cc,
)

pub returns-in-Err-clause-collected : goal.returns-in-Err-clause-collected
returns-in-Err-clause-collected c = λ n. (
  λ e. (c.in-Err.ensures.collected n).0 cc,
  λ p.
      let same = (c.in-Err.ensures.collected n).1 p in
      cc,
)
