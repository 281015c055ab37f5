use Rattle.std.proofs.Common.{subst, sym}
use Rattle.line_stays.specs.Change.{IsChangeTo, LeavesText}
use Rattle.line_stays.specs.declared.change.Change.{Change}
use Rattle.line_stays.proofs.stays.settled.Goals as goal

pub beside-requires-clause-change : goal.beside-requires-clause-change
beside-requires-clause-change g c =
    subst (λ (e : Change). IsChangeTo e (g.T.TextView.text_of c.args.before.now.view.now) (g.T.TextView.text_of c.args.after.now.view.now) c.args.before.now.layers.now
    c.args.after.now.layers.now) c.in-Edited.is c.requires.change

pub as_was-requires-clause-leaves : goal.as_was-requires-clause-leaves
as_was-requires-clause-leaves g c = subst LeavesText (sym c.in-Nothing.is) tt

pub as_was-requires-in-Styled-clause-leaves : goal.as_was-requires-in-Styled-clause-leaves
as_was-requires-in-Styled-clause-leaves g c = subst LeavesText (sym c.in-Styled.is) tt
