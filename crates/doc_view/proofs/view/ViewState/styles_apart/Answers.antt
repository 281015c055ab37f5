use Rattle.std.proofs.Common.{sym, subst}
use Rattle.doc_view.specs.Told.{IsTextLeft}
use Rattle.doc_view.specs.declared.told.TextLeft.{TextLeft}
use Rattle.doc_view.proofs.view.ViewState.styles_apart.Goals as goal

pub returns-in-Same : goal.returns-in-Same
returns-in-Same c = sym (subst (λ (t : TextLeft). IsTextLeft t c.args.self.now c.args.next.now) c.in-Same.is c.requires).1
