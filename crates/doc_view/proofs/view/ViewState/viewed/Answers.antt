use Rattle.std.proofs.Common.{◌≡◌, sym, subst}
use Rattle.std.proofs.Math.Nat.{le-add_right}
use Rattle.std.specs.Prelude.{IfOk}
use Rattle.doc_view.specs.View.{View}
use Rattle.doc_view.specs.declared.looking.Viewing.{Viewing}
use Rattle.doc_view.specs.Looking.{viewed}
use Rattle.doc_view.proofs.LookingLemmas.{ticks-viewing}
use Rattle.doc_view.proofs.view.ViewState.viewed.Goals as goal

pub returns-in-Window : goal.returns-in-Window
returns-in-Window g c = record {
  is = subst (λ (viewing : Viewing). IfOk c.scrolled.result (λ (made : View). made ≡ viewed c.args.self.now viewing)) (sym c.in-Window.is) c.scrolled.ensures;
  steps = le-add_right _ _;
}

pub returns-in-Lines : goal.returns-in-Lines
returns-in-Lines g c = record {
  is = subst (λ (viewing : Viewing). IfOk c.without_goals.result (λ (made : View). made ≡ viewed c.args.self.now viewing)) (sym c.in-Lines.is) c.without_goals.ensures;
  steps = le-add_right _ _;
}

pub returns-in-Seek : goal.returns-in-Seek
returns-in-Seek g c = record {
  is = subst (λ (viewing : Viewing). IfOk c.seeking.result (λ (made : View). made ≡ viewed c.args.self.now viewing)) (sym c.in-Seek.is) c.seeking.ensures;
  steps = le-add_right _ _;
}

pub returns-in-Next : goal.returns-in-Next
returns-in-Next g c = record {
  is = subst (λ (viewing : Viewing). IfOk c.at_next.result (λ (made : View). made ≡ viewed c.args.self.now viewing)) (sym c.in-Next.is) c.at_next.ensures;
  steps = le-add_right _ _;
}

pub returns-in-Previous : goal.returns-in-Previous
returns-in-Previous g c = record {
  is = subst (λ (viewing : Viewing). IfOk c.at_previous.result (λ (made : View). made ≡ viewed c.args.self.now viewing)) (sym c.in-Previous.is) c.at_previous.ensures;
  steps = le-add_right _ _;
}

pub returns-in-Layout : goal.returns-in-Layout
returns-in-Layout g c = record {
  is = subst (λ (viewing : Viewing). IfOk c.with_config.result (λ (made : View). made ≡ viewed c.args.self.now viewing)) (sym c.in-Layout.is) c.with_config.ensures.made;
  steps = ticks-viewing _ _ c.args.self.now _ _ c.in-Layout.is c.with_config.ensures.ticks;
}

pub returns-in-Other : goal.returns-in-Other
returns-in-Other g c = record {
  is = subst (λ (viewing : Viewing). IfOk c.copy.result (λ (made : View). made ≡ viewed c.args.self.now viewing)) (sym c.in-Other.is) c.copy.ensures;
  steps = le-add_right _ _;
}
