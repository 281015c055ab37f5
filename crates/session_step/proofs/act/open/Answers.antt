use Rattle.std.proofs.Common.{List, ℕ, Option, IfOk, sym, subst}
use Rattle.session_step.specs.InnerStep.{IsOutcome}
use Rattle.session_step.specs.News.{open_news, opened_news}
use Rattle.session_step.specs.Session.{open_outcome, opening_outcome}
use Rattle.session_step.proofs.act.open.Goals as goal

pub returns-in_ok-view_id_of-in-None : goal.returns-in_ok-view_id_of-in-None
returns-in_ok-view_id_of-in-None c = λ views stands.
    let At : List ℕ → Type 0 = λ text. IfOk c.open_text.result (IsOutcome (opening_outcome c.args.terms c.args.ended.now c.args.config c.args.opened views text) (opened_news c.args.opened text)) in
    let Path : Option (List ℕ) → Type 0 = λ path. IfOk c.open_text.result (IsOutcome (open_outcome c.args.terms c.args.ended.now c.args.config c.args.opened views path c.args.given) (open_news c.args.opened path c.args.given)) in
    subst Path (sym c.in-None.is) (subst At c.new.ensures (c.open_text.ensures c.args.opened views c.in_ok-view_id_of-in-None.ensures stands))
