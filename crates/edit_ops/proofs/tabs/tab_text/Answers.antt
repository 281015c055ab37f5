use Rattle.std.proofs.Common.{◌≡◌, subst}
use Rattle.std.specs.Prelude.{IfOk}
use Rattle.edit_ops.proofs.TabLemmas.{tab_text-spaces}
use Rattle.edit_ops.proofs.tabs.tab_text.Goals as goal

pub returns : goal.returns
returns g c =
    subst (λ w. IfOk c.spaces.result (λ text. text ≡ w))
    (tab_text-spaces c.args.config.now (g.T.TextView.text_of c.args.view.now) (g.T.TextView.pieces_of c.args.view.now) c.args.gap c.in_ok-column.column c.room_to_stop.result
    c.if-not-config.false c.in_ok-column.ensures c.room_to_stop.ensures)
    c.spaces.ensures
