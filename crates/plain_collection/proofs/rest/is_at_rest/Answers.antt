use Rattle.std.proofs.Common.{◌≡◌, not, ◌&&◌, ap, sym, ◌∙◌}
use Rattle.plain_edits.specs.Collection.{is_at_rest}
use Rattle.plain_collection.specs.Inner.{settled_from}
use Rattle.plain_collection.proofs.RestLemmas.{tested}
use Rattle.plain_collection.proofs.rest.is_at_rest.Goals as goal

pub returns-then-not-has_edit_after-clause-at_rest : goal.returns-then-not-has_edit_after-clause-at_rest
returns-then-not-has_edit_after-clause-at_rest c =
    let h = c.args.history.now in
    let is : c.is_settled.result ≡ is_at_rest h c.args.floor c.args.group =
    c.is_settled.ensures ∙ ap (λ some. not some && settled_from h c.args.group c.args.floor) (sym (sym c.has_edit_after.ensures ∙ c.if-not-has_edit_after.true)) in
    tested h c.args.floor c.args.group c.is_settled.result is
