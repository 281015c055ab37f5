use Rattle.std.proofs.Common.{Err, Ok, ap, arith, length, refl, subst, sym}
use Rattle.std.proofs.lemmas.Result.{err_from_is_err_and}
use Rattle.plain_edits.specs.EditFault.{Refuses}
use Rattle.doc_text.specs.Asking.{acknowledgement_refusal}
use Rattle.doc_text.proofs.ReadLemmas.{IsEdit-since, Refuses-revision, kept-answered, length_after-since}
use Rattle.doc_text.proofs.reading.read_engine.Goals as goal

pub returns-in_err-units-clause-refused : goal.returns-in_err-units-clause-refused
returns-in_err-units-clause-refused c = λ history stands.
    let p = err_from_is_err_and c.from_residual.result c.from_residual.ensures.1 in
    rw p.1 (Refuses-revision history c.args.rev (Err c.in_err-units.field-0.0) (c.in_err-units.ensures.unknown history stands)
    (c.in_err-units.ensures.collected history stands) c.in_err-units.field-0.0 _ refl p.2)

pub returns-in_err-text-clause-refused : goal.returns-in_err-text-clause-refused
returns-in_err-text-clause-refused c = λ history stands.
    let p = err_from_is_err_and c.from_residual-in_err-text.result c.from_residual-in_err-text.ensures.1 in
    rw p.1 (subst (Refuses (acknowledgement_refusal history c.args.rev)) (sym p.2) (c.in_err-text.ensures.refused history stands))

pub returns-clause-read : goal.returns-clause-read
returns-clause-read c = λ history stands.
    let since = c.in_ok-units.ensures.since history stands in
    record { text = c.in_ok-text.ensures.text history stands; kept = since.kept; added = since.added }

pub returns-clause-edit : goal.returns-clause-edit
returns-clause-edit c =
    IsEdit-since c.args.engine.now c.args.rev c.in_ok-units.units c.requires c.in_ok-units.ensures.since c.in_ok-text.text c.in_ok-text.ensures.text
    (omega (arith, c.len-shown.type_inv, c.len-shown.ensures.count, ap length c.head_rope.ensures.shown))

pub returns-clause-leads : goal.returns-clause-leads
returns-clause-leads c = length_after-since c.args.engine.now c.args.rev c.in_ok-units.units c.requires c.in_ok-units.ensures.since

pub returns-clause-accepted : goal.returns-clause-accepted
returns-clause-accepted c = λ history stands.
    kept-answered history c.args.rev (Ok c.in_ok-units.units) (c.in_ok-units.ensures.unknown history stands)
    (c.in_ok-units.ensures.collected history stands) c.in_ok-units.units refl
