use Rattle.std.proofs.Common.{Ok, Err, refl}
use Rattle.std.proofs.lemmas.Result.{err_from_is_err_and}
use Rattle.doc_text.proofs.ReadLemmas.{Refuses-revision, kept-answered}
use Rattle.doc_text.proofs.reading.rope_of.Goals as goal

pub returns-in_err-rope_at-clause-refused : goal.returns-in_err-rope_at-clause-refused
returns-in_err-rope_at-clause-refused c = λ history stands.
    let p = err_from_is_err_and c.from_residual.result c.from_residual.ensures.1 in
    rw p.1 (Refuses-revision history c.args.rev (Err c.in_err-rope_at.field-0.0) (c.in_err-rope_at.ensures.unknown history stands)
    (c.in_err-rope_at.ensures.collected history stands) c.in_err-rope_at.field-0.0 _ refl p.2)

pub returns-clause-accepted : goal.returns-clause-accepted
returns-clause-accepted c = λ history stands.
    kept-answered history c.args.rev (Ok c.in_ok-rope_at.field-0) (c.in_ok-rope_at.ensures.unknown history stands)
    (c.in_ok-rope_at.ensures.collected history stands) c.in_ok-rope_at.field-0 refl
