use Rattle.std.proofs.Common.{ap₂, sym, subst}
use Rattle.match_index.specs.Edited.{IsBegun}
use Rattle.match_index.proofs.ChangedLemmas.{searched-changed}
use Rattle.match_index.proofs.edit.Edit.found_after.Goals as goal

pub returns-clause-changed : goal.returns-clause-changed
returns-clause-changed c =
    let begun : IsBegun c.args.self.now c.begun-index.result.0 c.met.new.walked.from c.met.new.walked.start =
    subst (λ n. IsBegun c.args.self.now c.begun-index.result.0 n c.met.new.walked.start) (sym c.in_ok-rest.ensures.same.0)
    (subst (λ n. IsBegun c.args.self.now c.begun-index.result.0 c.begun-index.result.1.from n) (sym c.in_ok-rest.ensures.same.1) c.begun-index.ensures.begun) in
    searched-changed c.args.self.now c.begun-index.result.0 c.met.new.walked c.in_ok-rest.rest c.searched-changed.result c.requires begun
    c.in_ok-rest.ensures.walked c.in_ok-rest.ensures.met c.searched-changed.ensures
