use Rattle.std.proofs.Common.{List, ℕ, subst}
use Rattle.plugin_link.specs.Turns.{HasNoLf}
use Rattle.plugin_link.specs.Cut.{HasLfAt}
use Rattle.plugin_link.proofs.PullLemmas.{none_found, lf_found, later_lf, later_none}
use Rattle.plugin_link.proofs.cut.find_lf.Goals as goal

pub returns-in-Some : goal.returns-in-Some
returns-in-Some c =
    let found = c.in-Some.ensures in
    let rest = c.split_at.result.1.now in
    let At : List ℕ → Type 0 = λ bytes. HasLfAt bytes c.in-Some.at in
    later_lf c.args.bytes.now c.args.seen c.in-Some.at c.requires.inside c.requires.none
    (subst At c.split_at.ensures.back (lf_found rest c.in-Some.at found.0.high found.0.before found.1))

pub returns-in-None : goal.returns-in-None
returns-in-None c =
    later_none c.args.bytes.now c.args.seen c.requires.none
    (subst HasNoLf c.split_at.ensures.back (none_found c.split_at.result.1.now c.in-None.ensures))
