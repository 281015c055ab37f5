use Rattle.std.proofs.Common.{◌≡◌, length, refl, ap, sym, ◌∙◌, subst, arith}
use Rattle.core_session.specs.Core.{journal_of, terms_of}
use Rattle.xi_top.specs.Turns.{TakesTurns}
use Rattle.xi_top.proofs.RanLemmas.{new_begun, new_many, new_plugins}
use Rattle.xi_top.proofs.ran.run_core.Goals as goal

pub serve_all-requires-clause-made : goal.serve_all-requires-clause-made
serve_all-requires-clause-made g c =
    let many = new_many 1 c.args.plugins.items c.in-Ok.crew.members.items c.in-Ok.ensures.members in
    let count : (terms_of c.in-Ok-make.core).plugins ≡ length c.in-Ok.crew.members.items =
    ap (λ terms. terms.plugins) c.in-Ok-make.ensures.terms ∙ omega (arith, c.len-count.ensures, c.requires.few, c.args.plugins.ok.0, many) in
    let limit = ap (λ terms. terms.limit) c.in-Ok-make.ensures.terms in
    λ i. record { plugins = count i; limit = limit i }

pub returns-in-Ok-make-clause-ran : goal.returns-in-Ok-make-clause-ran
returns-in-Ok-make-clause-ran g c =
    let many = new_many 1 c.args.plugins.items c.in-Ok.crew.members.items c.in-Ok.ensures.members in
    rw (sym many, sym c.in-Ok-make.ensures.sink, sym c.in-Ok-make.ensures.shelf) c.serve_all.ensures.ran

pub returns-in-Ok-make-clause-in_time : goal.returns-in-Ok-make-clause-in_time
returns-in-Ok-make-clause-in_time g c =
    let many = new_many 1 c.args.plugins.items c.in-Ok.crew.members.items c.in-Ok.ensures.members in
    rw (sym many, sym c.in-Ok-make.ensures.sink, sym c.in-Ok-make.ensures.shelf) c.serve_all.ensures.in_time

pub returns-in-Ok-make-clause-turns : goal.returns-in-Ok-make-clause-turns
returns-in-Ok-make-clause-turns g c =
    let ran = c.serve_all.result in
    subst (λ handed. TakesTurns g.P.Plugin.told handed ran.plugins.items (journal_of ran.core) ran.all_served)
    (new_begun 1 c.args.plugins.items c.in-Ok.crew.members.items c.in-Ok.ensures.members) c.serve_all.ensures.turns

pub returns-in-Err-make-clause-unstarted : goal.returns-in-Err-make-clause-unstarted
returns-in-Err-make-clause-unstarted g c =
    let came = c.into_plugins.ensures ∙ new_plugins 1 c.args.plugins.items c.in-Ok.crew.members.items c.in-Ok.ensures.members in
    (rw (sym c.in-Err-make.ensures.back.0, sym c.in-Err-make.ensures.back.1, sym came) c.unstarted-in-Err-make.ensures, refl)
