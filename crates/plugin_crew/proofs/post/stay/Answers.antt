use Rattle.std.proofs.Common.{ap, sym, ◌∙◌, subst}
use Rattle.room_lock.specs.Room.{Known}
use Rattle.plugin_session.specs.Worker.{MayWork}
use Rattle.plugin_crew.specs.Member.{IsNew}
use Rattle.plugin_crew.proofs.PostLemmas.{stay_new}
use Rattle.plugin_crew.proofs.post.stay.Goals as goal

pub returns-clause-work : goal.returns-clause-work
returns-clause-work g c =
    let o = g.O.Object in
    let room = c.args.room.now.table.shared in
    let hired = c.args.hired in
    let back = c.came_back-pass.ensures in
    let member = c.new-member.result in
    let new = subst (λ caller. IsNew caller hired.plugin member) (c.caller.ensures ∙ ap (λ (p : Known). p.caller) back.0)
    (subst (λ plugin. IsNew c.caller.result plugin member) back.1 c.new-member.ensures) in
    stay_new o.fits o.legal o.serves o.answers g.P.Plugin.told room.table_id hired member c.new.result c.requires.leaves
    (ap (λ d. d.first) c.new.ensures ∙ sym c.requires.first) (ap (λ d. d.pass) c.new.ensures ∙ back.0)
    (subst (λ first. MayWork o.fits o.legal room.table_id first hired.pass) (sym c.requires.first) c.requires.may) new
