use Rattle.std.proofs.Common.{None, ap, sym, ◌∙◌, subst}
use Rattle.entry_lines.specs.declared.piece.FrontNews.{FrontNews}
use Rattle.entry_lines.specs.declared.reply.PluginReply.TheVariants.{Null}
use Rattle.session_step.specs.InnerStep.{TakesSteps}
use Rattle.session_step.specs.PluginStep.{ended_outcome}
use Rattle.session_step.specs.declared.stepped.Stepped.{Stepped}
use Rattle.session_step.specs.declared.stepped.ToEach.TheVariants as to
use Rattle.session_step.specs.declared.acted.Acted.{Acted}
use Rattle.session_step.specs.declared.acted.Acted.TheVariants.{Taken}
use Rattle.session_step.specs.declared.next.NextViews.TheVariants.{All}
use Rattle.session_step.specs.PluginEffects.{IsActed}
use Rattle.session_step.proofs.PluginActLemmas.{IsActed-ended}
use Rattle.session_step.proofs.acted.ended.Goals as goal

pub returns-clause-acted : goal.returns-clause-acted
returns-clause-acted c = λ views stands.
    let held = c.args.held.now in
    let new = c.take.new.self in
    let with_front : FrontNews → Acted = λ front. Taken (record { reply = Null; front = front; grown = None; next = All new.held; news = c.new-2.result }) in
    let At : Acted → Type 0 = λ acted. IsActed held None (ended_outcome c.args.caller views) acted in
    let By : Stepped → Type 0 = λ old. TakesSteps (to.Ended c.args.caller) old held new in
    subst At (sym (c.taken.ensures ∙ ap with_front c.front_told.ensures))
    (IsActed-ended held views c.args.caller new c.new.result c.new-2.result (subst By c.new-stepped.ensures c.in_ok-take.ensures) c.new.ensures c.new-2.ensures stands)
