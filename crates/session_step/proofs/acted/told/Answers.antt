use Rattle.std.proofs.Common.{None, ap, sym, ◌∙◌, subst}
use Rattle.entry_lines.specs.Answer.{reply_of}
use Rattle.entry_lines.specs.declared.piece.FrontNews.{FrontNews}
use Rattle.entry_lines.specs.declared.reply.PluginReply.TheVariants.{Null}
use Rattle.session_step.specs.PluginStep.{telling}
use Rattle.session_step.specs.declared.acted.Acted.{Acted}
use Rattle.session_step.specs.declared.acted.Acted.TheVariants.{Taken}
use Rattle.session_step.specs.declared.next.NextViews.TheVariants.{Same}
use Rattle.session_step.specs.PluginEffects.{IsActed}
use Rattle.session_step.proofs.PluginActLemmas.{IsActed-told}
use Rattle.session_step.proofs.acted.told.Goals as goal

pub returns-clause-acted : goal.returns-clause-acted
returns-clause-acted c = λ held views stands.
    let with_front : FrontNews → Acted = λ front. Taken (record { reply = Null; front = front; grown = None; next = Same; news = c.new-3.result }) in
    let At : Acted → Type 0 = λ acted. IsActed held None (telling views (reply_of c.args.reply)) acted in
    subst At (sym (c.taken.ensures ∙ ap with_front c.front_told.ensures))
    (IsActed-told held views c.args.reply c.new.result c.new-2.result c.new-3.result c.new.ensures c.new-2.ensures c.new-3.ensures stands)
