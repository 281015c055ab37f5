use Rattle.std.proofs.Common.{◌≡◌, ◌≤◌, true, sym, subst, ◌++◌, ◌∷◌, [], refl, ap, ◌∙◌}
use Rattle.std.proofs.Math.Logic.{∥∥₁_elim, ∥∥₁_map, ∥∥₁_prop}
use Rattle.xi_plain.specs.declared.entry.Entry.{Entry}
use Rattle.session_step.specs.declared.terms.Terms.{Terms}
use Rattle.session_step.specs.Session.{session_of, views_of}
use Rattle.core_session.specs.Kept.{IsOpen, plugin_entry, with_sent}
use Rattle.core_session.specs.Shelves.{asks_as}
use Rattle.core_session.proofs.PluginLemmas.{IsOpen-plugin, IsPrepared-plugin, asks_none}
use Rattle.core_session.proofs.EnterLemmas.{none_by}
use Rattle.core_session.proofs.SessionLemmas.{terms-session_of}
use Rattle.core_session.specs.Object.{state_of}
use Rattle.core_session.specs.InnerObject.{PutsIn}
use Rattle.core_session.proofs.GrownLemmas.{IsGrown-put, noted_by_plugin}
use Rattle.core_session.proofs.ServesLemmas.{command_put, made_if}
use Rattle.core_session.specs.Serves.{refusal_in}
use Rattle.xi_plain.specs.Reply.{has_entry}
use Rattle.core_session.proofs.session.Core.put_of_plugin.Goals as goal

pub put-sent-requires-clause-kind : goal.put-sent-requires-clause-kind
put-sent-requires-clause-kind g c =
    let plugins = c.args.self.now.terms.plugins in
    subst (IsOpen plugins) (sym c.plugin_entry.ensures) (IsOpen-plugin plugins c.args.caller c.args.made.command c.requires.caller.1 c.requires.asks)

pub put-sent-requires-clause-asked : goal.put-sent-requires-clause-asked
put-sent-requires-clause-asked g c =
    let core = c.args.self.now in
    let views = views_of core.terms core.journal.items in
    let At : Entry → Type 0 = λ entry. asks_as views entry.command.act entry.shelf ≡ true in
    subst At (sym c.plugin_entry.ensures) (asks_none views c.args.made.command.act c.requires.asks)

pub put-sent-requires-clause-prepared : goal.put-sent-requires-clause-prepared
put-sent-requires-clause-prepared g c =
    let core = c.args.self.now in
    let session = session_of core.terms core.journal.items in
    let Most : Terms → Type 0 = λ terms. c.args.caller ≤ terms.plugins in
    let most = subst Most (terms-session_of core.terms core.journal.items) c.requires.caller.1 in
    ∥∥₁_elim core.kept ∥∥₁_prop (λ kept.
    ∥∥₁_map c.requires.prepared (λ prepared.
    IsPrepared-plugin core.views core.styles core.ended core.opened core.config session c.args.caller c.args.made c.plugin_entry.result c.plugin_entry.ensures
    c.requires.caller.0 most kept.stands c.requires.asks prepared.0 prepared.1))

pub returns-clause-serves : goal.returns-clause-serves
returns-clause-serves g c =
    let core = c.args.self.now in
    let made = c.args.made in
    let caller = c.args.caller in
    let accepted = none_by (refusal_in (session_of core.terms core.journal.items) caller made.command) (∥∥₁_map c.requires.prepared (λ prepared. prepared.0)) in
    let told = ∥∥₁_map c.requires.prepared (λ prepared. prepared.1.answer) in
    command_put core.terms core.journal.items caller made.command _ made.answer c.put-sent.result accepted told c.reply_if.ensures
    (c.put-sent.ensures.puts_in.journal ∙ ap (λ (entry : Entry). core.journal.items ++ with_sent entry c.put-sent.result ∷ []) c.plugin_entry.ensures)

pub returns-clause-grown : goal.returns-clause-grown
returns-clause-grown g c =
    let core = c.args.self.now in
    let made = c.args.made in
    let entry = plugin_entry c.args.caller made.command true in
    let At : Entry → Type 0 =
    λ entry. PutsIn (state_of g.K.Sink.held g.K.Sink.faults g.K.Sink.failures g.H.Shelf.files g.H.Shelf.faults core)
    (state_of g.K.Sink.held g.K.Sink.faults g.K.Sink.failures g.H.Shelf.files g.H.Shelf.faults c.put-sent.new.self) (with_sent entry c.put-sent.result) in
    IsGrown-put _ _ _ (with_sent entry c.put-sent.result) refl refl refl (noted_by_plugin _ _ made.command.act c.requires.asks)
    (subst At c.plugin_entry.ensures c.put-sent.ensures.puts_in)

pub returns-clause-entry : goal.returns-clause-entry
returns-clause-entry g c = ap has_entry c.reply_if.ensures ∙ made_if c.args.made.answer c.put-sent.result
