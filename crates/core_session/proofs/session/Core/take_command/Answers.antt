use Rattle.std.proofs.Common.{◌≡◌, None, List, refl, ap, sym, ◌∙◌, arith, ◌<◌, ◌-◌, length, subst}
use Rattle.std.specs.Prelude.{◌^◌}
use Rattle.std.proofs.Math.Bool.{Bool-set}
use Rattle.std.proofs.Math.Logic.{∥∥₁_elim, ∥∥₁_map}
use Rattle.plain_edits.specs.declared.style.Style.{Style}
use Rattle.xi_plain.specs.declared.command.Command.{Command}
use Rattle.xi_plain.specs.declared.entry.Entry.{Entry}
use Rattle.core_session.specs.PluginMade.{IsPluginMade, IsPluginPrepared, HasCommand, IsRefusal}
use Rattle.core_session.specs.declared.plugin_made.PluginMade.{PluginMade}
use Rattle.session_step.specs.Accepted.{is_of_plugin}
use Rattle.session_step.specs.PluginStep.{plugin_refusal}
use Rattle.session_step.specs.Session.{session_of, views_of}
use Rattle.session_step.specs.Views.{AreThere, HaveSessions, MayBeAsked, Stands}
use Rattle.session_step.specs.declared.opened.Opened.{Opened}
use Rattle.core_session.specs.Core.{journal_of}
use Rattle.core_session.specs.Kept.{reserved}
use Rattle.core_session.proofs.KeptLemmas.{MayBeAsked-prop}
use Rattle.core_session.proofs.PluginLemmas.{HasPlace-prop, HaveSessions-prop, HaveSessions-stands, taken_from}
use Rattle.core_session.proofs.RevisionLemmas.{sessions_of}
use Rattle.core_session.proofs.ShownLemmas.{MayBeAsked-stands}
use Rattle.core_session.proofs.AfterLemmas.{apart_of}
use Rattle.core_session.specs.GrownLaws.{IsGrown-onward, IsGrown-stays}
use Rattle.core_session.specs.InnerObject.{ServesCommand}
use Rattle.core_session.proofs.ServesLemmas.{command_lacking, command_refused, never}
use Rattle.core_session.specs.Serves.{refusal_in, outcome_in}
use Rattle.xi_plain.specs.Reply.{has_entry}
use Rattle.core_session.proofs.session.Core.take_command.Goals as goal

pub plugin_command-requires-clause-asked : goal.plugin_command-requires-clause-asked
plugin_command-requires-clause-asked g c =
    let core = c.args.self.now in
    let journal = core.journal in
    let few : length journal.items < 2 ^ 63 - 1 = omega (arith, journal.ok.0, journal.ok.1, journal.small, core.room, ap reserved c.requires.serves) in
    subst MayBeAsked (sym c.as_slice.ensures)
    (∥∥₁_elim core.kept (MayBeAsked-prop core.views) (λ kept. MayBeAsked-stands core.terms core.views journal.items kept.stands.views few))

pub plugin_command-requires-clause-caller : goal.plugin_command-requires-clause-caller
plugin_command-requires-clause-caller g c =
    let core = c.args.self.now in
    let journal = core.journal.items in
    let caller = c.args.caller in
    subst (HaveSessions caller) (sym c.as_slice.ensures)
    (∥∥₁_elim core.kept (HaveSessions-prop caller core.views) (λ kept.
    HaveSessions-stands core.terms.plugins caller core.views (views_of core.terms journal) kept.stands.views (sessions_of core.terms journal) c.requires.caller.0
    c.requires.caller.1))

-- ---- it is refused

-- ---- it is taken

pub put_of_plugin-requires-clause-place : goal.put_of_plugin-requires-clause-place
put_of_plugin-requires-clause-place g c =
    let core = c.args.self.now in
    let journal = core.journal in
    let few : length journal.items < 2 ^ 63 = omega (arith, journal.ok.0, journal.ok.1, journal.small, core.room, ap reserved c.requires.serves) in
    let session = session_of core.terms journal.items in
    let Came : PluginMade → Type 0 =
    λ made. IsPluginMade c.as_slice.result.now session.views core.styles c.as_slice-2.result.now c.args.caller c.args.command made in
    let made = c.in-Ok-Taken.made in
    ∥∥₁_elim core.kept (HasPlace-prop core.views made.next) (λ kept.
    (taken_from core.views c.as_slice.result.now core.styles core.ended c.as_slice-2.result.now session c.args.caller c.args.command made c.as_slice.ensures
    c.as_slice-2.ensures kept.stands.styles (kept.stands.views, apart_of core.terms journal.items few) (λ there. subst Came c.in-Ok-Taken.field-0-is (c.in-Ok-Taken.ensures.made session.views there))).1.place)

pub put_of_plugin-requires-clause-asks : goal.put_of_plugin-requires-clause-asks
put_of_plugin-requires-clause-asks g c =
    let core = c.args.self.now in
    let journal = core.journal in
    let few : length journal.items < 2 ^ 63 = omega (arith, journal.ok.0, journal.ok.1, journal.small, core.room, ap reserved c.requires.serves) in
    let session = session_of core.terms journal.items in
    let Came : PluginMade → Type 0 =
    λ made. IsPluginMade c.as_slice.result.now session.views core.styles c.as_slice-2.result.now c.args.caller c.args.command made in
    let made = c.in-Ok-Taken.made in
    ∥∥₁_elim core.kept (Bool-set _ _) (λ kept.
    let Here : List Opened → Type 0 = λ held. AreThere held session.views in
    let Of : List Style → Type 0 = λ styles. plugin_refusal session.views styles c.args.caller c.args.command.act ≡ None in
    let came = subst Came c.in-Ok-Taken.field-0-is
    (c.in-Ok-Taken.ensures.made session.views (subst Here (sym c.as_slice.ensures) (kept.stands.views, apart_of core.terms journal.items few))) in
    ap (λ (command : Command). is_of_plugin command.act) came.1.command_is ∙ c.requires.asks (subst Of kept.stands.styles came.0))

pub put_of_plugin-requires-clause-prepared : goal.put_of_plugin-requires-clause-prepared
put_of_plugin-requires-clause-prepared g c =
    let core = c.args.self.now in
    let journal = core.journal in
    let few : length journal.items < 2 ^ 63 = omega (arith, journal.ok.0, journal.ok.1, journal.small, core.room, ap reserved c.requires.serves) in
    let session = session_of core.terms journal.items in
    let Came : PluginMade → Type 0 =
    λ made. IsPluginMade c.as_slice.result.now session.views core.styles c.as_slice-2.result.now c.args.caller c.args.command made in
    let made = c.in-Ok-Taken.made in
    let At : List Entry → Type 0 = λ entries. ∥ (refusal_in (session_of core.terms entries) c.args.caller made.command ≡ None) ×
    IsPluginPrepared core.views core.styles core.ended c.args.caller made.command (outcome_in (session_of core.terms entries) c.args.caller made.command) made ∥₁ in
    subst At (sym c.reserve.ensures.journal)
    (∥∥₁_map core.kept (λ kept.
    taken_from core.views c.as_slice.result.now core.styles core.ended c.as_slice-2.result.now session c.args.caller c.args.command made c.as_slice.ensures
    c.as_slice-2.ensures kept.stands.styles (kept.stands.views, apart_of core.terms journal.items few) (λ there. subst Came c.in-Ok-Taken.field-0-is (c.in-Ok-Taken.ensures.made session.views there))))

-- ---- what it comes to in all, and what that says of sink and shelf

pub returns-then-is_err-clause-serves : goal.returns-then-is_err-clause-serves
returns-then-is_err-clause-serves g c =
    command_lacking c.args.self.now.terms c.args.self.now.journal.items c.args.caller c.args.command _ c.reserve.ensures.journal

pub returns-then-is_err-clause-grown : goal.returns-then-is_err-clause-grown
returns-then-is_err-clause-grown g c = IsGrown-stays _ _ refl c.reserve.ensures.journal refl (record { files = refl; stays = omega arith })

pub returns-in-Err-clause-serves : goal.returns-in-Err-clause-serves
returns-in-Err-clause-serves g c =
    command_lacking c.args.self.now.terms c.args.self.now.journal.items c.args.caller c.args.command _ c.reserve.ensures.journal

pub returns-in-Err-clause-grown : goal.returns-in-Err-clause-grown
returns-in-Err-clause-grown g c = IsGrown-stays _ _ refl c.reserve.ensures.journal refl (record { files = refl; stays = omega arith })

pub returns-in-Ok-Refused-clause-serves : goal.returns-in-Ok-Refused-clause-serves
returns-in-Ok-Refused-clause-serves g c =
    let core = c.args.self.now in
    let journal = core.journal in
    let few : length journal.items < 2 ^ 63 = omega (arith, journal.ok.0, journal.ok.1, journal.small, core.room, ap reserved c.requires.serves) in
    let session = session_of core.terms journal.items in
    let Held : List Opened → Type 0 = λ held. Stands held session.views in
    let Came : PluginMade → Type 0 =
    λ made. IsPluginMade c.as_slice.result.now session.views core.styles c.as_slice-2.result.now c.args.caller c.args.command made in
    let Named : List Style → Type 0 =
    λ styles. IsRefusal c.args.command.id (plugin_refusal session.views styles c.args.caller c.args.command.act) c.in-Ok-Refused.line in
    command_refused core.terms journal.items c.args.caller c.args.command _ c.in-Ok-Refused.line c.reserve.ensures.journal
    (∥∥₁_map core.kept (λ kept.
    subst Named kept.stands.styles (subst Came c.in-Ok-Refused.field-0-is
    (c.in-Ok-Refused.ensures.made session.views (subst Held (sym c.as_slice.ensures) kept.stands.views, apart_of core.terms journal.items few)))))

pub returns-in-Ok-Refused-clause-grown : goal.returns-in-Ok-Refused-clause-grown
returns-in-Ok-Refused-clause-grown g c = IsGrown-stays _ _ refl c.reserve.ensures.journal refl (record { files = refl; stays = omega arith })

pub returns-in-Ok-Taken-clause-serves : goal.returns-in-Ok-Taken-clause-serves
returns-in-Ok-Taken-clause-serves g c =
    let core = c.args.self.now in
    let Of : PluginMade → Type 0 = λ made. HasCommand c.args.command made in
    let At : Command → List Entry → Type 0 = λ command before.
    ServesCommand core.terms before c.args.caller command c.put_of_plugin.result (journal_of c.put_of_plugin.new.self) in
    let Here : Command → Type 0 = λ command. At command core.journal.items in
    subst Here (subst Of c.in-Ok-Taken.field-0-is c.in-Ok-Taken.ensures.command)
    (subst (At c.in-Ok-Taken.made.command) c.reserve.ensures.journal c.put_of_plugin.ensures.serves)

pub returns-in-Ok-Taken-clause-grown : goal.returns-in-Ok-Taken-clause-grown
returns-in-Ok-Taken-clause-grown g c =
    IsGrown-onward _ _ _ (IsGrown-stays _ _ refl c.reserve.ensures.journal refl (record { files = refl; stays = omega arith })) c.put_of_plugin.ensures.grown

pub returns-in-Ok-Taken-clause-sink : goal.returns-in-Ok-Taken-clause-sink
returns-in-Ok-Taken-clause-sink g c = λ is. never (has_entry c.put_of_plugin.result) is c.put_of_plugin.ensures.entry
