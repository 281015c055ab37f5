use Rattle.std.proofs.Common.{◌≡◌, true, List, refl, ap, sym, ◌∙◌, arith, ◌<◌, ◌-◌, length, subst}
use Rattle.std.specs.Prelude.{◌^◌, nat_le}
use Rattle.std.specs.Coded.{le_prop}
use Rattle.std.proofs.Math.Bool.{Bool-set}
use Rattle.std.proofs.Math.Logic.{∥∥₁_elim, ∥∥₁_map}
use Rattle.session_step.specs.PluginEffects.{HasPlace}
use Rattle.xi_plain.specs.declared.entry.Entry.{Entry}
use Rattle.session_step.specs.declared.opened.Opened.{Opened}
use Rattle.session_step.specs.declared.terms.Terms.{Terms}
use Rattle.session_step.specs.Session.{session_of, views_of}
use Rattle.session_step.specs.Views.{AreOfPlugins, MayBeAsked, Stands}
use Rattle.core_session.specs.Kept.{reply_if, reserved}
use Rattle.core_session.specs.Shelves.{asks_as}
use Rattle.front_wire.specs.Front.{command_of}
use Rattle.core_session.specs.InnerSession.{IsPrepared}
use Rattle.core_session.proofs.KeptLemmas.{AreOfPlugins-prop, MayBeAsked-prop, stage_serves}
use Rattle.core_session.proofs.HoldLemmas.{unasked_by}
use Rattle.core_session.proofs.PrepareLemmas.{prepared_from}
use Rattle.core_session.proofs.SessionLemmas.{none_within, terms-session_of}
use Rattle.core_session.proofs.ShownLemmas.{MayBeAsked-stands}
use Rattle.core_session.proofs.AfterLemmas.{apart_of, opened_of}
use Rattle.xi_plain.specs.declared.ask.Ask.TheVariants.{FrontLine}
use Rattle.core_session.proofs.GrownLemmas.{IsGrown-put}
use Rattle.core_session.specs.GrownLaws.{IsGrown-stays}
use Rattle.core_session.proofs.NotedLemmas.{IsNoted-known}
use Rattle.core_session.proofs.ServesLemmas.{serves_front, serves_lacking, made_if, never}
use Rattle.xi_plain.specs.Reply.{has_entry}
use Rattle.core_session.proofs.session.Core.take_line.Goals as goal

-- a journal has fewer entries than a list can have
pub prepare-requires-clause-asked : goal.prepare-requires-clause-asked
prepare-requires-clause-asked g c =
    let core = c.args.self.now in
    let journal = core.journal in
    let few : length journal.items < 2 ^ 63 - 1 = omega (arith, journal.ok.0, journal.ok.1, journal.small, core.room, ap reserved c.requires) in
    subst MayBeAsked (sym c.as_slice.ensures)
    (∥∥₁_elim core.kept (MayBeAsked-prop core.views) (λ kept. MayBeAsked-stands c.args.self.now.terms core.views journal.items kept.stands.views few))

pub prepare-requires-clause-ended : goal.prepare-requires-clause-ended
prepare-requires-clause-ended g c =
    let core = c.args.self.now in
    let session = session_of core.terms core.journal.items in
    let Of : Terms → Type 0 = λ terms. AreOfPlugins terms.plugins session.ended in
    subst (AreOfPlugins core.terms.plugins) (sym c.as_slice-2.ensures)
    (∥∥₁_elim core.kept (AreOfPlugins-prop core.terms.plugins core.ended) (λ kept.
    subst (AreOfPlugins core.terms.plugins) (sym kept.stands.ended)
    (subst Of (sym (terms-session_of core.terms core.journal.items)) kept.stands.plugins)))

pub prepare-requires-clause-few : goal.prepare-requires-clause-few
prepare-requires-clause-few g c =
    let core = c.args.self.now in
    let journal = core.journal in
    ∥∥₁_elim core.kept le_prop (λ kept.
    omega (arith, journal.ok.0, journal.ok.1, journal.small, core.room, ap reserved c.requires, kept.stands.opened, opened_of c.args.self.now.terms journal.items))

pub prepare-requires-clause-tab : goal.prepare-requires-clause-tab
prepare-requires-clause-tab g c = ∥∥₁_elim c.args.self.now.kept le_prop (λ kept. kept.stands.tab)

pub put-sent-requires-clause-kind : goal.put-sent-requires-clause-kind
put-sent-requires-clause-kind g c =
    let core = c.args.self.now in
    let journal = core.journal in
    let few : length journal.items < 2 ^ 63 = omega (arith, journal.ok.0, journal.ok.1, journal.small, core.room, ap reserved c.requires) in
    let session = session_of core.terms journal.items in
    let Held : List Opened → Type 0 = λ held. Stands held session.views in
    let entry = c.in-Ok.ensures.entry in
    record {
      caller = ap (λ (entry : Entry). nat_le entry.caller core.terms.plugins) entry ∙ none_within core.terms.plugins;
      asks = c.in-Ok.ensures.asks;
      note =
          ∥∥₁_elim core.kept (Bool-set _ _) (λ kept.
          (c.in-Ok.ensures.noted session (subst Held (sym c.as_slice.ensures) kept.stands.views, apart_of core.terms journal.items few)).kind);
      sent = ap (λ (entry : Entry). entry.sent) entry;
    }

pub put-sent-requires-clause-asked : goal.put-sent-requires-clause-asked
put-sent-requires-clause-asked g c =
    let core = c.args.self.now in
    let journal = core.journal in
    let few : length journal.items < 2 ^ 63 = omega (arith, journal.ok.0, journal.ok.1, journal.small, core.room, ap reserved c.requires) in
    let session = session_of core.terms journal.items in
    let Held : List Opened → Type 0 = λ held. Stands held session.views in
    let made = c.in-Ok.made in
    let At : List Entry → Type 0 = λ entries. asks_as (views_of core.terms entries) made.entry.command.act made.entry.shelf ≡ true in
    subst At (sym c.reserve.ensures.journal)
    (∥∥₁_elim core.kept (Bool-set _ _) (λ kept.
    (c.in-Ok.ensures.noted session (subst Held (sym c.as_slice.ensures) kept.stands.views, apart_of core.terms journal.items few)).asked))

pub put-sent-requires-clause-place : goal.put-sent-requires-clause-place
put-sent-requires-clause-place g c =
    let Held : List Opened → Type 0 = λ held. HasPlace held c.in-Ok.made.next in
    subst Held c.as_slice.ensures c.in-Ok.ensures.place

pub put-sent-requires-clause-prepared : goal.put-sent-requires-clause-prepared
put-sent-requires-clause-prepared g c =
    let core = c.args.self.now in
    let journal = core.journal in
    let few : length journal.items < 2 ^ 63 = omega (arith, journal.ok.0, journal.ok.1, journal.small, core.room, ap reserved c.requires) in
    let session = session_of core.terms journal.items in
    let made = c.in-Ok.made in
    let At : List Entry → Type 0 = λ entries. ∥ IsPrepared core.views core.styles core.ended (session_of core.terms entries) made ∥₁ in
    subst At (sym c.reserve.ensures.journal)
    (∥∥₁_map core.kept (λ kept.
    prepared_from core.views _ core.styles core.ended _ core.opened core.config session made c.as_slice.ensures c.as_slice-2.ensures
    (c.in-Ok.ensures.prepared session core.styles (apart_of core.terms journal.items few) (terms-session_of core.terms journal.items)) kept.stands))

pub returns-then-is_err-clause-serves : goal.returns-then-is_err-clause-serves
returns-then-is_err-clause-serves g c =
    let core = c.args.self.now in
    serves_lacking core.terms core.journal.items 0 (FrontLine c.args.line.now) _ (stage_serves core.journal.items (sym c.requires ∙ core.staged)) (λ is. cc)
    c.reserve.ensures.journal

pub returns-then-is_err-clause-grown : goal.returns-then-is_err-clause-grown
returns-then-is_err-clause-grown g c =
    IsGrown-stays _ _ refl c.reserve.ensures.journal refl (record { files = refl; stays = omega arith })

pub returns-in-Err-clause-serves : goal.returns-in-Err-clause-serves
returns-in-Err-clause-serves g c =
    let core = c.args.self.now in
    serves_lacking core.terms core.journal.items 0 (FrontLine c.args.line.now) _ (stage_serves core.journal.items (sym c.requires ∙ core.staged)) (λ is. cc)
    c.reserve.ensures.journal

pub returns-in-Err-clause-grown : goal.returns-in-Err-clause-grown
returns-in-Err-clause-grown g c = IsGrown-stays _ _ refl c.reserve.ensures.journal refl c.in-Err.ensures.kept

pub returns-in-Ok-clause-serves : goal.returns-in-Ok-clause-serves
returns-in-Ok-clause-serves g c =
    let core = c.args.self.now in
    serves_front core.terms core.journal.items c.args.line.now _ _ c.in-Ok.made.entry _ (stage_serves core.journal.items (sym c.requires ∙ core.staged))
    c.in-Ok.ensures.entry (c.reply_if.ensures ∙ ap (λ answer. reply_if answer c.put-sent.result) c.new.ensures)
    c.put-sent.ensures.puts_in.journal c.reserve.ensures.journal

pub returns-in-Ok-clause-grown : goal.returns-in-Ok-clause-grown
returns-in-Ok-clause-grown g c =
    let core = c.args.self.now in
    let journal = core.journal in
    let few : length journal.items < 2 ^ 63 = omega (arith, journal.ok.0, journal.ok.1, journal.small, core.room, ap reserved c.requires) in
    let session = session_of core.terms journal.items in
    let Held : List Opened → Type 0 = λ held. Stands held session.views in
    let noted =
    IsNoted-known _ _ _ _ _
    (∥∥₁_map core.kept (λ kept. c.in-Ok.ensures.noted session (subst Held (sym c.as_slice.ensures) kept.stands.views, apart_of core.terms journal.items few))) in
    IsGrown-put _ _ _ _ refl c.reserve.ensures.journal refl noted c.put-sent.ensures.puts_in

pub returns-in-Ok-clause-sink : goal.returns-in-Ok-clause-sink
returns-in-Ok-clause-sink g c = λ is.
    never (has_entry c.reply_if.result) is (ap has_entry c.reply_if.ensures ∙ made_if c.new.result c.put-sent.result)

pub returns-in-Ok-clause-shelf : goal.returns-in-Ok-clause-shelf
returns-in-Ok-clause-shelf g c = λ none.
    let core = c.args.self.now in
    let journal = core.journal in
    let few : length journal.items < 2 ^ 63 = omega (arith, journal.ok.0, journal.ok.1, journal.small, core.room) in
    c.put-sent.ensures.shelf ∙
    c.prepare.ensures.unasked
    (unasked_by core.terms journal.items core.views c.as_slice.result.now (command_of c.args.line.now).act c.as_slice.ensures few
    (∥∥₁_map core.kept (λ kept. kept.stands.views)) none)

pub returns-in-Err-clause-shelf : goal.returns-in-Err-clause-shelf
returns-in-Err-clause-shelf g c = λ none.
    let core = c.args.self.now in
    let journal = core.journal in
    let few : length journal.items < 2 ^ 63 = omega (arith, journal.ok.0, journal.ok.1, journal.small, core.room) in
    c.prepare.ensures.unasked
    (unasked_by core.terms journal.items core.views c.as_slice.result.now (command_of c.args.line.now).act c.as_slice.ensures few
    (∥∥₁_map core.kept (λ kept. kept.stands.views)) none)
