-- All views are laid out and edited as their session is.
use Rattle.std.proofs.Common.{◌≡◌, ℕ, Bool, true, false, List, [], ◌∷◌, refl, ◌∙◌}
use Rattle.std.specs.List.{AllByRecursion}
use Rattle.xi_plain.specs.declared.command.Act.{Act}
use Rattle.xi_plain.specs.declared.config.Config.{Config}
use Rattle.xi_plain.specs.declared.entry.Entry.{Entry}
use Rattle.doc_session.specs.declared.event.Event.{Event}
use Rattle.doc_session.specs.declared.event.Event.TheVariants.{Config as Configured, Ended}
use Rattle.doc_session.specs.Document.{Document, loaded_document}
use Rattle.doc_session.specs.Step.{config_after as event_config, event_step}
use Rattle.doc_session.proofs.ForCallers.{config-event_step}
use Rattle.session_step.specs.Session.{OpenView, Session, first_session, given_by, is_front, session_after, step, step_by, stepped}
use Rattle.session_step.specs.PluginStep.{ended_step, plugin_outcome}
use Rattle.session_step.proofs.ForCallers.{all_found, all_with_document, by_plugin, is_by_plugin, view-without_sessions}
use Rattle.session_laws.proofs.FrontLemmas.{all_outcome, is_of_front}
use Rattle.session_laws.specs.Laws.{AllAreConfigured}

-- a document is laid out and edited so, and so are views
abbrev IsConfigured : Config → Document → Type 0
IsConfigured config document = document.view.config ≡ config

abbrev AreConfigured : Config → List OpenView → Type 0
AreConfigured config views = AllByRecursion (λ (view : OpenView). IsConfigured config view.document) views

-- events that tell none leave the configuration
front_same : (config : Config) (event : Event) → is_of_front event ≡ true → event_config config event ≡ config
front_same config (Configured next) is = absurd cc
front_same config event is = refl

plugin_same : (config : Config) (event : Event) → is_by_plugin event ≡ true → event_config config event ≡ config
plugin_same config (Configured next) is = absurd cc
plugin_same config event is = refl

configured_plugin : (session : Session) (caller : ℕ) (asks : Act) → AreConfigured session.config session.views →
    AreConfigured session.config (plugin_outcome session.views session.styles caller asks).views
configured_plugin session caller asks all =
    by_plugin session.views session.styles caller (λ after updates. AreConfigured session.config after) all (ends session.views all)
    (λ id own event found is.
    all_with_document (IsConfigured session.config) own.id (event_step own.document event).document session.views
    (config-event_step own.document event ∙ plugin_same own.document.view.config event is ∙
    all_found (IsConfigured session.config) session.views id own found all) all) asks
  where
    ends : (views : List OpenView) → AreConfigured session.config views → AreConfigured session.config (stepped (ended_step caller) views)
    ends [] all = tt
    ends (view ∷ views) all = (config-event_step view.document (Ended caller) ∙ all.0, ends views all.1)

configured_entry : (session : Session) (entry : Entry) → AreConfigured session.config session.views →
    AreConfigured (step session entry).config (step session entry).views
configured_entry session entry all = by (is_front entry)
  where
    by : (front : Bool) → AreConfigured (step_by front session entry).config (step_by front session entry).views
    by true =
        all_outcome IsConfigured
        (λ config document event is here. config-event_step document event ∙ front_same document.view.config event is ∙ here)
        (λ config next document here. config-event_step document (Configured next)) session
        (λ text. rw (view-without_sessions session.ended (loaded_document text session.terms.plugins session.terms.limit session.config)) refl)
        entry.command.act (given_by entry.shelf) all
    by false = configured_plugin session entry.caller entry.command.act all

configured_after : (session : Session) (entries : List Entry) → AreConfigured session.config session.views →
    AreConfigured (session_after session entries).config (session_after session entries).views
configured_after session [] all = all
configured_after session (entry ∷ entries) all = configured_after (step session entry) entries (configured_entry session entry all)

pub all_are_configured : AllAreConfigured
all_are_configured terms journal = configured_after (first_session terms) journal tt
