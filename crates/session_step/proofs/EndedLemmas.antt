-- A document that is opened after sessions of plugins have ended: so they have in it.
use Rattle.std.proofs.Common.{◌≡◌, ℕ, zero, suc, ◌+◌, ◌<◌, ◌≤◌, List, [], ◌∷◌, length, drop, get_or, Some, refl, ap, sym, ◌∙◌, subst, arith}
use Rattle.std.proofs.lemmas.List.{drop_all, length-replicate}
use Rattle.plain_edits.specs.History.{head}
use Rattle.xi_plain.specs.declared.config.Config.{Config}
use Rattle.doc_text.specs.Collecting.{ended_text}
use Rattle.doc_text.specs.Writing.{Writing}
use Rattle.doc_text.proofs.ForCallers.{head-text, part-collected}
use Rattle.doc_session.specs.declared.event.Event.TheVariants.{Ended}
use Rattle.doc_session.specs.Document.{Document, loaded_document}
use Rattle.doc_session.specs.InMemory.{Doc}
use Rattle.doc_session.specs.Stands.{DocStandsFor}
use Rattle.doc_session.specs.Step.{event_step}
use Rattle.session_step.specs.declared.terms.Terms.{Terms}
use Rattle.session_step.specs.Session.{opened_document, without_sessions}
use Rattle.session_step.specs.Views.{AreOfPlugins, HasSession, TakesEvents}
use Rattle.session_step.proofs.OpenLemmas.{drop-item}
use Rattle.session_step.proofs.SessionsLemmas.{sessions-event_step}

-- the end of a session is no revision
head-ended : (document : Document) (caller : ℕ) → head (event_step document (Ended caller)).document.text.history ≡ head document.text.history
head-ended document caller = part-collected (λ (text : Writing). head text.history) (ended_text document.text caller) (λ found. refl)

-- WHAT THE ENDS OF SESSIONS LEAVE: the revisions, the view, and what the front end has of it
pub head-without_sessions : (callers : List ℕ) (document : Document) → head (without_sessions callers document).text.history ≡ head document.text.history
head-without_sessions [] document = refl
head-without_sessions (caller ∷ callers) document =
    head-without_sessions callers (event_step document (Ended caller)).document ∙ head-ended document caller

pub view-without_sessions : (callers : List ℕ) (document : Document) → (without_sessions callers document).view ≡ document.view
view-without_sessions [] document = refl
view-without_sessions (caller ∷ callers) document = view-without_sessions callers (event_step document (Ended caller)).document

pub screen-without_sessions : (callers : List ℕ) (document : Document) → (without_sessions callers document).screen ≡ document.screen
screen-without_sessions [] document = refl
screen-without_sessions (caller ∷ callers) document = screen-without_sessions callers (event_step document (Ended caller)).document

pub sessions-without_sessions : (callers : List ℕ) (document : Document) →
    length (without_sessions callers document).text.sessions ≡ length document.text.sessions
sessions-without_sessions [] document = refl
sessions-without_sessions (caller ∷ callers) document =
    sessions-without_sessions callers (event_step document (Ended caller)).document ∙ sessions-event_step document (Ended caller)

-- ---- the sessions end one after the other

-- the first i have ended, and the rest will: the document stands for a plain one that becomes the whole, has so many sessions and no revision
pub record IsEndingTo (terms : Terms) (ended : List ℕ) (config : Config) (text : List ℕ) (i : ℕ) (doc : Doc) : Type 0 where
  pub plain : Document
  pub stands : DocStandsFor doc plain
  pub becomes : without_sessions (drop i ended) plain ≡ opened_document terms ended config text
  pub sessions : length plain.text.sessions ≡ terms.plugins
  pub none : head plain.text.history ≡ 0

pub IsEndingTo-none : (terms : Terms) (ended : List ℕ) (config : Config) (text : List ℕ) (doc : Doc) →
    DocStandsFor doc (loaded_document text terms.plugins terms.limit config) → IsEndingTo terms ended config text 0 doc
IsEndingTo-none terms ended config text doc stands = record {
  plain = loaded_document text terms.plugins terms.limit config;
  stands = stands;
  becomes = refl;
  sessions = length-replicate terms.plugins (Some 0);
  none = refl;
}

pub IsEndingTo-takes : (terms : Terms) (ended : List ℕ) (config : Config) (text : List ℕ) (i : ℕ) (doc : Doc) →
    IsEndingTo terms ended config text i doc → TakesEvents doc
IsEndingTo-takes terms ended config text i doc is = omega (arith, is.none, head-text doc.text is.plain.text is.stands.text.parts)

of_plugins_at : (plugins : ℕ) (callers : List ℕ) (i none : ℕ) → AreOfPlugins plugins callers → i < length callers →
    (1 ≤ get_or callers i none) × (get_or callers i none ≤ plugins)
of_plugins_at plugins [] i none of below = absurd (omega (arith, below))
of_plugins_at plugins (caller ∷ callers) zero none of below = of.0
of_plugins_at plugins (caller ∷ callers) (suc i) none of below = of_plugins_at plugins callers i none of.1 (omega (arith, below))

pub IsEndingTo-session : (terms : Terms) (ended : List ℕ) (config : Config) (text : List ℕ) (i : ℕ) (doc : Doc) (none x : ℕ) →
    IsEndingTo terms ended config text i doc → AreOfPlugins terms.plugins ended → i < length ended → x ≡ get_or ended i none → HasSession x doc
IsEndingTo-session terms ended config text i doc none x is of below this =
    let own = of_plugins_at terms.plugins ended i none of below in
    (omega (arith, own.0, this), omega (arith, own.1, this, is.sessions, ap length is.stands.text.parts.sessions))

pub IsEndingTo-next : (terms : Terms) (ended : List ℕ) (config : Config) (text : List ℕ) (i : ℕ) (doc next : Doc) (none x : ℕ) →
    IsEndingTo terms ended config text i doc → i < length ended → x ≡ get_or ended i none →
    ((plain : Document) → DocStandsFor doc plain → DocStandsFor next (event_step plain (Ended x)).document) →
    IsEndingTo terms ended config text (i + 1) next
IsEndingTo-next terms ended config text i doc next none x is below this steps = record {
  plain = (event_step is.plain (Ended x)).document;
  stands = steps is.plain is.stands;
  becomes = ap (λ callers. without_sessions callers is.plain) (sym (drop-item ended i none x below this)) ∙ is.becomes;
  sessions = sessions-event_step is.plain (Ended x) ∙ is.sessions;
  none = head-ended is.plain x ∙ is.none;
}

pub IsEndingTo-all : (terms : Terms) (ended : List ℕ) (config : Config) (text : List ℕ) (i : ℕ) (doc : Doc) →
    IsEndingTo terms ended config text i doc → length ended ≤ i → DocStandsFor doc (opened_document terms ended config text)
IsEndingTo-all terms ended config text i doc is end =
    subst (DocStandsFor doc) (ap (λ callers. without_sessions callers is.plain) (sym (drop_all i ended end)) ∙ is.becomes) is.stands
