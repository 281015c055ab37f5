-- What plugins are told of what one of them asks.
use Rattle.std.proofs.Common.{◌≡◌, ℕ, ◌≤◌, Bool, true, false, List, [], length, Option, Some, None, refl, ap, sym, subst, arith}
use Rattle.std.specs.Prelude.{◌==◌, if◌then◌else◌}
use Rattle.std.specs.Str.{encode_utf8_all}
use Rattle.std.proofs.lemmas.Bool.Decides.{nat_tests}
use Rattle.std.proofs.lemmas.List.{length_push}
use Rattle.plain_edits.specs.declared.style.Style.{Style}
use Rattle.xi_plain.specs.declared.command.Act.{Act}
use Rattle.xi_plain.specs.declared.command.Act.TheVariants as act
use Rattle.style_numbers.specs.Numbers.{new_styles, spans_with_ids}
use Rattle.view_update.specs.declared.note.NumberedStyle.{NumberedStyle}
use Rattle.rev_engine.specs.declared.edit.Edit.{Edit as Given}
use Rattle.doc_text.specs.Notices.{notice_of}
use Rattle.doc_session.specs.declared.event.Event.{Event}
use Rattle.doc_session.specs.declared.event.Event.TheVariants.{Ack, Count, Edit, Read, Spans}
use Rattle.doc_session.specs.Document.{Document}
use Rattle.doc_session.specs.Step.{event_step, given_document}
use Rattle.session_step.specs.News.{news_by}
use Rattle.session_step.specs.PluginStep.{edit_by, event_outcome, plugin_outcome}
use Rattle.session_step.specs.Session.{OpenView, Session, is_front, named_view, session_of}
use Rattle.session_step.specs.ViewSteps.{news_for}
use Rattle.session_step.proofs.ForCallers.{all_found}
use Rattle.core_session.proofs.ForCallers.{sessions_of}
use Rattle.session_laws.specs.Laws.{EditsAreTold, TellsEdit, TellsNext}

-- an edit of a document that has plugins
tells-edit : (view : OpenView) (caller : ℕ) (edit : Given) (named : Option ℕ) → 1 ≤ length view.document.text.sessions →
    TellsNext view caller (news_for view.id (event_step view.document (Edit caller edit named)).notice)
tells-edit view caller edit named some =
    let text = view.document.text in
    let after = (given_document view.document caller edit named).text.history in
    let made = notice_of text.history after caller in
    let none : (length text.sessions == 0) ≡ false = grind (arith, nat_tests, some) in
    record {
      notice = record made { view = view.id };
      alone = ap (λ untold. news_for view.id (if untold then None else Some made)) none;
      of_view = refl;
      by_author = refl;
      next = length_push text.history.revisions _;
    }

-- what makes no revision tells nothing
tells-none : (fresh : List NumberedStyle) (views : List OpenView) (found : Option OpenView) (event : Event) →
    ((view : OpenView) → (event_step view.document event).notice ≡ None) → (event_outcome fresh views found event).news ≡ []
tells-none fresh views None event none = refl
tells-none fresh views (Some view) event none = ap (news_for view.id) (none view)

tells-found : (fresh : List NumberedStyle) (views : List OpenView) (found : Option OpenView) (own : OpenView) (caller : ℕ) (edit : Given) (named : Option ℕ) →
    found ≡ Some own → 1 ≤ length own.document.text.sessions → TellsNext own caller (event_outcome fresh views found (Edit caller edit named)).news
tells-found fresh views found own caller edit named is some =
    let At : Option OpenView → Type 0 = λ some_view. TellsNext own caller (event_outcome fresh views some_view (Edit caller edit named)).news in
    subst At (sym is) (tells-edit own caller edit named some)

tells : (views : List OpenView) (styles : List Style) (caller : ℕ) (asks : Act) →
    ((name : List ℕ) (view : OpenView) → named_view views name ≡ Some view → 1 ≤ length view.document.text.sessions) →
    TellsEdit views caller asks (plugin_outcome views styles caller asks).news
tells views styles caller (act.PluginEdit name rev delta priority after_cursor author named) some =
    λ view is.
    tells-found (new_styles styles []) views (named_view views name) view caller (edit_by caller rev delta priority after_cursor) named is (some name view is)
tells views styles caller (act.Alert msg) some = refl
tells views styles caller act.Ended some = refl
tells views styles caller (act.GetData name rev start max) some =
    tells-none (new_styles styles []) views (named_view views name) (Read caller rev start max) (λ view. refl)
tells views styles caller (act.UpdateSpans name rev start len spans) some =
    tells-none (new_styles styles spans) views (named_view views name) (Spans caller rev start len (spans_with_ids styles spans)) (λ view. refl)
tells views styles caller (act.LineCount name) some = tells-none (new_styles styles []) views (named_view views name) (Count caller) (λ view. refl)
tells views styles caller (act.Ack name rev) some = tells-none (new_styles styles []) views (named_view views name) (Ack caller rev) (λ view. refl)
tells views styles caller asks some = refl

pub edits_are_told : EditsAreTold
edits_are_told terms journal entry plugins other = by (is_front entry) other
  where
    session : Session
    session = session_of terms journal

    some : (name : List ℕ) (view : OpenView) → named_view session.views name ≡ Some view → 1 ≤ length view.document.text.sessions
    some name view is =
        let many : length view.document.text.sessions ≡ terms.plugins =
        all_found (λ (document : Document). length document.text.sessions ≡ terms.plugins) session.views (encode_utf8_all name) view is
        (sessions_of terms journal) in
        omega (arith, many, plugins)

    by : (front : Bool) → front ≡ false → TellsEdit session.views entry.caller entry.command.act (news_by front session entry)
    by true is = absurd cc
    by false is = tells session.views session.styles entry.caller entry.command.act some
