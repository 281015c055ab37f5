-- In each view exactly the sessions of plugins have ended that ended; and where all have, nothing waits to be collected.
use Rattle.std.proofs.Common.{◌≡◌, ℕ, zero, suc, ◌-◌, ◌<◌, ◌≤◌, Bool, true, false, List, [], ◌∷◌, ◌++◌, length, Option, Some, None, refl, ap, sym, ◌∙◌, subst, arith, ◌≢◌}
use Rattle.std.specs.Prelude.{◌==◌, ◌&&◌, ◌||◌, ◌↔◌, if◌then◌else◌, replicate, slice_index_or, slice_set}
use Rattle.std.specs.List.{AllByRecursion}
use Rattle.std.specs.Str.{encode_utf8_all}
use Rattle.std.proofs.Math.Bool.{and-false, or-false, or_assoc, or_comm}
use Rattle.std.proofs.lemmas.Bool.Decides.{nat_tests}
use Rattle.std.proofs.lemmas.List.Folds.{list_any-append}
use Rattle.plain_text.specs.Numbers.{has}
use Rattle.xi_plain.specs.declared.command.Act.{Act}
use Rattle.xi_plain.specs.declared.command.Act.TheVariants as act
use Rattle.xi_plain.specs.declared.command.Act.TheVariants.{Ended as Over}
use Rattle.xi_plain.specs.declared.entry.Entry.{Entry}
use Rattle.doc_text.specs.Collecting.{AreEnded, HasNoneLeft, acknowledged_by, session_of as session_in, with_session}
use Rattle.doc_text.proofs.ForCallers.{none-retired}
use Rattle.doc_session.specs.declared.event.Event.{Event}
use Rattle.doc_session.specs.declared.event.Event.TheVariants.{Ack, Config as Configured, Count, Edit, Ended, Read, Spans}
use Rattle.doc_session.specs.Document.{Document, loaded_document}
use Rattle.doc_session.specs.Step.{event_step}
use Rattle.entry_lines.proofs.ForCallers.{all_append}
use Rattle.style_numbers.specs.Numbers.{new_styles, spans_with_ids}
use Rattle.view_update.specs.declared.note.NumberedStyle.{NumberedStyle}
use Rattle.session_step.specs.declared.given.Given.{Given}
use Rattle.session_step.specs.declared.opened.Opened.{Opened}
use Rattle.session_step.specs.declared.terms.Terms.{Terms}
use Rattle.session_step.specs.PluginStep.{edit_by, ended_step, event_outcome, plugin_outcome}
use Rattle.session_step.specs.Session.{OpenView, Session, ended_after, ended_with, first_session, given_by, is_front, named_view, outcome, session_after, session_of, step, step_by, stepped, views_of, without_sessions}
use Rattle.session_step.specs.Views.{Stands}
use Rattle.session_step.proofs.ForCallers.{all_found, all_with_document, sessions_by, sessions_by-event_step}
use Rattle.core_session.proofs.ForCallers.{sessions_of}
use Rattle.session_laws.proofs.FrontLemmas.{all_outcome, is_of_front}
use Rattle.session_laws.specs.Laws.{EndsAreEverywhere, NoneIsOpen, NothingWaits, has_ended, is_end}

-- ---- sessions as a list

is_gone : Option ℕ → Bool
is_gone None = true
is_gone (Some rev) = false

none-gone : (session : Option ℕ) → is_gone session ≡ true → session ≡ None
unfolding is_gone
none-gone None is = refl
none-gone (Some rev) is = absurd cc

-- whether the session of a plugin has ended
gone_in : List (Option ℕ) → ℕ → Bool
gone_in sessions caller = is_gone (session_in sessions caller)

none-here : (sessions : List (Option ℕ)) (i : ℕ) → slice_index_or (slice_set sessions i None) i None ≡ None
none-here [] i = refl
none-here (first ∷ sessions) zero = refl
none-here (first ∷ sessions) (suc i) = none-here sessions i

same-other : (sessions : List (Option ℕ)) (i j : ℕ) (session : Option ℕ) → (i ≡ j → ⊥) →
    slice_index_or (slice_set sessions i session) j None ≡ slice_index_or sessions j None
same-other [] i j session apart = refl
same-other (first ∷ sessions) zero zero session apart = absurd (apart refl)
same-other (first ∷ sessions) zero (suc j) session apart = refl
same-other (first ∷ sessions) (suc i) zero session apart = refl
same-other (first ∷ sessions) (suc i) (suc j) session apart = same-other sessions i j session (λ same. apart (ap suc same))

gone-acknowledged : (sessions : List (Option ℕ)) (i j rev : ℕ) →
    is_gone (slice_index_or (slice_set sessions i (acknowledged_by rev (slice_index_or sessions i None))) j None) ≡ is_gone (slice_index_or sessions j None)
unfolding is_gone
gone-acknowledged [] i j rev = refl
gone-acknowledged (None ∷ sessions) zero zero rev = refl
gone-acknowledged (Some last ∷ sessions) zero zero rev = refl
gone-acknowledged (first ∷ sessions) zero (suc j) rev = refl
gone-acknowledged (first ∷ sessions) (suc i) zero rev = refl
gone-acknowledged (first ∷ sessions) (suc i) (suc j) rev = gone-acknowledged sessions i j rev

gone-ended : (sessions : List (Option ℕ)) (other caller : ℕ) → 1 ≤ other → 1 ≤ caller →
    gone_in (with_session sessions other None) caller ≡ ((other == caller) || gone_in sessions caller)
unfolding gone_in is_gone
gone-ended sessions other caller from_one at_one = by (other == caller) refl
  where
    by : (same : Bool) → (other == caller) ≡ same → gone_in (with_session sessions other None) caller ≡ (same || gone_in sessions caller)
    by true is =
        let one : other - 1 ≡ caller - 1 = ap (λ n. n - 1) (grind (arith, nat_tests, is)) in
        ap (λ i. is_gone (slice_index_or (slice_set sessions i None) (caller - 1) None)) one ∙ ap is_gone (none-here sessions (caller - 1))
    by false is =
        let differ : other ≢ caller = grind (arith, nat_tests, is) in
        ap is_gone (same-other sessions (other - 1) (caller - 1) None (λ same. absurd (differ (omega (arith, same, from_one, at_one)))))

gone-none : (plugins i : ℕ) → i < plugins → is_gone (slice_index_or (replicate plugins (Some 0)) i None) ≡ false
unfolding is_gone
gone-none zero i below = absurd (omega (arith, below))
gone-none (suc plugins) zero below = refl
gone-none (suc plugins) (suc i) below = gone-none plugins i (omega (arith, below))

-- ---- lists of plugins

swapped : (a b c : Bool) → (a || (b || c)) ≡ ((b || a) || c)
swapped true true c = refl
swapped true false c = refl
swapped false true c = refl
swapped false false c = refl

last_first : (a b : Bool) → (a || (b || false)) ≡ (b || a)
last_first true true = refl
last_first true false = refl
last_first false true = refl
last_first false false = refl

has-with : (ended : List ℕ) (other caller : ℕ) → has (ended_with ended other) caller ≡ ((other == caller) || has ended caller)
has-with ended other caller = by (has ended other) refl
  where
    one : (same : Bool) → (other == caller) ≡ same → has ended other ≡ true → has ended caller ≡ (same || has ended caller)
    one true is there =
        let same : other ≡ caller = grind (arith, nat_tests, is) in
        ap (λ n. has ended n) (sym same) ∙ there
    one false is there = refl

    by : (there : Bool) → has ended other ≡ there → has (if there then ended else ended ++ other ∷ []) caller ≡ ((other == caller) || has ended caller)
    by true is = one (other == caller) refl is
    by false is = list_any-append (λ n. n == caller) ended (other ∷ []) ∙ last_first (has ended caller) (other == caller)

-- who ended by these entries is one of those who had ended, or an end of his stands among them
has-entry : (session : Session) (entry : Entry) (caller : ℕ) → 1 ≤ caller →
    has (step session entry).ended caller ≡ (has session.ended caller || (is_end entry.command.act && (entry.caller == caller)))
has-entry session entry caller at_one = by (is_front entry) refl
  where
    before : Bool
    before = has session.ended caller

    plugin : (asks : Act) → has (ended_after session.ended entry.caller asks) caller ≡ (before || (is_end asks && (entry.caller == caller)))
    plugin Over = has-with session.ended entry.caller caller ∙ or_comm (entry.caller == caller) before
    plugin asks = sym (or-false before)

    by : (front : Bool) → is_front entry ≡ front →
        has (step_by front session entry).ended caller ≡ (before || (is_end entry.command.act && (entry.caller == caller)))
    by true is =
        let other : (entry.caller == caller) ≡ false = grind (arith, nat_tests, is, at_one) in
        sym (or-false before) ∙ ap (λ b. before || b) (sym (and-false (is_end entry.command.act))) ∙
        ap (λ same. before || (is_end entry.command.act && same)) (sym other)
    by false is = plugin entry.command.act

has-entries : (session : Session) (entries : List Entry) (caller : ℕ) → 1 ≤ caller →
    has (session_after session entries).ended caller ≡ (has session.ended caller || has_ended entries caller)
has-entries session [] caller at_one = sym (or-false (has session.ended caller))
has-entries session (entry ∷ entries) caller at_one =
    has-entries (step session entry) entries caller at_one ∙ ap (λ b. b || has_ended entries caller) (has-entry session entry caller at_one) ∙
    or_assoc (has session.ended caller) (is_end entry.command.act && (entry.caller == caller)) (has_ended entries caller)

-- each of them is a plugin's number
abbrev AreCallers : List ℕ → Type 0
AreCallers callers = AllByRecursion (λ caller. 1 ≤ caller) callers

callers-after : (ended : List ℕ) (other : ℕ) (asks : Act) → 1 ≤ other → AreCallers ended → AreCallers (ended_after ended other asks)
callers-after ended other Over is are = by (has ended other)
  where
    by : (there : Bool) → AreCallers (if there then ended else ended ++ other ∷ [])
    by true = are
    by false = all_append (λ caller. 1 ≤ caller) ended (other ∷ []) are (is, tt)
callers-after ended other asks is are = are

-- ---- one plugin in each document

module _ (caller : ℕ) (at_one : 1 ≤ caller) where
  -- its session has ended in the document exactly where it is one of these
  abbrev Says : List ℕ → Document → Type 0
  Says ended document = gone_in document.text.sessions caller ≡ has ended caller

  keeps : (ended : List ℕ) (document : Document) (event : Event) → ((sessions : List (Option ℕ)) → gone_in (sessions_by event sessions) caller ≡ gone_in sessions caller) →
      Says ended document → Says ended (event_step document event).document
  keeps ended document event same says =
      ap (λ sessions. gone_in sessions caller) (sessions_by-event_step document event) ∙ same document.text.sessions ∙ says

  ends : (document : Document) (other : ℕ) → 1 ≤ other →
      gone_in (event_step document (Ended other)).document.text.sessions caller ≡ ((other == caller) || gone_in document.text.sessions caller)
  ends document other from_one =
      ap (λ sessions. gone_in sessions caller) (sessions_by-event_step document (Ended other)) ∙
      gone-ended document.text.sessions other caller from_one at_one

  -- a document that is opened late
  gone-without : (callers : List ℕ) (document : Document) → AreCallers callers →
      gone_in (without_sessions callers document).text.sessions caller ≡ (has callers caller || gone_in document.text.sessions caller)
  gone-without [] document are = refl
  gone-without (other ∷ callers) document are =
      let next = (event_step document (Ended other)).document in
      gone-without callers next are.1 ∙ ap (λ gone. has callers caller || gone) (ends document other are.0) ∙
      swapped (has callers caller) (other == caller) (gone_in document.text.sessions caller)

  says-loaded : (session : Session) → caller ≤ session.terms.plugins → AreCallers session.ended → (text : List ℕ) →
      Says session.ended (without_sessions session.ended (loaded_document text session.terms.plugins session.terms.limit session.config))
  unfolding gone_in
  says-loaded session within are text =
      gone-without session.ended (loaded_document text session.terms.plugins session.terms.limit session.config) are ∙
      ap (λ gone. has session.ended caller || gone) (gone-none session.terms.plugins (caller - 1) (omega (arith, at_one, within))) ∙
      or-false (has session.ended caller)

  abbrev AllSay : List ℕ → List OpenView → Type 0
  AllSay ended views = AllByRecursion (λ (view : OpenView). Says ended view.document) views

  front_same : (event : Event) → is_of_front event ≡ true → (sessions : List (Option ℕ)) → gone_in (sessions_by event sessions) caller ≡ gone_in sessions caller
  front_same (Ack other rev) is sessions = absurd cc
  front_same (Ended other) is sessions = absurd cc
  front_same event is sessions = refl

  say-front : (session : Session) (act : Act) (gave : Given) → caller ≤ session.terms.plugins → AreCallers session.ended → AllSay session.ended session.views →
      AllSay session.ended (outcome session act gave).views
  say-front session act gave within are all =
      all_outcome (λ config document. Says session.ended document)
      (λ config document event is says. keeps session.ended document event (front_same event is) says)
      (λ config next document says. keeps session.ended document (Configured next) (λ sessions. refl) says) session
      (says-loaded session within are) act gave all

  -- what a plugin asks of one view
  module _ (session : Session) (all : AllSay session.ended session.views) where
    in_view : (fresh : List NumberedStyle) (name : List ℕ) (event : Event) →
        ((sessions : List (Option ℕ)) → gone_in (sessions_by event sessions) caller ≡ gone_in sessions caller) →
        AllSay session.ended (event_outcome fresh session.views (named_view session.views name) event).views
    in_view fresh name event same = by (named_view session.views name) refl
      where
        by : (found : Option OpenView) → named_view session.views name ≡ found → AllSay session.ended (event_outcome fresh session.views found event).views
        by None is = all
        by (Some own) is =
            all_with_document (Says session.ended) own.id (event_step own.document event).document session.views
            (keeps session.ended own.document event same (all_found (Says session.ended) session.views (encode_utf8_all name) own is all)) all

    say-ended : (other : ℕ) → 1 ≤ other → (views : List OpenView) → AllSay session.ended views →
        AllSay (ended_with session.ended other) (stepped (ended_step other) views)
    say-ended other from_one [] each = tt
    say-ended other from_one (view ∷ views) each = (
      ends view.document other from_one ∙ ap (λ gone. (other == caller) || gone) each.0 ∙ sym (has-with session.ended other caller),
      say-ended other from_one views each.1,
    )

    acknowledged : (other rev : ℕ) (sessions : List (Option ℕ)) → gone_in (sessions_by (Ack other rev) sessions) caller ≡ gone_in sessions caller
    unfolding gone_in
    acknowledged other rev sessions = gone-acknowledged sessions (other - 1) (caller - 1) rev

    say-plugin : (other : ℕ) (asks : Act) → 1 ≤ other →
        AllSay (ended_after session.ended other asks) (plugin_outcome session.views session.styles other asks).views
    say-plugin other (act.Alert msg) from_one = all
    say-plugin other act.Ended from_one = say-ended other from_one session.views all
    say-plugin other (act.PluginEdit view rev delta priority after_cursor author named) from_one =
        in_view (new_styles session.styles []) view (Edit other (edit_by other rev delta priority after_cursor) named) (λ sessions. refl)
    say-plugin other (act.GetData view rev start max) from_one = in_view (new_styles session.styles []) view (Read other rev start max) (λ sessions. refl)
    say-plugin other (act.UpdateSpans view rev start len spans) from_one =
        in_view (new_styles session.styles spans) view (Spans other rev start len (spans_with_ids session.styles spans)) (λ sessions. refl)
    say-plugin other (act.LineCount view) from_one = in_view (new_styles session.styles []) view (Count other) (λ sessions. refl)
    say-plugin other (act.Ack view rev) from_one = in_view (new_styles session.styles []) view (Ack other rev) (acknowledged other rev)
    say-plugin other asks from_one = all

  -- after entries
  record IsKept (session : Session) : Type 0 where
    within : caller ≤ session.terms.plugins
    callers : AreCallers session.ended
    says : AllSay session.ended session.views

  kept-entry : (session : Session) (entry : Entry) → IsKept session → IsKept (step session entry)
  kept-entry session entry kept = by (is_front entry) refl
    where
      by : (front : Bool) → is_front entry ≡ front → IsKept (step_by front session entry)
      by true is = record {
        within = kept.within;
        callers = kept.callers;
        says = say-front session entry.command.act (given_by entry.shelf) kept.within kept.callers kept.says;
      }
      by false is =
          let from_one : 1 ≤ entry.caller = grind (arith, nat_tests, is) in
          record {
            within = kept.within;
            callers = callers-after session.ended entry.caller entry.command.act from_one kept.callers;
            says = say-plugin session kept.says entry.caller entry.command.act from_one;
          }

  kept-entries : (session : Session) (entries : List Entry) → IsKept session → IsKept (session_after session entries)
  kept-entries session [] kept = kept
  kept-entries session (entry ∷ entries) kept = kept-entries (step session entry) entries (kept-entry session entry kept)

  ends-document : (ended : List ℕ) (document : Document) → Says ended document → (session_in document.text.sessions caller ≡ None) ↔ (has ended caller ≡ true)
  unfolding gone_in is_gone
  ends-document ended document says = (
    (λ none. sym says ∙ ap is_gone none),
    λ there. none-gone (session_in document.text.sessions caller) (says ∙ there),
  )

  ends-views : (ended : List ℕ) (views : List OpenView) → AllSay ended views →
      AllByRecursion (λ (view : OpenView). (session_in view.document.text.sessions caller ≡ None) ↔ (has ended caller ≡ true)) views
  ends-views ended [] all = tt
  ends-views ended (view ∷ views) all = (ends-document ended view.document all.0, ends-views ended views all.1)

-- ---- the laws

pub ends_are_everywhere : EndsAreEverywhere
ends_are_everywhere terms journal caller from_one within =
    let first : IsKept caller from_one (first_session terms) = record { within = within; callers = tt; says = tt } in
    let session = session_of terms journal in
    let At : Bool → Type 0 = λ over.
    AllByRecursion (λ (view : OpenView). (session_in view.document.text.sessions caller ≡ None) ↔ (over ≡ true)) session.views in
    subst At (has-entries (first_session terms) journal caller from_one)
    (ends-views caller from_one session.ended session.views (kept-entries caller from_one (first_session terms) journal first).says)

-- where each of them is nothing, all have ended
all_ended : (sessions : List (Option ℕ)) → ((i : ℕ) → i < length sessions → slice_index_or sessions i None ≡ None) → AreEnded sessions
all_ended [] each = tt
all_ended (session ∷ sessions) each = (each 0 (omega arith), all_ended sessions (λ i below. each (suc i) (omega (arith, below))))

abbrev AllEnded : List OpenView → Type 0
AllEnded views = AllByRecursion (λ (view : OpenView). AreEnded view.document.text.sessions) views

all_views : (plugins : ℕ) (journal : List Entry) (views : List OpenView) → ((caller : ℕ) → 1 ≤ caller → caller ≤ plugins →
    AllByRecursion (λ (view : OpenView). (session_in view.document.text.sessions caller ≡ None) ↔ (has_ended journal caller ≡ true)) views) →
    AllByRecursion (λ (view : OpenView). length view.document.text.sessions ≡ plugins) views →
    ((caller : ℕ) → 1 ≤ caller → caller ≤ plugins → has_ended journal caller ≡ true) → AllEnded views
all_views plugins journal [] each many none = tt
all_views plugins journal (view ∷ views) each many none = (
  all_ended view.document.text.sessions
      (λ i below.
      let within : suc i ≤ plugins = omega (arith, below, many.0) in
      let same : i ≡ suc i - 1 = omega arith in
      ap (λ n. slice_index_or view.document.text.sessions n None) same ∙ (each (suc i) (omega arith) within).0.1 (none (suc i) (omega arith) within)),
  all_views plugins journal views (λ caller from_one within. (each caller from_one within).1) many.1 none,
)

none_waits : (terms : Terms) (journal : List Entry) (held : List Opened) (views : List OpenView) → Stands held views → (NoneIsOpen terms journal → AllEnded views) →
    AllByRecursion (λ (view : OpenView). HasNoneLeft view.document.text × (NoneIsOpen terms journal → view.document.text.groups.retired ≡ [])) views
none_waits terms journal [] [] stands ended = tt
none_waits terms journal [] (view ∷ views) stands ended = absurd stands
none_waits terms journal (kept ∷ held) [] stands ended = absurd stands
none_waits terms journal (kept ∷ held) (view ∷ views) stands ended =
    let is = stands.0.stands in (
      (is.text.none_left, λ none. none-retired _ view.document.text is.text (ended none).0),
      none_waits terms journal held views stands.1 (λ none. (ended none).1),
    )

pub nothing_waits : NothingWaits
nothing_waits held terms journal stands =
    none_waits terms journal held (views_of terms journal) stands
    (λ none.
    all_views terms.plugins journal (views_of terms journal) (ends_are_everywhere terms journal) (sessions_of terms journal) none)
