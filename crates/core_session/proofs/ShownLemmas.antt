-- One more entry is shown, where those before it are.
use Rattle.session_step.specs.declared.terms.Terms.{Terms}
use Rattle.std.proofs.Common.{◌≡◌, ℕ, ◌+◌, ◌-◌, ◌<◌, ◌≤◌, length, arith, Bool, true, false, List, [], ◌∷◌, ◌++◌, Option, Some, refl, ap, sym, ◌∙◌, subst, append-nil, inl, inr}
use Rattle.std.specs.Prelude.{◌^◌}
use Rattle.std.specs.Arc.{arc_value}
use Rattle.std.specs.List.{AllByRecursion}
use Rattle.json_rpc.specs.Line.{line_of, IsLineOf}
use Rattle.xi_plain.specs.declared.entry.Entry.{Entry}
use Rattle.xi_plain.specs.declared.command.Act.{Act}
use Rattle.plain_text.specs.declared.run.Run.{Run}
use Rattle.view_update.specs.declared.note.ViewUpdate.{ViewUpdate}
use Rattle.doc_session.specs.Document.{loaded_document, no_request}
use Rattle.doc_session.specs.ScreenOf.{IsUpToDate}
use Rattle.doc_session.specs.Step.{EventStep}
use Rattle.entry_lines.specs.Piece.{AreLinesOf, UpdatesReadBack}
use Rattle.session_step.specs.declared.given.Given.{Given}
use Rattle.session_step.specs.declared.opened.Opened.{Opened}
use Rattle.session_step.specs.Accepted.{Accepts}
use Rattle.session_step.specs.PluginStep.{plugin_outcome}
use Rattle.session_step.specs.Session.{OpenView, HaveRevisions, Session, first_session, session_of, views_of, given_by, is_front, opened_after, outcome, next_view, stepped, told, messages_by, step, step_by, written, piece_of}
use Rattle.core_session.specs.Shows.{updates_in, rebuilt_from, rebuilt, IsShown, AreShown, NotesSendTo, requested, last_requested, Shows}
use Rattle.doc_text.proofs.ForCallers.{head-text}
use Rattle.entry_lines.specs.ViewId.{view_id_of}
use Rattle.core_session.specs.Kept.{AreRebuilt, IsOpen, IsShowing}
use Rattle.session_step.specs.Views.{IsNotGiven, Stands, HasApart, MayBeAsked}
use Rattle.core_session.proofs.RevisionLemmas.{revisions_few}
use Rattle.session_step.proofs.ForCallers.{AreNumbered, apart-numbered, next_not_given, not_given-before, not_given-others, screen-without_sessions}
use Rattle.core_session.proofs.AfterLemmas.{all_base, apart_of, last_of, numbered_base, numbered_of, opened_few, opened_more, opened_of}
use Rattle.core_session.proofs.StepLemmas.{IsBase, by_outcome, keep_screens}
use Rattle.core_session.proofs.PluginStepLemmas.{by_plugin_steps}
use Rattle.core_session.proofs.SessionLemmas.{session_of-push, views_of-push, messages_of, messages_of-push, updates_by, written-messages, IsOpen-push}
use Rattle.core_session.proofs.ShowsLemmas.{updates_of, updates_in-lines, updates_of-append, rebuilt_from-append, AreLines, note_list, updates_of-outcome, updates_of-plugin, SplitsPush, splits_push, Passes, passes_told, Settle, settles, Sends, sends_entry, AreUpToDate, entry_up_to_date}

-- ---- one more entry is shown

-- the updates in what is written are those in the pieces
pub updates_in-push : (terms : Terms) (journal : List Entry) (entry : Entry) →
    updates_in (written (first_session terms) (journal ++ entry ∷ [])) ≡
    updates_in (written (first_session terms) journal) ++ updates_in (piece_of (session_of terms journal) entry)
updates_in-push terms journal entry =
    let said = messages_by (is_front entry) (session_of terms journal) entry in
    ap updates_in (written-messages terms (journal ++ entry ∷ [])) ∙ updates_in-lines (messages_of terms (journal ++ entry ∷ [])) ∙
    ap updates_of (messages_of-push terms journal entry) ∙ updates_of-append (messages_of terms journal) said ∙
    ap (λ xs. xs ++ updates_of said) (sym (ap updates_in (written-messages terms journal) ∙ updates_in-lines (messages_of terms journal))) ∙
    ap (λ ys. updates_in (written (first_session terms) journal) ++ ys) (sym (updates_in-lines said))

-- what was written shows each of the views, and an id that was not given an empty screen
pub record ScreensAre (bytes : List ℕ) (opened : ℕ) (views : List OpenView) : Type 0 where
  pub kept : AreRebuilt bytes views
  pub fresh : (id : List ℕ) → IsNotGiven opened id → rebuilt id bytes ≡ Some []

screens_of : (terms : Terms) (journal : List Entry) → IsShowing terms journal → ScreensAre (written (first_session terms) journal) (session_of terms journal).opened (views_of terms journal)
screens_of terms journal showing = record { kept = showing.screens; fresh = showing.fresh }

-- the next view has an empty screen, whatever sessions ended
screen-next : (session : Session) (text : List ℕ) →
    [] ≡ (next_view session.terms session.ended session.config session.opened text).document.screen
screen-next session text =
    sym (screen-without_sessions session.ended (loaded_document text session.terms.plugins session.terms.limit session.config))

-- the views whose steps an outcome is are rebuilt, the next one too
rebuilt_base : (bytes : List ℕ) (session : Session) (opened : ℕ) (base : List OpenView) → session.opened + 1 < 2 ^ 64 → IsBase session opened base →
    ScreensAre bytes session.opened session.views → AreRebuilt bytes base
rebuilt_base bytes session opened base small is are =
    all_base (λ (view : OpenView). rebuilt view.id bytes ≡ Some view.document.screen) session opened base is
    (λ text. are.fresh (view_id_of (session.opened + 1)) (next_not_given session.opened small) ∙ ap Some (screen-next session text)) are.kept

-- and by the notes of their steps they are rebuilt after these
rebuilt_steps : (before after : List ℕ) (notes : List (Option ViewUpdate)) (steps : OpenView → EventStep) (views : List OpenView) →
    updates_in after ≡ updates_in before ++ notes → AreRebuilt before views → Settle notes steps views → AreRebuilt after (stepped steps views)
unfolding Settle
rebuilt_steps before after notes steps [] is was settle = tt
rebuilt_steps before after notes steps (view ∷ views) is was settle = (
  ap (rebuilt_from view.id (Some [])) is ∙ rebuilt_from-append view.id (Some []) (updates_in before) notes ∙
      ap (λ screen. rebuilt_from view.id screen notes) was.0 ∙ settle.0,
  rebuilt_steps before after notes steps views is was.1 settle.1,
)

rebuilt_same : (id before after : List ℕ) (notes : List (Option ViewUpdate)) → updates_in after ≡ updates_in before ++ notes → Passes id notes →
    rebuilt id before ≡ Some [] → rebuilt id after ≡ Some []
unfolding Passes
rebuilt_same id before after notes is passes was =
    ap (rebuilt_from id (Some [])) is ∙ rebuilt_from-append id (Some []) (updates_in before) notes ∙
    ap (λ screen. rebuilt_from id screen notes) was ∙ passes []

unchanged : (before after : List ℕ) (views : List OpenView) → updates_in after ≡ updates_in before ++ [] → AreRebuilt before views → AreRebuilt after views
unchanged before after [] is was = tt
unchanged before after (view ∷ views) is was =
    (ap (rebuilt_from view.id (Some [])) (is ∙ append-nil (updates_in before)) ∙ was.0, unchanged before after views is was.1)

-- what is shown after an outcome, where its updates were written
screens_after : (session : Session) (act : Act) (gave : Given) (before after : List ℕ) → session.opened + 1 < 2 ^ 64 → AreNumbered 0 session.opened session.views →
    updates_in after ≡ updates_in before ++ note_list (outcome session act gave).updates → ScreensAre before session.opened session.views →
    ScreensAre after (opened_after session.opened act gave) (outcome session act gave).views
unfolding note_list
screens_after session act gave before after small are is was =
    by_outcome session
    (λ requests opened done.
    session.opened ≤ opened → opened < 2 ^ 64 → updates_in after ≡ updates_in before ++ note_list done.updates → ScreensAre after opened done.views)
    (λ requests opened base reply scroll each based keep. λ more few told_is.
    let numbered = numbered_base session opened base based are in
    let apart = apart-numbered 0 opened base few numbered in
    record {
      kept = rebuilt_steps before after (note_list (told each base)) each base told_is (rebuilt_base before session opened base small based was) (settles requests each base apart (keep_screens requests each base keep));
      fresh = λ id free.
          rebuilt_same id before after (note_list (told each base)) told_is (passes_told id each base (not_given-others id 0 opened base free numbered))
          (was.fresh id (not_given-before session.opened opened id more free));
    })
    (λ requests none. λ more few told_is.
    record {
      kept = unchanged before after session.views told_is was.kept;
      fresh = λ id free. ap (rebuilt_from id (Some [])) (told_is ∙ append-nil (updates_in before)) ∙ was.fresh id free;
    })
    act gave (apart-numbered 0 session.opened session.views (omega (arith, small)) are) (opened_more session.opened act gave)
    (omega (arith, small, opened_few session.opened act gave)) is

-- and after an entry
screens_plugin : (session : Session) (caller : ℕ) (asks : Act) (before after : List ℕ) → session.opened + 1 < 2 ^ 64 →
    AreNumbered 0 session.opened session.views →
    updates_in after ≡ updates_in before ++ note_list (plugin_outcome session.views session.styles caller asks).updates →
    ScreensAre before session.opened session.views → ScreensAre after session.opened (plugin_outcome session.views session.styles caller asks).views
screens_plugin session caller asks before after small are is was =
    by_plugin_steps session.views session.styles caller (λ id. no_request) (λ id. refl)
    (λ next updates. updates_in after ≡ updates_in before ++ note_list updates → ScreensAre after session.opened next)
    (λ each keep shown. λ told_is.
    record {
      kept =
          rebuilt_steps before after (note_list (told each session.views)) each session.views told_is was.kept
          (settles (λ id. no_request) each session.views apart keep);
      fresh = λ id free.
          rebuilt_same id before after (note_list (told each session.views)) told_is
          (passes_told id each session.views (not_given-others id 0 session.opened session.views free are)) (was.fresh id free);
    }) apart asks is
  where
    apart : HasApart session.views
    apart = apart-numbered 0 session.opened session.views (omega (arith, small)) are

screens_entry : (session : Session) (entry : Entry) (before after : List ℕ) → session.opened + 1 < 2 ^ 64 → AreNumbered 0 session.opened session.views →
    updates_in after ≡ updates_in before ++ note_list (updates_by (is_front entry) session entry) → ScreensAre before session.opened session.views →
    ScreensAre after (step session entry).opened (step session entry).views
screens_entry session entry before after small are is was = by (is_front entry) is
  where
    by : (front : Bool) → updates_in after ≡ updates_in before ++ note_list (updates_by front session entry) →
        ScreensAre after (step_by front session entry).opened (step_by front session entry).views
    by true told_is = screens_after session entry.command.act (given_by entry.shelf) before after small are told_is was
    by false told_is = screens_plugin session entry.caller entry.command.act before after small are told_is was

rebuilt_push : (terms : Terms) (journal : List Entry) (entry : Entry) → length journal < 2 ^ 63 → IsShowing terms journal →
    updates_in (piece_of (session_of terms journal) entry) ≡ note_list (updates_by (is_front entry) (session_of terms journal) entry) →
    ScreensAre (written (first_session terms) (journal ++ entry ∷ [])) (session_of terms (journal ++ entry ∷ [])).opened (views_of terms (journal ++ entry ∷ []))
rebuilt_push terms journal entry small showing said =
    let session = session_of terms journal in
    let At : Session → Type 0 = λ next. ScreensAre (written (first_session terms) (journal ++ entry ∷ [])) next.opened next.views in
    subst At (sym (session_of-push terms journal entry))
    (screens_entry session entry (written (first_session terms) journal) (written (first_session terms) (journal ++ entry ∷ []))
    (omega (arith, small, opened_of terms journal)) (numbered_of terms journal)
    (updates_in-push terms journal entry ∙ ap (λ notes. updates_in (written (first_session terms) journal) ++ notes) said) (screens_of terms journal showing))

-- views are shown where their documents' screens show them
AreShown-up_to_date : (requests : List ℕ → Run) (views : List OpenView) (bytes : List ℕ) → AreRebuilt bytes views → AreUpToDate requests views →
    AreShown requests views bytes
unfolding AreUpToDate
AreShown-up_to_date requests [] bytes screens told = tt
AreShown-up_to_date requests (view ∷ views) bytes screens told =
    (subst (IsShown (requests view.id) view.document) (sym screens.0) told.0, AreShown-up_to_date requests views bytes screens.1 told.1)

up_to_date-AreShown : (requests : List ℕ → Run) (views : List OpenView) (bytes : List ℕ) → AreRebuilt bytes views → AreShown requests views bytes →
    AreUpToDate requests views
unfolding AreUpToDate
up_to_date-AreShown requests [] bytes screens shown = tt
up_to_date-AreShown requests (view ∷ views) bytes screens shown =
    (subst (IsShown (requests view.id) view.document) screens.0 shown.0, up_to_date-AreShown requests views bytes screens.1 shown.1)

-- the documents that a session serves take events, where they have fewer revisions than there are numbers
MayBeAsked-few : (held : List Opened) (n : ℕ) (views : List OpenView) → Stands held views → HaveRevisions n views → n < 2 ^ 63 - 1 → MayBeAsked held
MayBeAsked-few [] n views stands few small = tt
MayBeAsked-few (kept ∷ held) n [] stands few small = absurd stands
MayBeAsked-few (kept ∷ held) n (view ∷ views) stands few small =
    let plain = view.document in
    let is = stands.0.stands in (
      (omega (arith, few.0, small, head-text (arc_value kept.doc).text plain.text is.text.parts), ∣ (plain, is) ∣₁),
      MayBeAsked-few held n views stands.1 few.1 small,
    )

pub MayBeAsked-stands : (terms : Terms) (held : List Opened) (journal : List Entry) → Stands held (views_of terms journal) → length journal < 2 ^ 63 - 1 → MayBeAsked held
MayBeAsked-stands terms held journal stands small = MayBeAsked-few held (length journal) (views_of terms journal) stands (revisions_few terms journal) small

-- the last of the entries is the one that was added
last_requested-push : (journal : List Entry) (entry : Entry) (id : List ℕ) →
    last_requested (journal ++ entry ∷ []) id ≡ requested entry.command.act id
last_requested-push [] entry id = refl
last_requested-push (first ∷ []) entry id = refl
last_requested-push (first ∷ next ∷ journal) entry id = last_requested-push (next ∷ journal) entry id

AreUpToDate-same : (requests others : List ℕ → Run) (views : List OpenView) → ((id : List ℕ) → requests id ≡ others id) → AreUpToDate requests views →
    AreUpToDate others views
unfolding AreUpToDate
AreUpToDate-same requests others [] same told = tt
AreUpToDate-same requests others (view ∷ views) same told =
    let At : Run → Type 0 = λ request. IsUpToDate request view.document in
    (subst At (same view.id) told.0, AreUpToDate-same requests others views same told.1)

-- what a journal shows after the entry that was added
shown_push : (terms : Terms) (journal : List Entry) (entry : Entry) → length journal < 2 ^ 63 → Accepts (session_of terms journal) entry →
    IsShowing terms journal →
    AreRebuilt (written (first_session terms) (journal ++ entry ∷ [])) (views_of terms (journal ++ entry ∷ [])) →
    AreShown (last_requested (journal ++ entry ∷ [])) (views_of terms (journal ++ entry ∷ [])) (written (first_session terms) (journal ++ entry ∷ []))
shown_push terms journal entry small accepts showing screens =
    let session = session_of terms journal in
    let before : AreUpToDate (last_requested journal) session.views =
    up_to_date-AreShown (last_requested journal) session.views (written (first_session terms) journal) showing.screens
    (showing.shows.screens journal [] (sym (append-nil journal))) in
    let after : AreUpToDate (requested entry.command.act) (step session entry).views =
    entry_up_to_date session entry (apart_of terms journal small) (last_of terms journal small) accepts (last_requested journal) before in
    let put = subst (AreUpToDate (requested entry.command.act)) (sym (views_of-push terms journal entry)) after in
    AreShown-up_to_date (last_requested (journal ++ entry ∷ [])) (views_of terms (journal ++ entry ∷ [])) (written (first_session terms) (journal ++ entry ∷ []))
    screens
    (AreUpToDate-same (requested entry.command.act) (last_requested (journal ++ entry ∷ [])) (views_of terms (journal ++ entry ∷ []))
    (λ id. sym (last_requested-push journal entry id)) put)

screens_push : (terms : Terms) (journal : List Entry) (entry : Entry) → length journal < 2 ^ 63 → Accepts (session_of terms journal) entry →
    IsShowing terms journal →
    AreRebuilt (written (first_session terms) (journal ++ entry ∷ [])) (views_of terms (journal ++ entry ∷ [])) →
    (front back : List Entry) → SplitsPush journal entry front back → AreShown (last_requested front) (views_of terms front) (written (first_session terms) front)
unfolding SplitsPush
screens_push terms journal entry small accepts showing screens front back (inl (none, all)) =
    let At : List Entry → Type 0 = λ entries. AreShown (last_requested entries) (views_of terms entries) (written (first_session terms) entries) in
    subst At (sym all) (shown_push terms journal entry small accepts showing screens)
screens_push terms journal entry small accepts showing screens front back (inr (rest, is, last)) = showing.shows.screens front rest is

-- the entry at hand is the one that was added, or one before
sends_push : (terms : Terms) (journal : List Entry) (entry : Entry) → length journal < 2 ^ 63 → Accepts (session_of terms journal) entry →
    Shows terms journal (written (first_session terms) journal) →
    updates_in (piece_of (session_of terms journal) entry) ≡ note_list (updates_by (is_front entry) (session_of terms journal) entry) →
    (front : List Entry) (last : Entry) (back : List Entry) → SplitsPush journal entry front (last ∷ back) →
    NotesSendTo (requested last.command.act) (views_of terms (front ++ last ∷ [])) (updates_in (piece_of (session_of terms front) last))
unfolding SplitsPush Sends
sends_push terms journal entry small accepts each said front last back (inl (none, all)) = absurd cc
sends_push terms journal entry small accepts each said front last back (inr ([], is, only)) =
    let At : List Entry → Entry → Type 0 =
    λ entries e.
    NotesSendTo (requested e.command.act) (views_of terms (entries ++ e ∷ [])) (updates_in (piece_of (session_of terms entries) e)) in
    let added : last ≡ entry = cc in
    let whole : journal ≡ front = is ∙ append-nil front in
    let To : List OpenView → List (Option ViewUpdate) → Type 0 = NotesSendTo (requested entry.command.act) in
    let session = session_of terms journal in
    let Of : List OpenView → Type 0 = λ views. To views (updates_in (piece_of session entry)) in
    let Notes : List (Option ViewUpdate) → Type 0 = λ notes. To (step session entry).views notes in
    let here : At journal entry =
    subst Of (sym (views_of-push terms journal entry)) (subst Notes (sym said) (sends_entry session entry (omega (arith, small, opened_of terms journal)) (numbered_of terms journal) accepts)) in
    let Last : Entry → Type 0 = λ e. At front e in
    let Before : List Entry → Type 0 = λ entries. At entries entry in
    subst Last (sym added) (subst Before whole here)
sends_push terms journal entry small accepts each said front last back (inr (r ∷ rest, is, only)) =
    let same : r ≡ last = cc in
    let At : Entry → Type 0 =
    λ e. NotesSendTo (requested e.command.act) (views_of terms (front ++ e ∷ [])) (updates_in (piece_of (session_of terms front) e)) in
    subst At same (each.sends front r rest is)

-- an entry's piece says its updates
says_updates : (session : Session) (entry : Entry) → AreLines (messages_by (is_front entry) session entry) →
    UpdatesReadBack (updates_by (is_front entry) session entry) →
    updates_in (piece_of session entry) ≡ note_list (updates_by (is_front entry) session entry)
unfolding AreLines
says_updates session entry lines reads = updates_in-lines (messages_by (is_front entry) session entry) ∙ by (is_front entry) lines reads
  where
    by : (front : Bool) → AllByRecursion (λ m. IsLineOf m (line_of m)) (messages_by front session entry) → UpdatesReadBack (updates_by front session entry) →
        updates_of (messages_by front session entry) ≡ note_list (updates_by front session entry)
    by true each back = updates_of-outcome entry.command.id (outcome session entry.command.act (given_by entry.shelf)) each back
    by false each back =
        updates_of-plugin entry.command.id (plugin_outcome session.views session.styles entry.caller entry.command.act) each back

-- what one more entry of a served session comes to, which that accepts
pub shows_push : (terms : Terms) (journal : List Entry) (entry : Entry) → length journal < 2 ^ 63 → Accepts (session_of terms journal) entry →
    IsShowing terms journal → AreLines (messages_by (is_front entry) (session_of terms journal) entry) →
    UpdatesReadBack (updates_by (is_front entry) (session_of terms journal) entry) → IsShowing terms (journal ++ entry ∷ [])
shows_push terms journal entry small accepts showing lines reads =
    let session = session_of terms journal in
    let said : updates_in (piece_of session entry) ≡ note_list (updates_by (is_front entry) session entry) =
    says_updates session entry lines reads in
    let screens = rebuilt_push terms journal entry small showing said in
    record {
      shows = record {
        pieces = refl;
        screens = λ front back split. screens_push terms journal entry small accepts showing screens.kept front back (splits_push journal front back entry split);
        sends = λ front last back split.
            sends_push terms journal entry small accepts showing.shows said front last back (splits_push journal front (last ∷ back) entry split);
      };
      screens = screens.kept;
      fresh = screens.fresh;
    }

-- an entry that was prepared is served
pub serves_push : (terms : Terms) (journal : List Entry) (entry : Entry) (piece : List ℕ) → length journal < 2 ^ 63 →
    AllByRecursion (IsOpen terms.plugins) journal → IsShowing terms journal → IsOpen terms.plugins entry → Accepts (session_of terms journal) entry →
    AreLinesOf (messages_by (is_front entry) (session_of terms journal) entry) piece →
    UpdatesReadBack (updates_by (is_front entry) (session_of terms journal) entry) →
    AllByRecursion (IsOpen terms.plugins) (journal ++ entry ∷ []) × IsShowing terms (journal ++ entry ∷ [])
unfolding AreLines
serves_push terms journal entry piece small each showing opens accepts lines reads = (
  IsOpen-push terms.plugins journal entry each opens,
  shows_push terms journal entry small accepts showing lines.each reads,
)
