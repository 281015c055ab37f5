-- What an entry tells the front end, and the screens of its views after it, whether it is the front end's or a plugin's.
use Rattle.std.proofs.Common.{◌≡◌, ℕ, ◌+◌, ◌<◌, arith, Bool, true, false, List, [], ◌∷◌, ◌++◌, map, Option, Some, None, refl, ap, sym, ◌∙◌, subst, ◌⊎◌, inl, inr}
use Rattle.std.specs.Prelude.{if◌then◌else◌, ◌^◌}
use Rattle.std.specs.Str.{bytes_eq}
use Rattle.std.specs.List.{filter_map, cons_option, AllByRecursion}
use Rattle.serde_json.specs.Data.{Data}
use Rattle.json_rpc.specs.Line.{line_of, IsLineOf}
use Rattle.json_rpc.proofs.ForCallers.{lines_of-lines}
use Rattle.xi_plain.specs.declared.command.Id.{Id}
use Rattle.xi_plain.specs.declared.entry.Entry.{Entry}
use Rattle.xi_plain.specs.declared.command.Act.{Act}
use Rattle.xi_plain.specs.declared.command.Act.TheVariants.{Edit}
use Rattle.plain_text.specs.declared.run.Run.{Run}
use Rattle.plain_screen.specs.declared.screen.Update.{Update}
use Rattle.plain_screen.specs.Screen.{Screen, screen_after}
use Rattle.view_update.specs.declared.note.ViewUpdate.{ViewUpdate}
use Rattle.view_update.specs.Reading.{line_update}
use Rattle.doc_session.specs.Document.{no_request}
use Rattle.doc_session.specs.ScreenOf.{IsUpToDate}
use Rattle.doc_session.specs.Step.{EventStep}
use Rattle.entry_lines.specs.Piece.{UpdatesReadBack, lines_written}
use Rattle.entry_lines.proofs.ForCallers.{all_append, pieces_say_their_updates}
use Rattle.session_step.specs.declared.given.Given.{Given}
use Rattle.session_step.specs.Accepted.{Accepts, AcceptsBy, is_of_plugin}
use Rattle.session_step.specs.PluginStep.{PluginOutcome, plugin_messages, plugin_outcome}
use Rattle.session_step.specs.Session.{OpenView, Session, view_of, Outcome, given_by, is_front, outcome, leaving, outcome_messages, stepped, told, updates_for, step, step_by}
use Rattle.core_session.specs.Shows.{updates_in, screen_with, rebuilt_from, SendsTo, NoteSendsTo, NotesSendTo, requested}
use Rattle.session_step.specs.Views.{HasApart}
use Rattle.session_step.proofs.ForCallers.{same_id, other_way, AreNumbered, apart-numbered}
use Rattle.core_session.proofs.AfterLemmas.{AreLastTold, last_base, numbered_base, opened_few}
use Rattle.core_session.proofs.StepLemmas.{IsBase, MakesScreen, UpdateWithin, KeepScreens, KeepsStep, KeepEach, NoneRequested, by_outcome, keep_screens}
use Rattle.core_session.proofs.PluginStepLemmas.{ShowEach, by_plugin_steps}
use Rattle.core_session.proofs.ScreenLemmas.{IsUpToDate-over}
use Rattle.core_session.proofs.SessionLemmas.{updates_by}

-- the updates that messages say
pub updates_of : List Data → List (Option ViewUpdate)
updates_of said = filter_map line_update (map line_of said)

-- the updates in the lines of messages
pub updates_in-lines : (said : List Data) → updates_in (lines_written said) ≡ updates_of said
unfolding updates_of
updates_in-lines said = ap (filter_map line_update) (lines_of-lines said)

-- the updates of messages after messages
cons_option-append : {X : Type 0} (x : Option X) (xs ys : List X) → cons_option x (xs ++ ys) ≡ cons_option x xs ++ ys
cons_option-append None xs ys = refl
cons_option-append (Some x) xs ys = refl

pub updates_of-append : (front back : List Data) → updates_of (front ++ back) ≡ updates_of front ++ updates_of back
unfolding updates_of
updates_of-append [] back = refl
updates_of-append (m ∷ front) back =
    ap (cons_option (line_update (line_of m))) (updates_of-append front back) ∙
    cons_option-append (line_update (line_of m)) (filter_map line_update (map line_of front)) (filter_map line_update (map line_of back))

-- a message that is one says it
pub updates_of-some : (m : Data) (told : Option ViewUpdate) → line_update (line_of m) ≡ Some told → updates_of (m ∷ []) ≡ told ∷ []
unfolding updates_of
updates_of-some m told some = ap (λ said. cons_option said []) some

-- screens after updates after updates
pub rebuilt_from-append : (id : List ℕ) (screen : Option Screen) (front back : List (Option ViewUpdate)) →
    rebuilt_from id screen (front ++ back) ≡ rebuilt_from id (rebuilt_from id screen front) back
rebuilt_from-append id screen [] back = refl
rebuilt_from-append id screen (note ∷ front) back = rebuilt_from-append id (screen_with id screen note) front back

-- each message's line is one line that reads as it
unfoldable pub AreLines : List Data → Type 0
AreLines said = AllByRecursion (λ m. IsLineOf m (line_of m)) said

pub no_lines : AreLines []
unfolding AreLines
no_lines = tt

-- the notes of updates
unfoldable pub note_list : List ViewUpdate → List (Option ViewUpdate)
note_list [] = []
note_list (told ∷ updates) = Some told ∷ note_list updates

note_list-is : (updates : List ViewUpdate) → map Some updates ≡ note_list updates
unfolding note_list
note_list-is [] = refl
note_list-is (told ∷ updates) = ap (λ rest. Some told ∷ rest) (note_list-is updates)

-- an entry's messages say its updates
pub updates_of-outcome : (id : Id) (done : Outcome) → AllByRecursion (λ m. IsLineOf m (line_of m)) (outcome_messages id done) →
    UpdatesReadBack done.updates → updates_of (outcome_messages id done) ≡ note_list done.updates
updates_of-outcome id done lines reads =
    sym (updates_in-lines (outcome_messages id done)) ∙ pieces_say_their_updates id done.reply [] done.updates done.scroll lines reads ∙
    note_list-is done.updates

pub updates_of-plugin : (id : Id) (done : PluginOutcome) → AllByRecursion (λ m. IsLineOf m (line_of m)) (plugin_messages id done) →
    UpdatesReadBack done.updates → updates_of (plugin_messages id done) ≡ note_list done.updates
updates_of-plugin id done lines reads =
    sym (updates_in-lines (plugin_messages id done)) ∙ pieces_say_their_updates id done.reply done.styles done.updates None lines reads ∙
    note_list-is done.updates

-- ---- a journal with one more entry, in two parts

nil_or_more : {X : Type 0} (x : X) (xs ys : List X) → [] ≡ xs ++ (x ∷ ys) → ⊥
nil_or_more x [] ys is = cc
nil_or_more x (y ∷ xs) ys is = cc

-- either the second part is empty, or its last entry is the one that was added
unfoldable pub SplitsPush : {X : Type 0} → List X → X → List X → List X → Type 0
SplitsPush {X} journal entry front back =
    ((back ≡ []) × (front ≡ journal ++ entry ∷ [])) ⊎ ((rest : List X) × (journal ≡ front ++ rest) × (back ≡ rest ++ entry ∷ []))

one_more : {X : Type 0} (x : X) (journal front back : List X) (entry : X) → SplitsPush journal entry front back → SplitsPush (x ∷ journal) entry (x ∷ front) back
unfolding SplitsPush
one_more x journal front back entry (inl (none, all)) = inl (none, ap (λ xs. x ∷ xs) all)
one_more x journal front back entry (inr (rest, is, last)) = inr (rest, ap (λ xs. x ∷ xs) is, last)

alone : {X : Type 0} (entry x : X) (front back : List X) → entry ∷ [] ≡ x ∷ (front ++ back) → SplitsPush [] entry (x ∷ front) back
unfolding SplitsPush
alone entry x [] [] is = inl (refl, sym is)
alone entry x [] (y ∷ back) is = absurd cc
alone entry x (y ∷ front) back is = absurd cc

pub splits_push : {X : Type 0} (journal front back : List X) (entry : X) → journal ++ entry ∷ [] ≡ front ++ back → SplitsPush journal entry front back
unfolding SplitsPush
splits_push journal [] back entry is = inr (journal, refl, sym is)
splits_push [] (x ∷ front) back entry is = alone entry x front back is
splits_push {X} (j ∷ journal) (x ∷ front) back entry is =
    let first : j ≡ x = cc in
    let rest : journal ++ entry ∷ [] ≡ front ++ back = cc in
    let At : X → Type 0 = λ y. SplitsPush (j ∷ journal) entry (y ∷ front) back in
    subst At first (one_more j journal front back entry (splits_push journal front back entry rest))

-- ---- the screens after an entry

-- the screen of this id stays as it is by these notes
unfoldable pub Passes : List ℕ → List (Option ViewUpdate) → Type 0
Passes id notes = (screen : Screen) → rebuilt_from id (Some screen) notes ≡ Some screen

passes_update : (id own : List ℕ) (update : Option Update) → bytes_eq own id ≡ false → Passes id (note_list (updates_for own update))
unfolding Passes note_list
passes_update id own None other = λ screen. refl
passes_update id own (Some update) other = λ screen. ap (λ here. if here then screen_after screen update.ops else Some screen) other

note_list-append : (front back : List ViewUpdate) → note_list (front ++ back) ≡ note_list front ++ note_list back
unfolding note_list
note_list-append [] back = refl
note_list-append (update ∷ front) back = ap (λ notes. Some update ∷ notes) (note_list-append front back)

passes-append : (id : List ℕ) (front back : List (Option ViewUpdate)) → Passes id front → Passes id back → Passes id (front ++ back)
unfolding Passes
passes-append id front back first second = λ screen.
    rebuilt_from-append id (Some screen) front back ∙ ap (λ s. rebuilt_from id s back) (first screen) ∙ second screen

-- the updates of the steps of views that have other ids
pub passes_told : (id : List ℕ) (steps : OpenView → EventStep) (views : List OpenView) →
    AllByRecursion (λ (view : OpenView). bytes_eq view.id id ≡ false) views → Passes id (note_list (told steps views))
unfolding Passes note_list
passes_told id steps [] others = λ screen. refl
passes_told id steps (view ∷ views) others =
    let first = updates_for view.id (steps view).update in
    let At : List (Option ViewUpdate) → Type 0 = λ notes. Passes id notes in
    subst At (sym (note_list-append first (told steps views)))
    (passes-append id (note_list first) (note_list (told steps views)) (passes_update id view.id (steps view).update others.0)
    (passes_told id steps views others.1))

-- by notes the screens of views become those of their steps
unfoldable pub Settle : List (Option ViewUpdate) → (OpenView → EventStep) → List OpenView → Type 0
Settle notes steps views =
    AllByRecursion (λ (view : OpenView). rebuilt_from view.id (Some view.document.screen) notes ≡ Some (steps view).document.screen) views

-- by the update of its own step
settles_own : (view : OpenView) (step : EventStep) → MakesScreen step.update view.document.screen step.document.screen →
    rebuilt_from view.id (Some view.document.screen) (note_list (updates_for view.id step.update)) ≡ Some step.document.screen
unfolding note_list MakesScreen
settles_own view step makes = by step.update makes
  where
    by : (update : Option Update) → MakesScreen update view.document.screen step.document.screen →
        rebuilt_from view.id (Some view.document.screen) (note_list (updates_for view.id update)) ≡ Some step.document.screen
    by None is = ap Some (sym is)
    by (Some update) is =
        ap (λ here. if here then screen_after view.document.screen update.ops else Some view.document.screen) (same_id view.id) ∙ is

-- notes that pass over them may stand before
settle_after : (front back : List (Option ViewUpdate)) (steps : OpenView → EventStep) (views : List OpenView) →
    AllByRecursion (λ (view : OpenView). Passes view.id front) views → Settle back steps views → Settle (front ++ back) steps views
unfolding Settle Passes
settle_after front back steps [] passes settle = tt
settle_after front back steps (view ∷ views) passes settle = (
  rebuilt_from-append view.id (Some view.document.screen) front back ∙ ap (λ s. rebuilt_from view.id s back) (passes.0 view.document.screen) ∙ settle.0,
  settle_after front back steps views passes.1 settle.1,
)

-- an update passes over the views that have other ids
pass_over : (own : List ℕ) (update : Option Update) (views : List OpenView) → AllByRecursion (λ (view : OpenView). bytes_eq own view.id ≡ false) views →
    AllByRecursion (λ (view : OpenView). Passes view.id (note_list (updates_for own update))) views
pass_over own update [] others = tt
pass_over own update (view ∷ views) others = (passes_update view.id own update others.0, pass_over own update views others.1)

turned : (own : List ℕ) (views : List OpenView) → AllByRecursion (λ (view : OpenView). bytes_eq own view.id ≡ false) views →
    AllByRecursion (λ (view : OpenView). bytes_eq view.id own ≡ false) views
turned own [] others = tt
turned own (view ∷ views) others = (other_way view.id own ∙ others.0, turned own views others.1)

pub settles : (requests : List ℕ → Run) (steps : OpenView → EventStep) (views : List OpenView) → HasApart views → KeepScreens requests steps views →
    Settle (note_list (told steps views)) steps views
unfolding Settle KeepScreens Passes
settles requests steps [] apart keep = tt
settles requests steps (view ∷ views) apart keep =
    let first = updates_for view.id (steps view).update in
    let later = note_list (told steps views) in
    let At : List (Option ViewUpdate) → Type 0 = λ notes. Settle notes steps (view ∷ views) in
    subst At (sym (note_list-append first (told steps views))) (
      rebuilt_from-append view.id (Some view.document.screen) (note_list first) later ∙
          ap (λ s. rebuilt_from view.id s later) (settles_own view (steps view) keep.0.screen) ∙
          passes_told view.id steps views (turned view.id views apart.1) (steps view).document.screen,
      settle_after (note_list first) later steps views (pass_over view.id (steps view).update views apart.1)
          (settles requests steps views apart.2 keep.1),
    )

-- ---- the lines that an entry sends

-- the updates of an outcome are of its views, and send lines of their windows, or requested of them, alone
unfoldable pub Sends : (List ℕ → Run) → Outcome → Type 0
Sends requests done = NotesSendTo requests done.views (note_list done.updates)

-- a view is found by its id behind others
found_behind : (view : OpenView) (views : List OpenView) (id : List ℕ) (found : Option OpenView) → bytes_eq id view.id ≡ false → view_of views id ≡ found →
    view_of (view ∷ views) id ≡ found
found_behind view views id found other is = ap (λ here. if here then Some view else view_of views id) other ∙ is

-- so notes to some of the views are notes to all of them
behind_one : (requests : List ℕ → Run) (view : OpenView) (views : List OpenView) (updates : List ViewUpdate) →
    AllByRecursion (λ (update : ViewUpdate). bytes_eq update.view view.id ≡ false) updates → NotesSendTo requests views (note_list updates) →
    NotesSendTo requests (view ∷ views) (note_list updates)
unfolding note_list
behind_one requests view views [] others sends = tt
behind_one requests view views (update ∷ updates) others sends =
    let At : Option OpenView → Type 0 = λ found. SendsTo (requests update.view) found update.update.ops in (
      subst At (sym (found_behind view views update.view (view_of views update.view) others.0 refl)) sends.0,
      behind_one requests view views updates others.1 sends.1,
    )

-- the updates of steps have the ids of their views
others_for : (own id : List ℕ) (update : Option Update) → bytes_eq id own ≡ false →
    AllByRecursion (λ (u : ViewUpdate). bytes_eq u.view own ≡ false) (updates_for id update)
others_for own id None other = tt
others_for own id (Some update) other = (other, tt)

others_told : (own : List ℕ) (steps : OpenView → EventStep) (views : List OpenView) →
    AllByRecursion (λ (view : OpenView). bytes_eq view.id own ≡ false) views →
    AllByRecursion (λ (u : ViewUpdate). bytes_eq u.view own ≡ false) (told steps views)
others_told own steps [] others = tt
others_told own steps (view ∷ views) others =
    all_append (λ (u : ViewUpdate). bytes_eq u.view own ≡ false) (updates_for view.id (steps view).update) (told steps views)
    (others_for own view.id (steps view).update others.0) (others_told own steps views others.1)

sends_one : (requests : List ℕ → Run) (next : OpenView) (views : List OpenView) (update : Option Update) →
    UpdateWithin update next.document.view.window (requests next.id) → NotesSendTo requests (next ∷ views) (note_list (updates_for next.id update))
unfolding note_list UpdateWithin
sends_one requests next views None within = tt
sends_one requests next views (Some update) within =
    let At : Option OpenView → Type 0 = λ found. SendsTo (requests next.id) found update.ops in
    (subst At (sym (ap (λ here. if here then Some next else view_of views next.id) (same_id next.id))) within, tt)

sends_steps : (requests : List ℕ → Run) (steps : OpenView → EventStep) (views : List OpenView) → HasApart views → KeepScreens requests steps views →
    NotesSendTo requests (stepped steps views) (note_list (told steps views))
unfolding KeepScreens note_list
sends_steps requests steps [] apart keep = tt
sends_steps requests steps (view ∷ views) apart keep =
    let next : OpenView = record view { document = (steps view).document } in
    let first = updates_for view.id (steps view).update in
    let At : List (Option ViewUpdate) → Type 0 = λ notes. NotesSendTo requests (stepped steps (view ∷ views)) notes in
    subst At (sym (note_list-append first (told steps views)))
    (all_append (NoteSendsTo requests (stepped steps (view ∷ views))) (note_list first) (note_list (told steps views))
    (sends_one requests next (stepped steps views) (steps view).update keep.0.sends)
    (behind_one requests next (stepped steps views) (told steps views) (others_told view.id steps views (turned view.id views apart.1))
    (sends_steps requests steps views apart.2 keep.1)))

apart_base : (session : Session) (opened : ℕ) (base : List OpenView) → IsBase session opened base → opened < 2 ^ 64 →
    AreNumbered 0 session.opened session.views → HasApart base
apart_base session opened base is small are = apart-numbered 0 opened base small (numbered_base session opened base is are)

sends_leaving : (requests : List ℕ → Run) (views : List OpenView) → Sends requests (leaving views)
unfolding Sends note_list
sends_leaving requests views = tt

sends_front : (session : Session) (act : Act) (gave : Given) → session.opened + 1 < 2 ^ 64 → AreNumbered 0 session.opened session.views →
    NotesSendTo (requested act) (outcome session act gave).views (note_list (outcome session act gave).updates)
unfolding Sends
sends_front session act gave small are =
    by_outcome session (λ requests opened done. opened < 2 ^ 64 → Sends requests done)
    (λ requests opened base reply scroll each is keep. λ few. sends_steps requests each base (apart_base session opened base is few are) (keep_screens requests each base keep))
    (λ requests none. λ few. sends_leaving requests session.views) act gave
    (apart-numbered 0 session.opened session.views (omega (arith, small)) are) (omega (arith, small, opened_few session.opened act gave))

-- so are those of an entry that is accepted
none_of_plugin : (asks : Act) → is_of_plugin asks ≡ true → (id : List ℕ) → requested asks id ≡ no_request
none_of_plugin (Edit name act) is id = absurd cc
none_of_plugin asks is id = refl

sends_plugin : (session : Session) (caller : ℕ) (asks : Act) → HasApart session.views → is_of_plugin asks ≡ true →
    NotesSendTo (requested asks) (plugin_outcome session.views session.styles caller asks).views
    (note_list (plugin_outcome session.views session.styles caller asks).updates)
sends_plugin session caller asks apart is =
    by_plugin_steps session.views session.styles caller (requested asks) (none_of_plugin asks is)
    (λ after updates. NotesSendTo (requested asks) after (note_list updates))
    (λ each keep shown. sends_steps (requested asks) each session.views apart keep) apart asks

pub sends_entry : (session : Session) (entry : Entry) → session.opened + 1 < 2 ^ 64 → AreNumbered 0 session.opened session.views → Accepts session entry →
    NotesSendTo (requested entry.command.act) (step session entry).views (note_list (updates_by (is_front entry) session entry))
sends_entry session entry small are accepts = by (is_front entry) accepts
  where
    by : (front : Bool) → AcceptsBy front session entry →
        NotesSendTo (requested entry.command.act) (step_by front session entry).views (note_list (updates_by front session entry))
    by true taken = sends_front session entry.command.act (given_by entry.shelf) small are
    by false taken =
        sends_plugin session entry.caller entry.command.act (apart-numbered 0 session.opened session.views (omega (arith, small)) are) taken.asks

-- ---- the lines that are valid

-- the screen of each view's document shows it, with the lines that were requested of the view
unfoldable pub AreUpToDate : (List ℕ → Run) → List OpenView → Type 0
AreUpToDate requests views = AllByRecursion (λ view. IsUpToDate (requests view.id) view.document) views

shown_each : (requests : List ℕ → Run) (steps : OpenView → EventStep) (views : List OpenView) → KeepEach requests steps views →
    AreLastTold views → AreUpToDate requests (stepped steps views)
unfolding AreLastTold AreUpToDate KeepEach KeepsStep
shown_each requests steps [] keep last = tt
shown_each requests steps (view ∷ views) keep last = (keep.0.shown last.0, shown_each requests steps views keep.1 last.1)

shown_leaving : (requests lasts : List ℕ → Run) (views : List OpenView) → NoneRequested requests views → AreUpToDate lasts views →
    AreUpToDate requests views
unfolding AreUpToDate NoneRequested
shown_leaving requests lasts [] none before = tt
shown_leaving requests lasts (view ∷ views) none before =
    let At : Run → Type 0 = λ request. IsUpToDate request view.document in
    (subst At (sym none.0) (IsUpToDate-over (lasts view.id) view.document before.0), shown_leaving requests lasts views none.1 before.1)

front_up_to_date : (session : Session) (act : Act) (gave : Given) → HasApart session.views → AreLastTold session.views → (lasts : List ℕ → Run) →
    AreUpToDate lasts session.views → AreUpToDate (requested act) (outcome session act gave).views
front_up_to_date session act gave apart last lasts before =
    by_outcome session (λ requests opened done. AreUpToDate requests done.views)
    (λ requests opened base reply scroll each is keep. shown_each requests each base keep (last_base session opened base is last))
    (λ requests none. shown_leaving requests lasts session.views none before) act gave apart

shown_after : (requests lasts : List ℕ → Run) (steps : OpenView → EventStep) (views : List OpenView) → ShowEach requests steps views →
    AreLastTold views → AreUpToDate lasts views → AreUpToDate requests (stepped steps views)
unfolding AreLastTold AreUpToDate ShowEach
shown_after requests lasts steps [] each last before = tt
shown_after requests lasts steps (view ∷ views) each last before =
    (each.0 (lasts view.id) before.0 last.0, shown_after requests lasts steps views each.1 last.1 before.1)

pub entry_up_to_date : (session : Session) (entry : Entry) → HasApart session.views → AreLastTold session.views → Accepts session entry →
    (lasts : List ℕ → Run) → AreUpToDate lasts session.views → AreUpToDate (requested entry.command.act) (step session entry).views
entry_up_to_date session entry apart last accepts lasts before = by (is_front entry) accepts
  where
    by : (front : Bool) → AcceptsBy front session entry → AreUpToDate (requested entry.command.act) (step_by front session entry).views
    by true taken = front_up_to_date session entry.command.act (given_by entry.shelf) apart last lasts before
    by false taken =
        by_plugin_steps session.views session.styles entry.caller (requested entry.command.act) (none_of_plugin entry.command.act taken.asks)
        (λ after updates. AreUpToDate (requested entry.command.act) after)
        (λ each keep shown. shown_after (requested entry.command.act) lasts each session.views shown last before) apart entry.command.act
