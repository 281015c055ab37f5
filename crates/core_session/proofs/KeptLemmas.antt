-- How a session stands after one more entry, and what it keeps then.
use Rattle.session_step.specs.declared.terms.Terms.{Terms}
use Rattle.std.proofs.Common.{◌≡◌, inl, inr, ℕ, suc, ◌<◌, ◌≤◌, arith, Bool, true, false, not, List, [], ◌∷◌, ◌++◌, length, length-append, refl, ap, sym, ◌∙◌, subst, append-nil}
use Rattle.std.specs.Prelude.{◌⊎◌, ◌&&◌, ◌||◌, ◌==◌, ◌^◌, if◌then◌else◌, nat_le, unwrap_or}
use Rattle.std.specs.Arc.{arc_value}
use Rattle.std.specs.List.{AllByRecursion, AllByRecursion-prop, list_all}
use Rattle.std.proofs.Math.Bool.{or-false, or-true}
use Rattle.std.proofs.Math.Logic.{∥∥₁_prop}
use Rattle.std.proofs.Math.Nat.{ℕ_set}
use Rattle.std.specs.Coded.{le_prop}
use Rattle.std.proofs.lemmas.Bool.Decides.{nat_tests}
use Rattle.std.proofs.lemmas.List.Folds.{list_all-append, list_any-append}
use Rattle.plain_edits.specs.declared.style.Style.{Style}
use Rattle.plugin_wire.specs.Told.{stopped}
use Rattle.entry_lines.specs.Notices.{AreNoticeTexts}
use Rattle.session_step.specs.PluginEffects.{views_with}
use Rattle.xi_plain.specs.declared.config.Config.{Config}
use Rattle.xi_plain.specs.declared.entry.Entry.{Entry}
use Rattle.xi_plain.specs.Journal.{IsLegal, closing_entry, has_own_note, is_closing, is_ordered, may_follow}
use Rattle.session_step.specs.declared.opened.Opened.{Opened}
use Rattle.core_session.specs.declared.prepare.Prepared.{Prepared}
use Rattle.core_session.specs.declared.stage.Stage.{Stage}
use Rattle.core_session.specs.declared.stage.Stage.TheVariants.{Broken, Closed, Serves}
use Rattle.core_session.specs.InnerSession.{IsPrepared}
use Rattle.core_session.specs.Kept.{IsOfJournal, IsOpen, IsShowing, StandBy, StandsForSession, has_closing, is_over, reserved, sent_front, stage_by, stage_if, stage_of, with_sent}
use Rattle.session_step.specs.Session.{session_of, views_of}
use Rattle.core_session.specs.Shelves.{AreSavesAsked, asks_as}
use Rattle.doc_session.specs.Document.{Document}
use Rattle.doc_session.specs.Stands.{DocStandsFor}
use Rattle.session_step.specs.Views.{AreOfPlugins, IsOfLine, MayBeAsked, TakesEvents}
use Rattle.session_step.specs.Accepted.{AreAccepted}
use Rattle.core_session.proofs.SentLemmas.{opens_sent, prepared_sent}
use Rattle.core_session.proofs.SessionLemmas.{AreAccepted-push, none_within, session_of-push}
use Rattle.core_session.proofs.ShelfLemmas.{AreSavesAsked-closed, AreSavesAsked-push}
use Rattle.core_session.proofs.ShowsLemmas.{no_lines}
use Rattle.core_session.proofs.ShownLemmas.{serves_push, shows_push}

-- ---- truths

pub first_of : (a b : Bool) → a && b ≡ true → a ≡ true
first_of true b is = refl
first_of false b is = absurd cc

pub second_of : (a b : Bool) → a && b ≡ true → b ≡ true
second_of true b is = is
second_of false b is = absurd cc

not_first : (a b : Bool) → a || b ≡ false → a ≡ false
not_first true b is = absurd cc
not_first false b is = refl

not_second : (a b : Bool) → a || b ≡ false → b ≡ false
not_second true b is = absurd cc
not_second false b is = is

of_not : (a : Bool) → not a ≡ false → a ≡ true
of_not true is = refl
of_not false is = absurd cc

one_of : (a b : Bool) → a || b ≡ true → a ≡ false → b ≡ true
one_of true b is none = absurd cc
one_of false b is none = is

or_same : (a b : Bool) → a ≡ false → a || b ≡ b
or_same a b none = rw none refl

-- what is not so gives anything
pub absurd_of : {A : Type 0} → false ≡ true → A
absurd_of is = absurd cc

-- ---- legal journals

may_stand : (is follows ordered : Bool) → is ≡ true → follows ≡ true → ordered ≡ true → is && (follows && ordered) ≡ true
may_stand is follows ordered first may rest = rw (first, may, rest) refl

ordered_front : (plugins : ℕ) (entries rest : List Entry) → AllByRecursion (IsOpen plugins) entries → is_ordered plugins rest ≡ true →
    is_ordered plugins (entries ++ rest) ≡ true
ordered_front plugins [] rest each ordered = ordered
ordered_front plugins (entry ∷ entries) rest each ordered =
    let follows : may_follow entry (entries ++ rest) ≡ true = rw (each.0.asks, each.0.sent) refl in
    may_stand (nat_le entry.caller plugins) (may_follow entry (entries ++ rest)) (is_ordered plugins (entries ++ rest))
    each.0.caller follows (ordered_front plugins entries rest each.1 ordered)

noted_front : (plugins : ℕ) (entries rest : List Entry) → AllByRecursion (IsOpen plugins) entries → list_all has_own_note rest ≡ true →
    list_all has_own_note (entries ++ rest) ≡ true
noted_front plugins [] rest each noted = noted
noted_front plugins (entry ∷ entries) rest each noted = rw (each.0.note, noted_front plugins entries rest each.1 noted) refl

-- before a legal journal may stand entries that were sent
pub IsLegal-front : (plugins : ℕ) (entries rest : List Entry) → AllByRecursion (IsOpen plugins) entries → IsLegal plugins rest →
    IsLegal plugins (entries ++ rest)
IsLegal-front plugins entries rest each legal =
    let ordered : is_ordered plugins (entries ++ rest) ≡ true =
    ordered_front plugins entries rest each (first_of (is_ordered plugins rest) (list_all has_own_note rest) legal) in
    let noted : list_all has_own_note (entries ++ rest) ≡ true =
    noted_front plugins entries rest each (second_of (is_ordered plugins rest) (list_all has_own_note rest) legal) in
    rw (ordered, noted) refl

-- an open entry alone, and behind those that were sent
legal_one : (plugins : ℕ) (entry : Entry) (sent : Bool) → IsOpen plugins entry → IsLegal plugins (with_sent entry sent ∷ [])
legal_one plugins entry true opens = rw (opens.caller, opens.asks, opens.note) refl
legal_one plugins entry false opens = rw (opens.caller, opens.asks, opens.note) refl

pub IsLegal-push : (plugins : ℕ) (journal : List Entry) (entry : Entry) (sent : Bool) → AllByRecursion (IsOpen plugins) journal →
    IsOpen plugins entry → IsLegal plugins (journal ++ with_sent entry sent ∷ [])
IsLegal-push plugins journal entry sent each opens =
    IsLegal-front plugins journal (with_sent entry sent ∷ []) each (legal_one plugins entry sent opens)

follows_by : (sent a b : Bool) → (a ≡ true → b ≡ true) → (if sent then true else a) ≡ true → (if sent then true else b) ≡ true
follows_by true a b later is = refl
follows_by false a b later is = later is

all_more : (a : Bool) → a ≡ true → a && true ≡ true
all_more a is = rw is refl

ordered_closed : (plugins : ℕ) (journal : List Entry) → is_ordered plugins journal ≡ true → has_closing journal ≡ false →
    is_ordered plugins (journal ++ closing_entry ∷ []) ≡ true
ordered_closed plugins [] ordered none = rw (none_within plugins) refl
ordered_closed plugins (entry ∷ entries) ordered none =
    let mine : is_closing entry ≡ false = not_first (is_closing entry) (has_closing entries) none in
    let front : nat_le entry.caller plugins ≡ true = first_of (nat_le entry.caller plugins) (may_follow entry entries && is_ordered plugins entries) ordered in
    let rest : may_follow entry entries && is_ordered plugins entries ≡ true =
    second_of (nat_le entry.caller plugins) (may_follow entry entries && is_ordered plugins entries) ordered in
    let may : may_follow entry entries ≡ true = first_of (may_follow entry entries) (is_ordered plugins entries) rest in
    let by_open : (if entry.sent then true else list_all is_closing entries) ≡ true =
    subst (λ closes. (if closes then length entries == 0 else (if entry.sent then true else list_all is_closing entries)) ≡ true) mine may in
    let more : (if entry.sent then true else list_all is_closing (entries ++ closing_entry ∷ [])) ≡ true =
    follows_by entry.sent (list_all is_closing entries) (list_all is_closing (entries ++ closing_entry ∷ []))
    (λ is. list_all-append is_closing entries (closing_entry ∷ []) ∙ all_more (list_all is_closing entries) is) by_open in
    let follows : may_follow entry (entries ++ closing_entry ∷ []) ≡ true = rw mine more in
    may_stand (nat_le entry.caller plugins) (may_follow entry (entries ++ closing_entry ∷ [])) (is_ordered plugins (entries ++ closing_entry ∷ [])) front follows
    (ordered_closed plugins entries (second_of (may_follow entry entries) (is_ordered plugins entries) rest) (not_second (is_closing entry) (has_closing entries) none))

-- the closing entry may stand behind a journal that has none
pub IsLegal-closed : (plugins : ℕ) (journal : List Entry) → IsLegal plugins journal → has_closing journal ≡ false → IsLegal plugins (journal ++ closing_entry ∷ [])
IsLegal-closed plugins journal legal none =
    let ordered = ordered_closed plugins journal (first_of (is_ordered plugins journal) (list_all has_own_note journal) legal) none in
    let noted : list_all has_own_note (journal ++ closing_entry ∷ []) ≡ true =
    list_all-append has_own_note journal (closing_entry ∷ []) ∙
    all_more (list_all has_own_note journal) (second_of (is_ordered plugins journal) (list_all has_own_note journal) legal) in
    rw (ordered, noted) refl

last_step : (closes : Bool) (many : ℕ) (rest : Bool) → (if closes then suc many == 0 else rest) ≡ true → closes ≡ false
last_step true many rest is = absurd (grind (arith, nat_tests, is))
last_step false many rest is = refl

ordered_none : (plugins : ℕ) (journal : List Entry) → is_ordered plugins (journal ++ closing_entry ∷ []) ≡ true → has_closing journal ≡ false
ordered_none plugins [] ordered = refl
ordered_none plugins (entry ∷ entries) ordered =
    let rest : may_follow entry (entries ++ closing_entry ∷ []) && is_ordered plugins (entries ++ closing_entry ∷ []) ≡ true =
    second_of (nat_le entry.caller plugins) (may_follow entry (entries ++ closing_entry ∷ []) && is_ordered plugins (entries ++ closing_entry ∷ [])) ordered in
    let may : may_follow entry (entries ++ closing_entry ∷ []) ≡ true =
    first_of (may_follow entry (entries ++ closing_entry ∷ [])) (is_ordered plugins (entries ++ closing_entry ∷ [])) rest in
    let long : length (entries ++ closing_entry ∷ []) ≡ suc (length entries) = omega (arith, length-append entries (closing_entry ∷ [])) in
    let mine : is_closing entry ≡ false =
    last_step (is_closing entry) (length entries) (if entry.sent then true else list_all is_closing (entries ++ closing_entry ∷ []))
    (subst (λ many. (if is_closing entry then many == 0 else (if entry.sent then true else list_all is_closing (entries ++ closing_entry ∷ []))) ≡ true) long may) in
    rw mine (ordered_none plugins entries (second_of (may_follow entry (entries ++ closing_entry ∷ [])) (is_ordered plugins (entries ++ closing_entry ∷ [])) rest))

-- behind a closing entry stands none
pub closing_last : (plugins : ℕ) (journal : List Entry) → IsLegal plugins (journal ++ closing_entry ∷ []) → has_closing journal ≡ false
closing_last plugins journal legal =
    ordered_none plugins journal (first_of (is_ordered plugins (journal ++ closing_entry ∷ [])) (list_all has_own_note (journal ++ closing_entry ∷ [])) legal)

-- ---- whether a journal is over

pub open_not_over : (plugins : ℕ) (journal : List Entry) → AllByRecursion (IsOpen plugins) journal → is_over journal ≡ false
open_not_over plugins [] each = refl
open_not_over plugins (entry ∷ entries) each = rw (each.0.asks, each.0.sent) (open_not_over plugins entries each.1)

open_by : (plugins : ℕ) (journal : List Entry) → is_ordered plugins journal ≡ true → list_all has_own_note journal ≡ true → is_over journal ≡ false →
    AllByRecursion (IsOpen plugins) journal
open_by plugins [] ordered noted goes = tt
open_by plugins (entry ∷ entries) ordered noted goes =
    let here : is_closing entry || not entry.sent ≡ false = not_first (is_closing entry || not entry.sent) (is_over entries) goes in
    let rest : may_follow entry entries && is_ordered plugins entries ≡ true =
    second_of (nat_le entry.caller plugins) (may_follow entry entries && is_ordered plugins entries) ordered in (
      record {
        caller = first_of (nat_le entry.caller plugins) (may_follow entry entries && is_ordered plugins entries) ordered;
        asks = not_first (is_closing entry) (not entry.sent) here;
        note = first_of (has_own_note entry) (list_all has_own_note entries) noted;
        sent = of_not entry.sent (not_second (is_closing entry) (not entry.sent) here);
      },
      open_by plugins entries (second_of (may_follow entry entries) (is_ordered plugins entries) rest)
          (second_of (has_own_note entry) (list_all has_own_note entries) noted) (not_second (is_closing entry || not entry.sent) (is_over entries) goes),
    )

-- the entries of a legal journal that is not over do not close, and were sent
pub open_journal : (plugins : ℕ) (journal : List Entry) → IsLegal plugins journal → is_over journal ≡ false → AllByRecursion (IsOpen plugins) journal
open_journal plugins journal legal goes =
    open_by plugins journal (first_of (is_ordered plugins journal) (list_all has_own_note journal) legal)
    (second_of (is_ordered plugins journal) (list_all has_own_note journal) legal) goes

over_step : (closing cut any over : Bool) → (any ≡ true → over ≡ true) → closing || any ≡ true → (closing || cut) || over ≡ true
over_step true cut any over later is = refl
over_step false true any over later is = refl
over_step false false any over later is = later is

-- one that is closed is over
pub closed_over : (journal : List Entry) → has_closing journal ≡ true → is_over journal ≡ true
closed_over [] is = absurd cc
closed_over (entry ∷ entries) is =
    over_step (is_closing entry) (not entry.sent) (has_closing entries) (is_over entries) (closed_over entries) is

open_step : (closing cut any over : Bool) → (over ≡ false → any ≡ false) → (closing || cut) || over ≡ false → closing || any ≡ false
open_step true cut any over later is = absurd cc
open_step false true any over later is = absurd cc
open_step false false any over later is = later is

pub open_not_closed : (journal : List Entry) → is_over journal ≡ false → has_closing journal ≡ false
open_not_closed [] goes = refl
open_not_closed (entry ∷ entries) goes =
    open_step (is_closing entry) (not entry.sent) (has_closing entries) (is_over entries) (open_not_closed entries) goes

-- ---- how a session stands

serves_by : (closed over : Bool) → Serves ≡ stage_by closed over → over ≡ false
serves_by true over is = absurd cc
serves_by false true is = absurd cc
serves_by false false is = refl

pub stage_serves : (journal : List Entry) → Serves ≡ stage_of journal → is_over journal ≡ false
stage_serves journal is = serves_by (has_closing journal) (is_over journal) is

broken_by : (closed over : Bool) → Broken ≡ stage_by closed over → (closed ≡ false) × (over ≡ true)
broken_by true over is = absurd cc
broken_by false true is = (refl, refl)
broken_by false false is = absurd cc

pub stage_broken : (journal : List Entry) → Broken ≡ stage_of journal → (has_closing journal ≡ false) × (is_over journal ≡ true)
stage_broken journal is = broken_by (has_closing journal) (is_over journal) is

closed_by : (closed over : Bool) → Closed ≡ stage_by closed over → closed ≡ true
closed_by true over is = refl
closed_by false true is = absurd cc
closed_by false false is = absurd cc

pub stage_closed : (journal : List Entry) → Closed ≡ stage_of journal → has_closing journal ≡ true
stage_closed journal is = closed_by (has_closing journal) (is_over journal) is

-- a session that is not closed has room for the closing entry
pub reserved_if : (stage : Stage) (sent : Bool) → stage ≡ stage_if sent → reserved stage ≡ 1
reserved_if stage true is = ap reserved is
reserved_if stage false is = ap reserved is

-- one that takes no lines is over, and one that is not closed has no closing entry
pub over_of : (journal : List Entry) (stage : Stage) → stage ≡ stage_of journal → (stage ≡ Broken) ⊎ (stage ≡ Closed) → is_over journal ≡ true
over_of journal stage is (inl broken) = (stage_broken journal (sym broken ∙ is)).1
over_of journal stage is (inr closed) = closed_over journal (stage_closed journal (sym closed ∙ is))

pub not_closed_of : (journal : List Entry) (stage : Stage) → stage ≡ stage_of journal → (stage ≡ Serves) ⊎ (stage ≡ Broken) → has_closing journal ≡ false
not_closed_of journal stage is (inl serves) = open_not_closed journal (stage_serves journal (sym serves ∙ is))
not_closed_of journal stage is (inr broken) = (stage_broken journal (sym broken ∙ is)).0

sent_stage : (sent : Bool) → stage_if sent ≡ stage_by false (not sent)
sent_stage true = refl
sent_stage false = refl

-- no line's entry closes
pub closing-push : (journal : List Entry) (entry : Entry) (sent : Bool) → is_over journal ≡ false → IsOfLine entry.command.act →
    has_closing (journal ++ with_sent entry sent ∷ []) ≡ false
closing-push journal entry sent goes asks =
    list_any-append is_closing journal (with_sent entry sent ∷ []) ∙ rw (open_not_closed journal goes, asks) refl

pub stage-push : (journal : List Entry) (entry : Entry) (sent : Bool) → is_over journal ≡ false → IsOfLine entry.command.act →
    stage_if sent ≡ stage_of (journal ++ with_sent entry sent ∷ [])
stage-push journal entry sent goes asks =
    let next = with_sent entry sent in
    let ends : Entry → Bool = λ entry. is_closing entry || not entry.sent in
    let closed : has_closing (journal ++ next ∷ []) ≡ false = closing-push journal entry sent goes asks in
    let over : is_over (journal ++ next ∷ []) ≡ not sent || false =
    list_any-append ends journal (next ∷ []) ∙ rw (goes, asks) refl in
    sent_stage sent ∙ ap (stage_by false) (sym (over ∙ or-false (not sent))) ∙
    ap (λ c. stage_by c (is_over (journal ++ next ∷ []))) (sym closed)

pub stage-closing : (journal : List Entry) → Closed ≡ stage_of (journal ++ closing_entry ∷ [])
stage-closing journal =
    ap (λ c. stage_by c (is_over (journal ++ closing_entry ∷ [])))
    (sym (list_any-append is_closing journal (closing_entry ∷ []) ∙ or-true (has_closing journal)))

-- ---- the entries before the first that was not sent

pub sent_front-open : (plugins : ℕ) (journal rest : List Entry) → AllByRecursion (IsOpen plugins) journal →
    sent_front (journal ++ rest) ≡ journal ++ sent_front rest
sent_front-open plugins [] rest each = refl
sent_front-open plugins (entry ∷ entries) rest each =
    ap (λ sent. if sent then entry ∷ sent_front (entries ++ rest) else []) each.0.sent ∙
    ap (λ later. entry ∷ later) (sent_front-open plugins entries rest each.1)

cut_step : (entry : Entry) (sent closing over : Bool) (front more : List Entry) → closing ≡ false → (closing || not sent) || over ≡ true →
    (over ≡ true → more ≡ front) → (if sent then entry ∷ more else []) ≡ (if sent then entry ∷ front else [])
cut_step entry false closing over front more none is later = refl
cut_step entry true closing over front more none is later = ap (λ rest. entry ∷ rest) (later (one_of (closing || false) over is (or-false closing ∙ none)))

sent_front-over : (journal rest : List Entry) → has_closing journal ≡ false → is_over journal ≡ true → sent_front (journal ++ rest) ≡ sent_front journal
sent_front-over [] rest none is = absurd cc
sent_front-over (entry ∷ entries) rest none is =
    cut_step entry entry.sent (is_closing entry) (is_over entries) (sent_front entries) (sent_front (entries ++ rest))
    (not_first (is_closing entry) (has_closing entries) none) is
    (λ over. sent_front-over entries rest (not_second (is_closing entry) (has_closing entries) none) over)

-- ---- what is kept

-- one that is not closed has room for the closing entry
pub reserved_open : (stage : Stage) → (stage ≡ Serves) ⊎ (stage ≡ Broken) → reserved stage ≡ 1
reserved_open stage (inl is) = ap reserved is
reserved_open stage (inr is) = ap reserved is

pub MayBeAsked-prop : (held : List Opened) → IsProp (MayBeAsked held)
MayBeAsked-prop held =
    AllByRecursion-prop (λ (kept : Opened). TakesEvents (arc_value kept.doc) × ∥ ((plain : Document) × DocStandsFor (arc_value kept.doc) plain) ∥₁)
    (λ kept. hlevel (ℕ_set, le_prop, ∥∥₁_prop)) held

pub AreOfPlugins-prop : (plugins : ℕ) (callers : List ℕ) → IsProp (AreOfPlugins plugins callers)
AreOfPlugins-prop plugins callers =
    AllByRecursion-prop (λ caller. (1 ≤ caller) × (caller ≤ plugins)) (λ caller. hlevel le_prop) callers

-- a session that takes lines shows its whole journal
pub showing_open : (terms : Terms) (journal : List Entry) → AllByRecursion (IsOpen terms.plugins) journal → IsShowing terms (sent_front journal) → IsShowing terms journal
showing_open terms journal each showing =
    let same : sent_front journal ≡ journal =
    ap sent_front (sym (append-nil journal)) ∙ sent_front-open terms.plugins journal [] each ∙ append-nil journal in
    subst (IsShowing terms) same showing

-- what is kept after one more entry that was prepared
pub IsOfJournal-push : (terms : Terms) (held : List Opened) (table : List Style) (ended : List ℕ) (journal : List Entry) (made : Prepared) (sent : Bool) →
    length journal < 2 ^ 63 → AllByRecursion (IsOpen terms.plugins) journal → IsShowing terms journal → AreSavesAsked terms journal →
    AreAccepted terms journal → IsOpen terms.plugins made.entry →
    asks_as (views_of terms journal) made.entry.command.act made.entry.shelf ≡ true → IsPrepared held table ended (session_of terms journal) made →
    IsOfJournal terms (views_with held made.next) (unwrap_or made.grown table) (unwrap_or made.gone ended) made.opened made.config
    (journal ++ with_sent made.entry sent ∷ [])
IsOfJournal-push terms held table ended journal made sent few each showing saves accepted opens asked prepared = record {
  stands =
      subst (StandsForSession (views_with held made.next) (unwrap_or made.grown table) (unwrap_or made.gone ended) made.opened made.config)
      (sym (session_of-push terms journal (with_sent made.entry sent))) (ready sent).stands;
  showing = shown sent;
  saves_asked = AreSavesAsked-push terms journal (with_sent made.entry sent) saves asked;
  accepted = AreAccepted-push terms journal (with_sent made.entry sent) accepted (ready sent).accepted;
}
  where
    ready : (sent : Bool) → IsPrepared held table ended (session_of terms journal) (record made { entry = with_sent made.entry sent })
    ready sent = prepared_sent held table ended (session_of terms journal) made sent prepared

    shown : (sent : Bool) → IsShowing terms (sent_front (journal ++ with_sent made.entry sent ∷ []))
    shown false = subst (IsShowing terms) (sym (sent_front-open terms.plugins journal (with_sent made.entry false ∷ []) each ∙ append-nil journal)) showing
    shown true =
        let next = ready true in
        let parts = serves_push terms journal (with_sent made.entry true) _ few each showing (opens_sent terms.plugins made.entry opens) next.accepted
        next.lines next.reads_back in
        subst (IsShowing terms) (sym (sent_front-open terms.plugins journal (with_sent made.entry true ∷ []) each)) parts.1

closed_showing : (terms : Terms) (journal : List Entry) (over : Bool) → is_over journal ≡ over → length journal < 2 ^ 63 → IsLegal terms.plugins journal →
    has_closing journal ≡ false → IsShowing terms (sent_front journal) → IsShowing terms (sent_front (journal ++ closing_entry ∷ []))
closed_showing terms journal true is few legal none showing = subst (IsShowing terms) (sym (sent_front-over journal (closing_entry ∷ []) none is)) showing
closed_showing terms journal false is few legal none showing =
    let each = open_journal terms.plugins journal legal is in
    subst (IsShowing terms) (sym (sent_front-open terms.plugins journal (closing_entry ∷ []) each))
    (shows_push terms journal closing_entry few tt (showing_open terms journal each showing) no_lines tt)

pub IsOfJournal-closed : (terms : Terms) (held : List Opened) (table : List Style) (ended : List ℕ) (many : ℕ) (laid : Config) (journal : List Entry) →
    length journal < 2 ^ 63 → IsLegal terms.plugins journal → has_closing journal ≡ false → IsOfJournal terms held table ended many laid journal →
    IsOfJournal terms held table ended many laid (journal ++ closing_entry ∷ [])
IsOfJournal-closed terms held table ended many laid journal few legal none kept = record {
  stands = subst (StandsForSession held table ended many laid) (sym (session_of-push terms journal closing_entry)) kept.stands;
  showing = closed_showing terms journal (is_over journal) refl few legal none kept.showing;
  saves_asked = AreSavesAsked-closed terms journal kept.saves_asked;
  accepted = AreAccepted-push terms journal closing_entry kept.accepted tt;
}

-- the lines that stand by for the closing entry, as long as it does not stand
pub stands_by : (stage : Stage) (texts : List (List ℕ)) → StandBy stage texts → (stage ≡ Serves) ⊎ (stage ≡ Broken) → AreNoticeTexts (stopped ∷ []) texts
stands_by Serves texts stop goes = stop
stands_by Broken texts stop goes = stop
stands_by Closed texts stop (inl goes) = absurd cc
stands_by Closed texts stop (inr goes) = absurd cc

-- they do after an entry of a line
pub stand_by_if : (texts : List (List ℕ)) (sent : Bool) → AreNoticeTexts (stopped ∷ []) texts → StandBy (stage_if sent) texts
stand_by_if texts true stop = stop
stand_by_if texts false stop = stop
