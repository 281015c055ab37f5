-- Lemmas on an event in one of the views, and on its document in the place of that before it.
use Rattle.std.proofs.Common.{◌≡◌, ℕ, zero, suc, ◌<◌, List, [], ◌∷◌, ◌++◌, length, get_or, map, Option, None, refl, sym, ◌∙◌, ap, subst, arith}
use Rattle.std.specs.Prelude.{Bool, if◌then◌else◌, slice_set, Result, Ok, Err, IfOk, ⊤}
use Rattle.std.specs.Arc.{arc_value}
use Rattle.std.specs.List.{AllByRecursion}
use Rattle.plain_edits.specs.declared.style.Span.{Span}
use Rattle.plain_edits.specs.declared.style.Style.{Style}
use Rattle.plain_edits.specs.declared.delta.Delta.{Delta}
use Rattle.xi_plain.specs.declared.command.Act.{Act}
use Rattle.xi_plain.specs.declared.command.Act.TheVariants as act
use Rattle.xi_plain.specs.declared.command.Fault.{Fault}
use Rattle.xi_plain.specs.declared.span.WireSpan.{WireSpan}
use Rattle.plugin_wire.specs.FairAsk.{IsSpanWithin}
use Rattle.stale_spans.specs.Places.{StandIn}
use Rattle.view_update.specs.declared.note.NumberedStyle.{NumberedStyle}
use Rattle.view_update.specs.declared.note.ViewUpdate.{ViewUpdate}
use Rattle.entry_lines.specs.Notices.{told_of}
use Rattle.entry_lines.specs.PluginAnswer.{gives, verdict_of}
use Rattle.entry_lines.specs.declared.notice.PluginNews.{PluginNews}
use Rattle.entry_lines.specs.Answer.{reply_of, silent}
use Rattle.entry_lines.specs.declared.reply.FrontReply.{FrontReply}
use Rattle.entry_lines.specs.declared.reply.FrontReply.TheVariants.{Silent}
use Rattle.entry_lines.specs.declared.reply.PluginReply.{PluginReply}
use Rattle.entry_lines.specs.declared.reply.PluginReply.TheVariants.{Null}
use Rattle.doc_session.specs.InMemory.{Doc}
use Rattle.doc_session.specs.declared.event.Effects.{Effects}
use Rattle.doc_session.specs.Document.{Document}
use Rattle.doc_session.specs.Stands.{DocStandsFor}
use Rattle.doc_session.specs.Step.{EventStep, IsEventFor}
use Rattle.doc_session.specs.declared.event.Event.{Event}
use Rattle.doc_session.specs.declared.event.Event.TheVariants.{Spans}
use Rattle.style_numbers.specs.InMemory.{table_after}
use Rattle.style_numbers.specs.Numbers.{spans_with_ids, with_style}
use Rattle.session_step.specs.declared.opened.Opened.{Opened}
use Rattle.session_step.specs.PluginStep.{body_data, ended_outcome, plugin_outcome, plugin_refusal, step_outcome, styles_after, telling, with_document}
use Rattle.session_step.specs.Session.{OpenView, updates_for}
use Rattle.session_step.specs.InnerStep.{IsEdited, TakesSteps}
use Rattle.session_step.specs.declared.stepped.Stepped.{Stepped}
use Rattle.session_step.specs.declared.stepped.ToEach.TheVariants as to
use Rattle.session_step.specs.News.{news_for}
use Rattle.session_step.specs.Views.{AreThere, HaveSessions, IsFoundAt, Stands}
use Rattle.session_step.proofs.OpenLemmas.{beside}
use Rattle.session_step.proofs.ViewLemmas.{AreOthers, same_id}
use Rattle.session_step.specs.declared.acted.Acted.{Acted}
use Rattle.session_step.specs.declared.acted.Acted.TheVariants.{Refused, Taken}
use Rattle.session_step.specs.declared.next.NextViews.TheVariants.{All, One, Same}
use Rattle.session_step.specs.PluginEffects.{EventMayCome, HasGrown, HasTable, IsActed}

-- ---- which event may come

-- spans by the ids of their styles stand where the spans do
pub StandIn-with_ids : (len : ℕ) (styles : List Style) (spans : List WireSpan) → AllByRecursion (IsSpanWithin len) spans →
    StandIn len (spans_with_ids styles spans)
StandIn-with_ids len styles [] within = tt
StandIn-with_ids len styles (span ∷ spans) within =
    ((within.0.ordered, within.0.within), StandIn-with_ids len (with_style styles span.style) spans within.1)

-- spans that stand in their range may come to each document in which the plugin has a session
pub EventMayCome-spans : (caller rev start len : ℕ) (spans : List Span) (held : List Opened) → HaveSessions caller held → StandIn len spans →
    EventMayCome (Spans caller rev start len spans) held
EventMayCome-spans caller rev start len spans [] have within = tt
EventMayCome-spans caller rev start len spans (kept ∷ held) have within =
    ((have.0.0, have.0.1, within), EventMayCome-spans caller rev start len spans held have.1 within)

-- what may come to each may come to that which stands there
pub may_come_at : (event : Event) (held : List Opened) (i : ℕ) (none : Opened) → EventMayCome event held → i < length held →
    IsEventFor (length (arc_value (get_or held i none).doc).text.sessions) event
may_come_at event [] i none may below = absurd (omega (arith, below))
may_come_at event (kept ∷ held) zero none may below = may.0
may_come_at event (kept ∷ held) (suc i) none may below = may_come_at event held i none may.1 (omega (arith, below))

-- ---- one view with its next document

set_cut : (held : List Opened) (front : List OpenView) (view : OpenView) (back : List OpenView) (opened : Opened) (document : Document) →
    Stands held (front ++ view ∷ back) → AreOthers view.id front → opened.id ≡ view.id → DocStandsFor (arc_value opened.doc) document →
    Stands (slice_set held (length front) opened) (with_document view.id document (front ++ view ∷ back))
unfolding AreOthers
set_cut [] [] view back opened document stands others id is = absurd stands
set_cut [] (first ∷ front) view back opened document stands others id is = absurd stands
set_cut (kept ∷ held) [] view back opened document stands others id is =
    let At : List OpenView → Type 0 = λ views. Stands (opened ∷ held) views in
    subst At
    (sym (ap (λ same. if same then record view { document = document } ∷ back else view ∷ with_document view.id document back) (same_id view.id)))
    (record { id = id; stands = is }, stands.1)
set_cut (kept ∷ held) (first ∷ front) view back opened document stands others id is =
    let rest = set_cut held front view back opened document stands.1 others.1 id is in
    let At : List OpenView → Type 0 = λ views. Stands (kept ∷ slice_set held (length front) opened) views in
    subst At
    (sym (ap (λ same. if same then record first { document = document } ∷ front ++ view ∷ back else first ∷ with_document view.id document (front ++ view ∷ back))
    others.0))
    (stands.0, rest)

-- the view that stands there has the next document, and all others stay
pub Stands-set : (held : List Opened) (views : List OpenView) (at : ℕ) (view : OpenView) (opened : Opened) (document : Document) → AreThere held views →
    IsFoundAt views at view → opened.id ≡ view.id → DocStandsFor (arc_value opened.doc) document →
    Stands (slice_set held at opened) (with_document view.id document views)
Stands-set held views at view opened document there found id is =
    let parts = subst (AreThere held) found.cut there in
    let others = (beside found.front view found.back parts.1).before in
    let here = set_cut held found.front view found.back opened document parts.0 others id is in
    let At : ℕ → Type 0 = λ n. Stands (slice_set held n opened) (with_document view.id document (found.front ++ view ∷ found.back)) in
    let All : List OpenView → Type 0 = λ all. Stands (slice_set held at opened) (with_document view.id document all) in
    subst All (sym found.cut) (subst At found.place here)

-- ---- what an event in a view came to

pub IsActed-step : (held : List Opened) (views : List OpenView) (at : ℕ) (view : OpenView) (step : EventStep) (next : Doc) (effects : Effects)
    (opened : Opened) (id : List ℕ) (fresh : List NumberedStyle) (reply : PluginReply) (updates : List ViewUpdate) (grown : Option (List Style))
    (news : List PluginNews) → AreThere held views → IsFoundAt views at view → IsEdited step next effects → at < length held → id ≡ view.id →
    opened.id ≡ id → arc_value opened.doc ≡ next → verdict_of reply ≡ gives (body_data effects.body) → updates ≡ updates_for id effects.update →
    map told_of news ≡ news_for id effects.notice → IsActed held None (step_outcome fresh views view step) (Taken (record {
      reply = reply;
      front = record { reply = Silent; styles = fresh; updates = updates; scroll = None };
      grown = grown;
      next = One at opened;
      news = news;
    }))
IsActed-step held views at view step next effects opened id fresh reply updates grown news there found made below own copy shared verdict_is updates_is news_are = (
  refl,
  record {
    verdict = verdict_is ∙ ap (λ body. gives (body_data body)) made.1.body;
    reply = refl;
    styles = refl;
    updates = updates_is ∙ ap (updates_for id) made.1.update ∙ ap (λ own. updates_for own step.update) own;
    scroll = refl;
    place = below;
    stands = Stands-set held views at view opened step.document there found (copy ∙ own) (subst (λ doc. DocStandsFor doc step.document) (sym shared) made.0);
    news = news_are ∙ ap (news_for id) made.1.notice ∙ ap (λ own. news_for own step.notice) own;
  },
)

-- ---- what else comes of an act

-- no view takes a step, and the front end is told this
pub IsActed-told : (held : List Opened) (views : List OpenView) (reply : FrontReply) (styles : List NumberedStyle) (updates : List ViewUpdate)
    (news : List PluginNews) → styles ≡ [] → updates ≡ [] → news ≡ [] → Stands held views →
    IsActed held None (telling views (reply_of reply)) (Taken (record {
      reply = Null;
      front = record { reply = reply; styles = styles; updates = updates; scroll = None };
      grown = None;
      next = Same;
      news = news;
    }))
IsActed-told held views reply styles updates news no_styles no_updates no_news stands = (
  refl,
  record {
    verdict = refl;
    reply = refl;
    styles = no_styles;
    updates = no_updates;
    scroll = refl;
    place = tt;
    stands = stands;
    news = ap (map told_of) no_news;
  },
)

-- the session of a plugin ends in each document
pub IsActed-ended : (held : List Opened) (views : List OpenView) (caller : ℕ) (new : Stepped) (styles : List NumberedStyle) (news : List PluginNews) →
    TakesSteps (to.Ended caller) (record { held = []; updates = [] }) held new → styles ≡ [] → news ≡ [] → Stands held views →
    IsActed held None (ended_outcome caller views) (Taken (record {
      reply = Null;
      front = record { reply = Silent; styles = styles; updates = new.updates; scroll = None };
      grown = None;
      next = All new.held;
      news = news;
    }))
IsActed-ended held views caller new styles news takes no_styles no_news stands =
    let done = takes [] views tt stands in (
      refl,
      record {
        verdict = refl;
        reply = refl;
        styles = no_styles;
        updates = done.1;
        scroll = refl;
        place = tt;
        stands = done.0;
        news = ap (map told_of) no_news;
      },
    )

-- the table that was made is that after the act
pub HasTable-grown : {E : Type 0} (table after : List Style) (grown : Option (List Style)) (came : Result Acted E) → table_after table grown ≡ after →
    IfOk came (HasGrown grown) → IfOk came (HasTable table after)
HasTable-grown table after grown (Err fault) is has = tt
HasTable-grown table after grown (Ok (Refused reply)) is has = tt
HasTable-grown table after grown (Ok (Taken effects)) is has = ap (table_after table) has ∙ is

-- ---- what no plugin asks

-- what is asked is none of this
abbrev pub AsksElse : Act → Type 0
AsksElse (act.Bad fault) = ⊥
AsksElse (act.PluginEdit view rev delta priority after_cursor author named) = ⊥
AsksElse (act.GetData view rev start max) = ⊥
AsksElse (act.UpdateSpans view rev start len spans) = ⊥
AsksElse (act.LineCount view) = ⊥
AsksElse (act.Alert msg) = ⊥
AsksElse (act.Ack view rev) = ⊥
AsksElse act.Ended = ⊥
AsksElse asked = ⊤

pub asks_else : (asked : Act) → ((fault : Fault) → asked ≡ act.Bad fault → ⊥) →
    ((view : List ℕ) (rev : ℕ) (delta : Delta) (priority : ℕ) (after_cursor : Bool) (author : List ℕ) (named : Option ℕ) →
    asked ≡ act.PluginEdit view rev delta priority after_cursor author named → ⊥) →
    ((view : List ℕ) (rev start max : ℕ) → asked ≡ act.GetData view rev start max → ⊥) →
    ((view : List ℕ) (rev start len : ℕ) (spans : List WireSpan) → asked ≡ act.UpdateSpans view rev start len spans → ⊥) →
    ((view : List ℕ) → asked ≡ act.LineCount view → ⊥) → ((msg : List ℕ) → asked ≡ act.Alert msg → ⊥) →
    ((view : List ℕ) (rev : ℕ) → asked ≡ act.Ack view rev → ⊥) → (asked ≡ act.Ended → ⊥) → AsksElse asked
asks_else (act.Bad fault) bad edit read spans count alert ack ended = bad fault refl
asks_else (act.PluginEdit view rev delta priority after_cursor author named) bad edit read spans count alert ack ended =
    edit view rev delta priority after_cursor author named refl
asks_else (act.GetData view rev start max) bad edit read spans count alert ack ended = read view rev start max refl
asks_else (act.UpdateSpans view rev start len said) bad edit read spans count alert ack ended = spans view rev start len said refl
asks_else (act.LineCount view) bad edit read spans count alert ack ended = count view refl
asks_else (act.Alert msg) bad edit read spans count alert ack ended = alert msg refl
asks_else (act.Ack view rev) bad edit read spans count alert ack ended = ack view rev refl
asks_else act.Ended bad edit read spans count alert ack ended = ended refl
asks_else asked bad edit read spans count alert ack ended = tt

-- then no view takes a step, and nothing is told
pub IsActed-else : {E : Type 0} (held : List Opened) (views : List OpenView) (styles : List Style) (caller : ℕ) (asked : Act) (came : Result Acted E) →
    AsksElse asked → IfOk came (IsActed held None (telling views silent)) →
    IfOk came (IsActed held (plugin_refusal views styles caller asked) (plugin_outcome views styles caller asked))
IsActed-else held views styles caller (act.Bad fault) came none told = absurd none
IsActed-else held views styles caller (act.PluginEdit view rev delta priority after_cursor author named) came none told = absurd none
IsActed-else held views styles caller (act.GetData view rev start max) came none told = absurd none
IsActed-else held views styles caller (act.UpdateSpans view rev start len spans) came none told = absurd none
IsActed-else held views styles caller (act.LineCount view) came none told = absurd none
IsActed-else held views styles caller (act.Alert msg) came none told = absurd none
IsActed-else held views styles caller (act.Ack view rev) came none told = absurd none
IsActed-else held views styles caller act.Ended came none told = absurd none
IsActed-else held views styles caller asked came none told = told

pub styles_after-else : (styles : List Style) (asked : Act) → AsksElse asked → styles ≡ styles_after styles asked
styles_after-else styles (act.UpdateSpans view rev start len spans) none = absurd none
styles_after-else styles asked none = refl
