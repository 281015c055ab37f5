-- What entries of plugins write: they scroll nothing, and tell each style once.
use Rattle.std.proofs.Common.{◌≡◌, ℕ, ◌+◌, Bool, true, false, List, [], ◌∷◌, ◌++◌, length, Option, Some, None, refl, ap, sym, ◌∙◌, codes, append_assoc, append-nil, arith}
use Rattle.std.specs.List.{AllByRecursion}
use Rattle.std.specs.Str.{bytes_eq, encode_utf8_all}
use Rattle.serde_json.specs.Data.{Data, string}
use Rattle.serde_json.specs.Find.{get}
use Rattle.plain_screen.specs.declared.screen.Update.{Update}
use Rattle.plain_edits.specs.declared.style.Style.{Style}
use Rattle.xi_plain.specs.declared.command.Act.{Act}
use Rattle.xi_plain.specs.declared.command.Act.TheVariants as act
use Rattle.xi_plain.specs.declared.command.Id.{Id}
use Rattle.xi_plain.specs.declared.entry.Entry.{Entry}
use Rattle.xi_plain.specs.declared.span.WireSpan.{WireSpan}
use Rattle.span_styles.specs.Table.{next_id}
use Rattle.style_numbers.specs.Numbers.{defined_by, id_of, new_by, new_style, new_styles, spans_with_ids, styles_with, with_style}
use Rattle.view_update.specs.Notes.{alert_data, style_data}
use Rattle.view_update.specs.Written.{update_data}
use Rattle.view_update.specs.declared.note.NumberedStyle.{NumberedStyle}
use Rattle.view_update.specs.declared.note.ViewUpdate.{ViewUpdate}
use Rattle.entry_lines.specs.Answer.{Reply, answers}
use Rattle.entry_lines.specs.Piece.{style_notes, update_notes}
use Rattle.entry_lines.proofs.ForCallers.{all_append}
use Rattle.doc_session.specs.declared.event.Event.{Event}
use Rattle.doc_session.specs.declared.event.Event.TheVariants.{Spans}
use Rattle.session_step.specs.Accepted.{Accepts, AcceptsBy, AreAcceptedFrom}
use Rattle.session_step.specs.PluginStep.{AskedEvent, PluginOutcome, asked_event, asked_outcome, event_outcome, event_refusal, plugin_messages, plugin_outcome, plugin_refusal, spans_of}
use Rattle.session_step.specs.Session.{OpenView, Session, first_session, is_front, messages_by, named_view, session_after, step, step_by}
use Rattle.session_laws.specs.Laws.{IsScrolling, PluginsScrollNothing, StylesAreToldOnce, styles_with_ids, styles_by, styles_told}

-- ---- nothing scrolls

abbrev ScrollNothing : List Data → Type 0
ScrollNothing messages = AllByRecursion (λ message. IsScrolling message → ⊥) messages

-- whether the method that a message has is that one
is_scroll_to : Option Data → Bool
is_scroll_to (Some (string name)) = bytes_eq name (encode_utf8_all (codes "scroll_to"))
is_scroll_to method = false

asks_else : (message : Data) → is_scroll_to (get (codes "method") message) ≡ false → IsScrolling message → ⊥
unfolding is_scroll_to lib.Utf8.encode
asks_else message other is = by (sym other ∙ ap is_scroll_to is)
  where
    by : false ≡ true → ⊥
    by clash = cc

alert_else : (msg : List ℕ) → IsScrolling (alert_data msg) → ⊥
unfolding is_scroll_to lib.Utf8.encode
alert_else msg = asks_else (alert_data msg) refl

style_else : (id : ℕ) (style : Style) → IsScrolling (style_data id style) → ⊥
unfolding is_scroll_to lib.Utf8.encode
style_else id style = asks_else (style_data id style) refl

update_else : (view : List ℕ) (update : Update) → IsScrolling (update_data view update) → ⊥
unfolding is_scroll_to lib.Utf8.encode
update_else view update = asks_else (update_data view update) refl

styles_still : (styles : List NumberedStyle) → ScrollNothing (style_notes styles)
styles_still [] = tt
styles_still (numbered ∷ styles) = (style_else numbered.id numbered.style, styles_still styles)

updates_still : (updates : List ViewUpdate) → ScrollNothing (update_notes updates)
updates_still [] = tt
updates_still (told ∷ updates) = (update_else told.view told.update, updates_still updates)

-- the front end is told an alert at most
IsNoAnswer : Reply → Type 0
IsNoAnswer reply = (id : Id) → ScrollNothing (answers id reply)

event_still : (fresh : List NumberedStyle) (views : List OpenView) (found : Option OpenView) (event : Event) → IsNoAnswer (event_outcome fresh views found event).reply
unfolding IsNoAnswer
event_still fresh views None event id = tt
event_still fresh views (Some view) event id = tt

asked_still : (fresh : List NumberedStyle) (views : List OpenView) (asked : Option AskedEvent) → IsNoAnswer (asked_outcome fresh views asked).reply
unfolding IsNoAnswer
asked_still fresh views None id = tt
asked_still fresh views (Some asked) id = event_still fresh views (named_view views asked.view) asked.event id

reply_still : (views : List OpenView) (styles : List Style) (caller : ℕ) (asks : Act) → IsNoAnswer (plugin_outcome views styles caller asks).reply
unfolding IsNoAnswer
reply_still views styles caller (act.Alert msg) id = (alert_else msg, tt)
reply_still views styles caller act.Ended id = tt
reply_still views styles caller asks id = asked_still (new_styles styles (spans_of asks)) views (asked_event styles caller asks) id

still : (id : Id) (done : PluginOutcome) → IsNoAnswer done.reply → ScrollNothing (plugin_messages id done)
unfolding IsNoAnswer
still id done none =
    all_append (λ message. IsScrolling message → ⊥) (answers id done.reply) _ (none id)
    (all_append (λ message. IsScrolling message → ⊥) (style_notes done.styles) _ (styles_still done.styles)
    (all_append (λ message. IsScrolling message → ⊥) (update_notes done.updates) [] (updates_still done.updates) tt))

pub plugins_scroll_nothing : PluginsScrollNothing
plugins_scroll_nothing session entry other = by (is_front entry) other
  where
    by : (front : Bool) → front ≡ false → ScrollNothing (messages_by front session entry)
    by true is = absurd cc
    by false is =
        still entry.command.id (plugin_outcome session.views session.styles entry.caller entry.command.act)
        (reply_still session.views session.styles entry.caller entry.command.act)

-- ---- each style is told once

with_ids-append : (id : ℕ) (styles : List Style) (style : Style) →
    styles_with_ids id (styles ++ style ∷ []) ≡ styles_with_ids id styles ++ record { id = id + length styles; style = style } ∷ []
with_ids-append id [] style = let same : id ≡ id + 0 = omega arith in ap (λ n. record { id = n; style = style } ∷ []) same
with_ids-append id (first ∷ styles) style =
    let same : id + 1 + length styles ≡ id + length (first ∷ styles) = omega arith in
    ap (λ rest. record { id = id; style = first } ∷ rest) (with_ids-append (id + 1) styles style) ∙
    ap (λ n. record { id = id; style = first } ∷ (styles_with_ids (id + 1) styles ++ record { id = n; style = style } ∷ [])) same

one_more : (styles : List Style) (style : Style) → styles_with_ids 2 (with_style styles style) ≡ styles_with_ids 2 styles ++ new_style styles style
one_more styles style = by (id_of styles style)
  where
    by : (id : Option ℕ) → styles_with_ids 2 (defined_by id styles style) ≡ styles_with_ids 2 styles ++ new_by id styles style
    by (Some id) = sym (append-nil (styles_with_ids 2 styles))
    by None =
        let same : 2 + length styles ≡ next_id styles = omega arith in
        with_ids-append 2 styles style ∙ ap (λ n. styles_with_ids 2 styles ++ record { id = n; style = style } ∷ []) same

all_more : (styles : List Style) (spans : List WireSpan) → styles_with_ids 2 (styles_with styles spans) ≡ styles_with_ids 2 styles ++ new_styles styles spans
all_more styles [] = sym (append-nil (styles_with_ids 2 styles))
all_more styles (span ∷ spans) =
    let next = with_style styles span.style in
    all_more next spans ∙ ap (λ front. front ++ new_styles next spans) (one_more styles span.style) ∙
    append_assoc (styles_with_ids 2 styles) (new_style styles span.style) (new_styles next spans)

-- what is taken tells the styles that are new
fresh_event : (fresh : List NumberedStyle) (views : List OpenView) (found : Option OpenView) (event : Event) → event_refusal found event ≡ None →
    (event_outcome fresh views found event).styles ≡ fresh
fresh_event fresh views None event taken = absurd cc
fresh_event fresh views (Some view) event taken = refl

no_event : (views : List OpenView) (found : Option OpenView) (event : Event) → (event_outcome [] views found event).styles ≡ []
no_event views None event = refl
no_event views (Some view) event = refl

told_new : (views : List OpenView) (styles : List Style) (caller : ℕ) (asks : Act) → plugin_refusal views styles caller asks ≡ None →
    (plugin_outcome views styles caller asks).styles ≡ new_styles styles (spans_of asks)
told_new views styles caller (act.Alert msg) taken = refl
told_new views styles caller act.Ended taken = refl
told_new views styles caller (act.UpdateSpans view rev start len spans) taken =
    fresh_event (new_styles styles spans) views (named_view views view) (Spans caller rev start len (spans_with_ids styles spans)) taken
told_new views styles caller (act.PluginEdit view rev delta priority after_cursor author named) taken = no_event views (named_view views view) _
told_new views styles caller (act.GetData view rev start max) taken = no_event views (named_view views view) _
told_new views styles caller (act.LineCount view) taken = no_event views (named_view views view) _
told_new views styles caller (act.Ack view rev) taken = no_event views (named_view views view) _
told_new views styles caller asks taken = refl

told_entry : (session : Session) (entry : Entry) → Accepts session entry →
    styles_with_ids 2 (step session entry).styles ≡ styles_with_ids 2 session.styles ++ styles_by (is_front entry) session entry
told_entry session entry accepts = by (is_front entry) accepts
  where
    by : (front : Bool) → AcceptsBy front session entry →
        styles_with_ids 2 (step_by front session entry).styles ≡ styles_with_ids 2 session.styles ++ styles_by front session entry
    by true are = sym (append-nil (styles_with_ids 2 session.styles))
    by false are =
        all_more session.styles (spans_of entry.command.act) ∙
        ap (λ fresh. styles_with_ids 2 session.styles ++ fresh) (sym (told_new session.views session.styles entry.caller entry.command.act are.taken))

told_entries : (session : Session) (entries : List Entry) → AreAcceptedFrom session entries →
    styles_with_ids 2 (session_after session entries).styles ≡ styles_with_ids 2 session.styles ++ styles_told session entries
told_entries session [] are = sym (append-nil (styles_with_ids 2 session.styles))
told_entries session (entry ∷ entries) are =
    let rest = styles_told (step session entry) entries in
    told_entries (step session entry) entries are.1 ∙ ap (λ front. front ++ rest) (told_entry session entry are.0) ∙
    append_assoc (styles_with_ids 2 session.styles) (styles_by (is_front entry) session entry) rest

pub styles_are_told_once : StylesAreToldOnce
styles_are_told_once terms journal are = sym (told_entries (first_session terms) journal are)
