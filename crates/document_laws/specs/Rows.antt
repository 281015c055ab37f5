-- Worked rows: what the steps of undo and collection give in small cases.
use Rattle.std.specs.Prelude.{◌≡◌, ℕ, pos, true, false, List, [], ◌∷◌, ◌++◌, Option, Some, None, map}
use Rattle.std.specs.List.{fold}
use Rattle.plain_edits.specs.declared.delta.El.TheVariants as Els
use Rattle.plain_edits.specs.Collection.{kept}
use Rattle.plain_edits.specs.Edits.{collected, unknown}
use Rattle.plain_edits.specs.History.{head}
use Rattle.plain_edits.specs.Styles.{Layer}
use Rattle.plain_edits.specs.declared.style.Span.{Span}
use Rattle.stale_spans.specs.declared.fault.Misplaced.TheVariants as Members
use Rattle.xi_plain.specs.declared.command.EditAct.TheVariants.{DeleteForward, Insert, InsertNewline, InsertTab, Undo, Redo}
use Rattle.xi_plain.specs.declared.config.Config.{Config}
use Rattle.plain_screen.specs.declared.screen.Line.{Line}
use Rattle.doc_session.specs.declared.event.Body.TheVariants.{Edited}
use Rattle.doc_session.specs.declared.event.Event.{Event}
use Rattle.doc_session.specs.declared.event.Event.TheVariants.{Ack, Config as Configure, Edit, Ended, Front, Other, Spans}
use Rattle.doc_text.specs.Writing.{head_text}
use Rattle.doc_session.specs.Document.{Document, layout_of, loaded_document}
use Rattle.doc_text.specs.Refusal.{of_edit, of_range}
use Rattle.doc_session.specs.Step.{event_step, refusal_at}
use Rattle.document_laws.specs.Laws.{after_event}

-- tabs of four columns, and lines that are not wrapped
abbrev pub usual : Config
usual = record { tab = 4; width = 0; spaces = false }

-- an empty document with one plugin, and its text after events
abbrev pub empty_document : Document
empty_document = loaded_document [] 1 100 usual

abbrev pub after_events : List Event → Document
after_events events = fold after_event empty_document events

abbrev pub text_after : List Event → List ℕ
text_after events = head_text (after_events events).text

-- the front end types a character
abbrev pub types : ℕ → Event
types character = Front (Insert (character ∷ []))

-- the plugin puts a character into an empty base, and may name a group
abbrev pub puts : ℕ → ℕ → Option ℕ → Event
puts rev character named = Edit 1 (record {
  rev = rev;
  delta = record { els = Els.Insert (character ∷ []) ∷ []; base_len = 0 };
  priority = 0;
  after_cursor = false;
  author = 0;
  group = 0;
}) named

-- what is one step, and what is not
pub record Steps : Type 0 where
  pub run : text_after (types 97 ∷ types 98 ∷ Front Undo ∷ []) ≡ []
  pub line : text_after (types 97 ∷ Front InsertNewline ∷ types 98 ∷ Front Undo ∷ Front Undo ∷ []) ≡ 97 ∷ []
  pub nothing : text_after (types 97 ∷ Front (Insert []) ∷ types 98 ∷ Front Undo ∷ []) ≡ []
  pub ended : text_after (types 97 ∷ Other ∷ types 98 ∷ Front Undo ∷ []) ≡ 97 ∷ []
  pub redone : text_after (types 97 ∷ Front Undo ∷ Front Redo ∷ []) ≡ 97 ∷ []
  pub at_ends : head (after_events (Front Undo ∷ Front Redo ∷ [])).text.history ≡ 0

-- lines are wrapped at two columns, or tabs are typed as spaces
abbrev pub wraps : Event
wraps = Configure (record usual { width = 2 })

abbrev pub spaces_tabs : Event
spaces_tabs = Configure (record usual { spaces = true })

-- what a change of the configuration comes to
pub record Configures : Type 0 where
  -- the text is laid out anew, and the front end is told, but not where to scroll
  pub pieces : map (λ (line : Line). line.ln) (layout_of (after_events (types 97 ∷ types 32 ∷ types 98 ∷ wraps ∷ []))) ≡ Some 1 ∷ None ∷ []
  pub places : (event_step (after_events (types 97 ∷ types 32 ∷ types 98 ∷ [])) wraps).scroll ≡ None
  -- where no line is another it writes nothing; and it ends a run of typing
  pub still : (event_step (after_events (types 97 ∷ [])) wraps).update ≡ None
  pub ended : text_after (types 97 ∷ Configure usual ∷ types 98 ∷ Front Undo ∷ []) ≡ 97 ∷ []
  -- it makes no revision, and what is typed then follows it
  pub head : head (after_events (types 97 ∷ spaces_tabs ∷ [])).text.history ≡ 1
  pub tabs : text_after (types 97 ∷ Front InsertTab ∷ spaces_tabs ∷ Front InsertTab ∷ []) ≡ 97 ∷ 9 ∷ 32 ∷ 32 ∷ 32 ∷ 32 ∷ []

-- an edit that joins an undone group is hidden on arrival, and comes with a redo
pub record JoinsUndone : Type 0 where
  pub told : (event_step (after_events (types 97 ∷ Front Undo ∷ [])) (puts 2 90 (Some 1))).body ≡ Edited 3 1
  pub hidden : text_after (types 97 ∷ Front Undo ∷ puts 2 90 (Some 1) ∷ []) ≡ []
  pub back : text_after (types 97 ∷ Front Undo ∷ puts 2 90 (Some 1) ∷ Front Redo ∷ []) ≡ 97 ∷ 90 ∷ []

-- the plugin has the text of a revision, and its session ends
abbrev pub acknowledges : ℕ → Event
acknowledges rev = Ack 1 rev

abbrev pub ends : Event
ends = Ended 1

-- a character was typed and undone, and another one was typed: group 1 is cut off
abbrev pub cuts_off : List Event
cuts_off = types 97 ∷ Front Undo ∷ types 98 ∷ []

-- what is collected then, and of whom the session makes wait
pub record Collects : Type 0 where
  -- where no session is open it is collected at once, and its character goes; undo and redo know the rest
  pub at_once : (after_events (ends ∷ cuts_off)).text.history.collected ≡ 1 ∷ []
  pub floor : (after_events (ends ∷ cuts_off)).text.history.floor ≡ 3
  pub dropped : kept (after_events (ends ∷ cuts_off)).text.history ≡ 1
  pub no_redo : text_after (ends ∷ cuts_off ++ Front Redo ∷ []) ≡ 98 ∷ []
  pub redone : text_after (ends ∷ cuts_off ++ Front Undo ∷ Front Redo ∷ []) ≡ 98 ∷ []
  -- a session that has acknowledged no revision from which on it stays undone makes it wait; the head need not be acknowledged
  pub waits : kept (after_events cuts_off).text.history ≡ 2
  pub waits_below : (after_events (cuts_off ++ acknowledges 1 ∷ [])).text.history.collected ≡ []
  pub goes_below : (after_events (cuts_off ++ acknowledges 2 ∷ [])).text.history.collected ≡ 1 ∷ []
  pub floor_below : (after_events (cuts_off ++ acknowledges 2 ∷ [])).text.history.floor ≡ 2
  pub is_told : (after_events (cuts_off ++ acknowledges 3 ∷ [])).text.history.collected ≡ 1 ∷ []
  pub is_over : (after_events (cuts_off ++ ends ∷ [])).text.history.collected ≡ 1 ∷ []
  -- what it has acknowledged does not fall, and is refused above the head and below the floor
  pub stays : (after_events (types 97 ∷ acknowledges 1 ∷ acknowledges 0 ∷ [])).text.sessions ≡ Some 1 ∷ []
  pub above : refusal_at (after_events cuts_off) (acknowledges 4) ≡ Some (of_edit (unknown 3))
  pub below : refusal_at (after_events (cuts_off ++ acknowledges 3 ∷ [])) (acknowledges 2) ≡ Some (of_edit (collected 3))
  pub again : refusal_at (after_events (cuts_off ++ acknowledges 3 ∷ [])) (acknowledges 3) ≡ None
  -- an old edit is refused then, and a run of typing goes on
  pub too_old : refusal_at (after_events (cuts_off ++ acknowledges 3 ∷ [])) (puts 2 90 None) ≡ Some (of_edit (collected 3))
  pub run : text_after (cuts_off ++ acknowledges 3 ∷ types 99 ∷ Front Undo ∷ []) ≡ []
  -- a group that was collected is joined no more
  pub joins : (event_step (after_events (cuts_off ++ Front Undo ∷ acknowledges 4 ∷ [])) (puts 4 90 (Some 1))).body ≡ Edited 5 3

-- a document of `abcd` with one plugin, after events, and the styles of its characters
abbrev pub word_after : List Event → Document
word_after events = fold after_event (loaded_document (97 ∷ 98 ∷ 99 ∷ 100 ∷ []) 1 100 usual) events

abbrev pub styles_after : List Event → List Layer
styles_after events = (word_after events).view.layers

-- the plugin says style 2 of a part of a range of the text of a revision, or clears a range
abbrev pub styles : ℕ → ℕ → ℕ → List Span → Event
styles rev start len spans = Spans 1 rev start len spans

abbrev pub part : ℕ → ℕ → List Span
part start end = record { start = start; end = end; style = 2 } ∷ []

-- what spans come to, and where they go then
pub record SpansOnDocuments : Type 0 where
  -- `bc` of the loaded text, where the front end put `X` at the start since
  pub before : styles_after (types 88 ∷ styles 0 1 2 (part 0 2) ∷ []) ≡ (None ∷ None ∷ Some 2 ∷ Some 2 ∷ None ∷ []) ∷ []
  pub shown : map (λ (line : Line). line.styles) (layout_of (word_after (types 88 ∷ styles 0 1 2 (part 0 2) ∷ []))) ≡
      (record { start = pos 2; len = 2; id = 2 } ∷ []) ∷ []
  -- of the revision that put it
  pub later : styles_after (types 88 ∷ types 89 ∷ styles 1 2 2 (part 0 2) ∷ []) ≡ (None ∷ None ∷ None ∷ Some 2 ∷ Some 2 ∷ None ∷ []) ∷ []
  -- a character that was deleted since is passed over, and has no style when it comes back
  pub gone : styles_after (Front DeleteForward ∷ styles 0 0 2 (part 0 2) ∷ Front Undo ∷ []) ≡ (None ∷ Some 2 ∷ None ∷ None ∷ []) ∷ []
  -- nor has one that lost it by an undo
  pub redone : styles_after (types 88 ∷ styles 1 0 1 (part 0 1) ∷ Front Undo ∷ Front Redo ∷ []) ≡ (None ∷ None ∷ None ∷ None ∷ None ∷ []) ∷ []
  -- a range without spans is cleared
  pub cleared : styles_after (styles 0 1 2 (part 0 2) ∷ styles 0 1 1 [] ∷ []) ≡ (None ∷ None ∷ Some 2 ∷ None ∷ []) ∷ []
  -- no revision is made, and a run of typing goes on
  pub run : head_text (word_after (types 88 ∷ styles 0 1 2 (part 0 2) ∷ types 89 ∷ Front Undo ∷ [])).text ≡ 97 ∷ 98 ∷ 99 ∷ 100 ∷ []
  -- a revision that there is not is refused before a start that is no place, and this before a length
  pub above : refusal_at (word_after []) (styles 1 9 9 []) ≡ Some (of_edit (unknown 0))
  pub start : refusal_at (word_after []) (styles 0 9 9 []) ≡ Some (of_range Members.Start)
  pub len : refusal_at (word_after []) (styles 0 1 9 []) ≡ Some (of_range Members.Len)
  pub taken : refusal_at (word_after []) (styles 0 1 2 (part 0 2)) ≡ None
