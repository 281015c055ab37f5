-- An undo takes a run of typing back whole.
use Rattle.std.proofs.Common.{◌≡◌, ◌≢◌, ℕ, ◌+◌, ◌++◌, length, Bool, true, false, if◌then◌else◌, List, [], ◌∷◌, Option, Some, None, refl, ap, sym, ◌∙◌, subst, arith}
use Rattle.std.specs.List.{concat, list_any}
use Rattle.plain_text.specs.Numbers.{with_number}
use Rattle.plain_text.specs.declared.selection.Region.{Region}
use Rattle.xi_plain.specs.declared.command.EditAct.TheVariants.{Insert}
use Rattle.edit_ops.specs.Commands.{Effect}
use Rattle.selection_core.specs.Mapped.{AreWithin}
use Rattle.plain_edits.specs.Collection.{Collection}
use Rattle.plain_edits.specs.Edits.{undid, is_edit_of}
use Rattle.plain_edits.specs.History.{head, text_at, IsSound}
use Rattle.plain_edits.specs.Undo.{undone_now}
use Rattle.rev_engine.specs.Given.{meant}
use Rattle.undo_groups.specs.Groups.{Groups, after_opening, next_undo, undone_one}
use Rattle.edit_groups.specs.declared.typing.Kind.{Kind}
use Rattle.edit_groups.specs.declared.typing.Kind.TheVariants as Kinds
use Rattle.edit_groups.specs.declared.typing.Typing.{Typing}
use Rattle.edit_groups.specs.Grouping.{group_by, groups_by, run_group}
use Rattle.edit_groups.specs.Typing.{run_on, run_with}
use Rattle.doc_session.specs.Asking.{front_edit}
use Rattle.doc_text.specs.Collecting.{collection_after, with_collection}
use Rattle.doc_view.specs.View.{View, pieces_in}
use Rattle.doc_text.specs.Writing.{head_text}
use Rattle.doc_session.specs.Document.{Document, no_request}
use Rattle.doc_session.specs.Effects.{pristine_from, settled}
use Rattle.doc_session.specs.Step.{collected_document, effect_on, history_step, no_edit_step, is_idle, selected_document, taken_step, typed_document, typed_step, undone_document, with_text}
use Rattle.doc_text.proofs.ForCallers.{next_undo-opened}
use Rattle.doc_session.proofs.ForCallers.{effect-some, part-settled as view-settled, typing-some, typing-within}
use Rattle.doc_session.specs.declared.event.Event.TheVariants.{Front}
use Rattle.document_laws.specs.Laws.{after_event, after_typing, after_undo, bare_groups}
use Rattle.document_laws.proofs.GroupLemmas.{bare-forgotten, head-undid, part-stepped, undone-undone_one}
use Rattle.document_laws.proofs.RunLemmas.{IsRun, IsRun-first, IsRun-more, text_at-run}

abbrev inserts : Option Kind
inserts = Some Kinds.Insert

-- the group that a document opens next, and the run of insertions in it
abbrev next_group : Document → ℕ
next_group start = start.text.groups.given + 1

abbrev run_of : Document → Typing
run_of start = record { kind = Kinds.Insert; group = next_group start }

-- a document is in a run of insertions that began at `start`
abbrev IsInRun : Document → Document → Type 0
IsInRun start document =
    IsRun start.text.history document.text.history (next_group start) × (bare_groups document.text.groups ≡ bare_groups (after_opening start.text.groups)) ×
    (document.text.typing ≡ Some (run_of start))

-- before it, no run of insertions goes on, and the next group is new
abbrev IsBefore : Document → Type 0
IsBefore document =
    IsSound document.text.history × (undone_now document.text.history ≡ document.text.groups.undone) ×
    (list_any (is_edit_of (next_group document)) document.text.history.revisions ≡ false) × (run_on document.text.typing inserts ≡ None)

settled-IsInRun : (start before after : Document) → IsInRun start after → IsInRun start (settled no_request before after)
settled-IsInRun start before after is = is

settled-IsBefore : (before after : Document) → IsBefore after → IsBefore (settled no_request before after)
settled-IsBefore before after is = is

-- and of what is collected
collected-IsInRun : (start after : Document) → IsInRun start after → IsInRun start (collected_document after)
collected-IsInRun start after is = by (collection_after after.text)
  where
    run : IsRun start.text.history after.text.history (next_group start)
    run = is.0

    by : (found : Option Collection) → IsInRun start (with_text after (with_collection after.text found))
    by None = is
    by (Some collection) = (
      record { sound = run.sound; more = run.more; revisions = run.revisions; own = run.own; text = run.text },
      bare-forgotten collection.groups after.text.groups ∙ is.1,
      is.2,
    )

collected-IsBefore : (after : Document) → IsBefore after → IsBefore (collected_document after)
collected-IsBefore after is = by (collection_after after.text)
  where
    by : (found : Option Collection) → IsBefore (with_text after (with_collection after.text found))
    by None = is
    by (Some collection) =
        let same = bare-forgotten collection.groups after.text.groups in (
          is.0,
          is.1 ∙ sym (ap (λ (g : Groups). g.undone) same),
          ap (λ (g : Groups). list_any (is_edit_of (g.given + 1)) after.text.history.revisions) same ∙ is.2,
          is.3,
        )

-- the effect of characters that are typed
abbrev typing : Document → List ℕ → Effect
typing document chars = effect_on document (Insert chars)

-- the first edit
first_typed : (start : Document) (effect : Effect) → IsBefore start → IsInRun start (typed_document start inserts effect)
first_typed start effect is =
    let joined = run_group (run_on start.text.typing inserts) in
    let joined_is : joined ≡ None = ap run_group is.3 in
    let asked = front_edit start joined effect.replacements in
    let group_is : asked.group ≡ next_group start = ap (group_by start.text.groups) joined_is in (
      IsRun-first start.text.history (meant start.text.history asked) (next_group start) is.0 group_is,
      ap (λ j. bare_groups (groups_by start.text.groups j)) joined_is,
      ap (λ g. run_with inserts g) group_is,
    )

-- a further one
more_typed : (start document : Document) (effect : Effect) → IsInRun start document → IsInRun start (typed_document document inserts effect)
more_typed start document effect is =
    let joined = run_group (run_on document.text.typing inserts) in
    let joined_is : joined ≡ Some (next_group start) = ap (λ t. run_group (run_on t inserts)) is.2 in
    let asked = front_edit document joined effect.replacements in
    let group_is : asked.group ≡ next_group start = ap (group_by document.text.groups) joined_is in (
      IsRun-more start.text.history document.text.history (meant document.text.history asked) (next_group start) is.0 group_is,
      ap (λ j. bare_groups (groups_by document.text.groups j)) joined_is ∙ is.1,
      ap (λ g. run_with inserts g) group_is,
    )

-- characters that are no edit
still_typed : (start document : Document) (regions : List Region) → IsInRun start document → IsInRun start (selected_document document inserts regions)
still_typed start document regions is = (is.0, is.1, ap (λ t. run_on t inserts) is.2)

one_run : (start document : Document) (chars : List ℕ) → IsInRun start document → IsInRun start (after_event document (Front (Insert chars)))
one_run start document chars is = collected-IsInRun start (taken_step document (Front (Insert chars))).document (by (is_idle document (typing document chars)))
  where
    by : (idle : Bool) → IsInRun start
        (if idle then no_edit_step document (Insert chars) (typing document chars) else typed_step document (Insert chars) (typing document chars)).document
    by true =
        let next = selected_document document inserts (typing document chars).regions in
        settled-IsInRun start document next (still_typed start document (typing document chars).regions is)
    by false =
        let next = typed_document document inserts (typing document chars) in
        settled-IsInRun start document next (more_typed start document (typing document chars) is)

runs : (start : Document) (texts : List (List ℕ)) (document : Document) → IsInRun start document → IsInRun start (after_typing document texts)
runs start [] document is = is
runs start (chars ∷ texts) document is = runs start texts (after_event document (Front (Insert chars))) (one_run start document chars is)

-- the undo
run_undone : (start document : Document) → IsBefore start → IsInRun start document → head_text (after_undo document).text ≡ head_text start.text
run_undone start document before is =
    let group = next_group start in
    let groups = undone_one document.text.groups in
    let found : next_undo document.text.groups ≡ Some group = ap next_undo is.1 ∙ next_undo-opened start.text.groups in
    let set : groups.undone ≡ with_number (undone_now start.text.history) group =
    undone-undone_one document.text.groups group found ∙ ap (λ (g : Groups). with_number g.undone group) is.1 ∙
    ap (λ us. with_number us group) (sym before.1) in
    ap (λ o. head_text (collected_document (history_step document o groups).document).text) found ∙
    part-stepped (λ (x : Document). head_text x.text) document (undone_document document groups) (λ screen asked. refl) (λ x collection. refl) ∙
    ap (text_at (undid document.text.history groups.undone)) (head-undid document.text.history groups.undone) ∙
    ap (λ us. text_at (undid document.text.history us) (head document.text.history + 1)) set ∙
    text_at-run start.text.history document.text.history group is.0 (omega arith) before.2

-- there is a region, and regions lie in the text
abbrev pub HasRegions : Document → Type 0
HasRegions document = (document.view.regions ≢ []) × AreWithin (length document.view.text) document.view.regions

-- characters that are no edit leave the text
settled-HasRegions : (before after : Document) → HasRegions after → HasRegions (settled no_request before after)
settled-HasRegions before after has =
    let At : List ℕ × List Region → Type 0 = λ p. (p.1 ≢ []) × AreWithin (length p.0) p.1 in
    subst At (sym (view-settled (λ (v : View). (v.text, v.regions)) before.view after.view no_request (pristine_from before after) refl)) has

-- nor what is collected
collected-HasRegions : (after : Document) → HasRegions after → HasRegions (collected_document after)
collected-HasRegions after has = by (collection_after after.text)
  where
    by : (found : Option Collection) → HasRegions (with_text after (with_collection after.text found))
    by None = has
    by (Some collection) = has

-- they are none
none_typed : (plain : Document) (chars : List ℕ) → HasRegions plain → is_idle plain (typing plain chars) ≡ true → chars ≡ []
none_typed plain [] has idle = refl
none_typed plain (c ∷ chars) has idle = absurd (typing-some plain.view.text (c ∷ chars) plain.view.regions (λ none. cc) has.0 has.1 idle)

pub run_taken_back : (texts : List (List ℕ)) (plain : Document) → IsBefore plain → HasRegions plain → concat texts ≢ [] →
    head_text (after_undo (after_typing plain texts)).text ≡ head_text plain.text
run_taken_back [] plain is has some = absurd (some refl)
run_taken_back (chars ∷ texts) plain is has some = by (run_taken_back texts) (is_idle plain (typing plain chars)) refl
  where
    effect : Effect
    effect = typing plain chars

    by : ((document : Document) → IsBefore document → HasRegions document → concat texts ≢ [] →
        head_text (after_undo (after_typing document texts)).text ≡ head_text document.text) → (idle : Bool) → is_idle plain effect ≡ idle → head_text (after_undo (after_typing
        (collected_document (if idle then no_edit_step plain (Insert chars) effect else typed_step plain (Insert chars) effect).document) texts)).text ≡ head_text plain.text
    by later true idle =
        let next = selected_document plain inserts effect.regions in
        let still : IsBefore next = (is.0, is.1, is.2, ap (λ t. run_on t inserts) is.3) in
        let left : HasRegions next = (
          effect-some plain.view.config plain.view.text (pieces_in plain.view) plain.view.regions has.0 (Insert chars),
          typing-within plain.view.text chars plain.view.regions has.1 idle,
        ) in
        let rest : concat texts ≢ [] = λ empty. some (ap (λ t. t ++ concat texts) (none_typed plain chars has idle) ∙ empty) in
        later (collected_document (settled no_request plain next)) (collected-IsBefore (settled no_request plain next) (settled-IsBefore plain next still))
        (collected-HasRegions (settled no_request plain next) (settled-HasRegions plain next left)) rest ∙
        part-stepped (λ (x : Document). head_text x.text) plain next (λ screen asked. refl) (λ x collection. refl)
    by later false idle =
        let next = typed_document plain inserts effect in
        let first = collected_document (settled no_request plain next) in
        run_undone plain (after_typing first texts) is
        (runs plain texts first (collected-IsInRun plain (settled no_request plain next) (settled-IsInRun plain plain next (first_typed plain effect is))))
