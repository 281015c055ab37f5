-- The updates that the lines of a piece say.
use Rattle.std.proofs.Common.{◌≡◌, ℕ, ℤ, List, [], ◌∷◌, ◌++◌, map, codes, Option, Some, None, refl, ap, ◌∙◌, append-nil}
use Rattle.std.specs.Prelude.{pos}
use Rattle.std.specs.List.{filter_map, cons_option, AllByRecursion}
use Rattle.serde_json.specs.Data.{Data}
use Rattle.xi_plain.specs.declared.command.Id.{Id}
use Rattle.xi_plain.specs.declared.command.Id.TheVariants.{NoId, Num, Word}
use Rattle.xi_plain.specs.declared.command.Fault.{Fault}
use Rattle.xi_plain.specs.declared.command.Fault.TheVariants.{Parse, Invalid, NoMethod, BadParams}
use Rattle.json_rpc.specs.Line.{line_of, IsLineOf}
use Rattle.json_rpc.specs.Refusal.{code_of, message_of}
use Rattle.json_rpc.specs.Response.{reply_data, error_data}
use Rattle.json_rpc.proofs.ForCallers.{lines_of-lines}
use Rattle.view_update.specs.Notes.{scroll_data, alert_data, style_data}
use Rattle.view_update.specs.Written.{update_data}
use Rattle.view_update.specs.declared.note.ViewUpdate.{ViewUpdate}
use Rattle.view_update.specs.declared.note.Scroll.{Scroll}
use Rattle.view_update.specs.declared.note.NumberedStyle.{NumberedStyle}
use Rattle.view_update.specs.Reading.{line_update}
use Rattle.view_update.proofs.ForCallers.{others_are_no_updates}
use Rattle.entry_lines.specs.Answer.{Reply, accepted, refused, shelf_failed, not_text, spent, alerting, silent, answers, refusal, refused_by, shelf_refusal, text_refusal, spent_refusal}
use Rattle.entry_lines.specs.Piece.{HaveLines, UpdatesReadBack, entry_messages, style_notes, update_notes, scroll_notes}
use Rattle.entry_lines.specs.Laws.{PiecesSayTheirUpdates}

-- the updates that messages say
updates_of : List Data → List (Option ViewUpdate)
updates_of said = filter_map line_update (map line_of said)

-- the updates of messages after messages
cons_option-append : {X : Type 0} (x : Option X) (xs ys : List X) → cons_option x (xs ++ ys) ≡ cons_option x xs ++ ys
cons_option-append None xs ys = refl
cons_option-append (Some x) xs ys = refl

updates_of-append : (front back : List Data) → updates_of (front ++ back) ≡ updates_of front ++ updates_of back
unfolding updates_of
updates_of-append [] back = refl
updates_of-append (m ∷ front) back =
    ap (cons_option (line_update (line_of m))) (updates_of-append front back)
    ∙ cons_option-append (line_update (line_of m)) (filter_map line_update (map line_of front)) (filter_map line_update (map line_of back))

-- a message that is no update says none
updates_of-none : (m : Data) → line_update (line_of m) ≡ None → updates_of (m ∷ []) ≡ []
unfolding updates_of
updates_of-none m none = ap (λ said. cons_option said []) none

updates_of-some : (m : Data) (told : Option ViewUpdate) → line_update (line_of m) ≡ Some told → updates_of (m ∷ []) ≡ told ∷ []
unfolding updates_of
updates_of-some m told some = ap (λ said. cons_option said []) some

updates_of-nil : updates_of [] ≡ []
unfolding updates_of
updates_of-nil = refl

front_all : {X : Type 0} (P : X → Type 0) (xs ys : List X) → AllByRecursion P (xs ++ ys) → AllByRecursion P xs
front_all P [] ys each = tt
front_all P (x ∷ xs) ys each = (each.0, front_all P xs ys each.1)

back_all : {X : Type 0} (P : X → Type 0) (xs ys : List X) → AllByRecursion P (xs ++ ys) → AllByRecursion P ys
back_all P [] ys each = each
back_all P (x ∷ xs) ys each = back_all P xs ys each.1

-- ---- an answer says no update

error_none : (id : Id) (code : ℤ) (text : List ℕ) → IsLineOf (error_data id code text) (line_of (error_data id code text))
    → line_update (line_of (error_data id code text)) ≡ None
error_none id code text line = others_are_no_updates.error id code text (line_of (error_data id code text)) line

refused_none : (id : Id) (code : ℤ) (text : List ℕ) → IsLineOf (refused_by id code text) (line_of (refused_by id code text))
    → line_update (line_of (refused_by id code text)) ≡ None
refused_none NoId code text line = others_are_no_updates.alert text (line_of (alert_data text)) line
refused_none (Num n) code text line = error_none (Num n) code text line
refused_none (Word word) code text line = error_none (Word word) code text line

reply_none : (id : Id) (result : Data) → IsLineOf (reply_data id result) (line_of (reply_data id result))
    → line_update (line_of (reply_data id result)) ≡ None
reply_none id result line = others_are_no_updates.reply id result (line_of (reply_data id result)) line

refusal_none : (id : Id) (fault : Fault) → IsLineOf (refusal id fault) (line_of (refusal id fault)) → line_update (line_of (refusal id fault)) ≡ None
refusal_none id Parse line = error_none NoId (code_of Parse) (message_of Parse) line
refusal_none id Invalid line = error_none NoId (code_of Invalid) (message_of Invalid) line
refusal_none id (NoMethod name) line = refused_none id (code_of (NoMethod name)) (message_of (NoMethod name)) line
refusal_none id (BadParams name) line = refused_none id (code_of (BadParams name)) (message_of (BadParams name)) line

updates_of-answers : (id : Id) (reply : Reply) → HaveLines (answers id reply) → updates_of (answers id reply) ≡ []
updates_of-answers NoId (accepted result) lines = updates_of-nil
updates_of-answers (Num n) (accepted result) lines = updates_of-none (reply_data (Num n) result) (reply_none (Num n) result lines.0)
updates_of-answers (Word text) (accepted result) lines = updates_of-none (reply_data (Word text) result) (reply_none (Word text) result lines.0)
updates_of-answers id (refused fault) lines = updates_of-none (refusal id fault) (refusal_none id fault lines.0)
updates_of-answers id shelf_failed lines = updates_of-none (shelf_refusal id) (refused_none id (pos 1) (codes "shelf") lines.0)
updates_of-answers id not_text lines = updates_of-none (text_refusal id) (refused_none id (pos 2) (codes "not text") lines.0)
updates_of-answers id spent lines = updates_of-none (spent_refusal id) (refused_none id (pos 3) (codes "spent") lines.0)
updates_of-answers id (alerting message) lines =
    updates_of-none (alert_data message) (others_are_no_updates.alert message (line_of (alert_data message)) lines.0)
updates_of-answers id silent lines = updates_of-nil

-- ---- the notes

updates_of-style_notes : (styles : List NumberedStyle) → HaveLines (style_notes styles) → updates_of (style_notes styles) ≡ []
updates_of-style_notes [] lines = updates_of-nil
updates_of-style_notes (numbered ∷ styles) lines =
    let said = style_data numbered.id numbered.style in
    updates_of-append (said ∷ []) (style_notes styles)
    ∙ ap (λ first. first ++ updates_of (style_notes styles))
    (updates_of-none said (others_are_no_updates.style numbered.id numbered.style (line_of said) lines.0))
    ∙ updates_of-style_notes styles lines.1

updates_of-update_notes : (updates : List ViewUpdate) → UpdatesReadBack updates → updates_of (update_notes updates) ≡ map Some updates
updates_of-update_notes [] reads = updates_of-nil
updates_of-update_notes (told ∷ updates) reads =
    let said = update_data told.view told.update in
    updates_of-append (said ∷ []) (update_notes updates)
    ∙ ap (λ first. first ++ updates_of (update_notes updates)) (updates_of-some said (Some told) reads.0)
    ∙ ap (λ rest. Some told ∷ rest) (updates_of-update_notes updates reads.1)

updates_of-scroll_notes : (scroll : Option Scroll) → HaveLines (scroll_notes scroll) → updates_of (scroll_notes scroll) ≡ []
updates_of-scroll_notes None lines = updates_of-nil
updates_of-scroll_notes (Some place) lines =
    updates_of-none (scroll_data place.view place.line place.col)
    (others_are_no_updates.scroll place.view place.line place.col (line_of (scroll_data place.view place.line place.col)) lines.0)

-- ---- a piece

updates_of-messages : (id : Id) (reply : Reply) (styles : List NumberedStyle) (updates : List ViewUpdate) (scroll : Option Scroll)
    → HaveLines (entry_messages id reply styles updates scroll) → UpdatesReadBack updates
    → updates_of (entry_messages id reply styles updates scroll) ≡ map Some updates
updates_of-messages id reply styles updates scroll lines reads =
    let P : Data → Type 0 = λ m. IsLineOf m (line_of m) in
    let last = update_notes updates ++ scroll_notes scroll in
    let notes = style_notes styles ++ last in
    let after = back_all P (answers id reply) notes lines in
    let later = back_all P (style_notes styles) last after in
    updates_of-append (answers id reply) notes
    ∙ ap (λ front. front ++ updates_of notes) (updates_of-answers id reply (front_all P (answers id reply) notes lines))
    ∙ updates_of-append (style_notes styles) last
    ∙ ap (λ front. front ++ updates_of last) (updates_of-style_notes styles (front_all P (style_notes styles) last after))
    ∙ updates_of-append (update_notes updates) (scroll_notes scroll)
    ∙ ap (λ front. front ++ updates_of (scroll_notes scroll)) (updates_of-update_notes updates reads)
    ∙ ap (λ back. map Some updates ++ back) (updates_of-scroll_notes scroll (back_all P (update_notes updates) (scroll_notes scroll) later))
    ∙ append-nil (map Some updates)

pub pieces_say_their_updates : PiecesSayTheirUpdates
unfolding updates_of
pieces_say_their_updates id reply styles updates scroll lines reads =
    ap (filter_map line_update) (lines_of-lines (entry_messages id reply styles updates scroll))
    ∙ updates_of-messages id reply styles updates scroll lines reads
