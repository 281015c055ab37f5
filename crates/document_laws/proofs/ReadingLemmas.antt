-- What plugins ask leaves a document as it is, and chunks that are read one after the other are the text.
use Rattle.std.proofs.Common.{◌≡◌, ℕ, ◌+◌, ◌≤◌, ◌-◌, Bool, true, false, ◌||◌, ◌==◌, List, [], ◌∷◌, ◌++◌, length, take, drop, Some, None, refl, ap, ap₂, sym, subst, ◌∙◌, arith, append_assoc, length-append}
use Rattle.std.specs.Prelude.{if◌then◌else◌, nat_le, unwrap_or}
use Rattle.std.specs.List.{concat, AllByRecursion}
use Rattle.std.proofs.Math.Seq.{drop-append_seam, take-append_seam}
use Rattle.std.proofs.lemmas.Bool.{eqb-true}
use Rattle.std.proofs.lemmas.List.{append-nil, take-append-drop}
use Rattle.std.proofs.lemmas.Str.{len_utf8_bounds}
use Rattle.plain_text.specs.Text.{byte_len, gap_from, gap_of}
use Rattle.plain_text.proofs.callers.PlaceLemmas.{gap_from-seam}
use Rattle.plain_edits.specs.History.{head, text_at}
use Rattle.xi_plain.specs.Chunk.{beginning, chunk_at, most_bytes}
use Rattle.xi_plain.specs.declared.config.Config.{Config}
use Rattle.doc_text.specs.Asking.{acknowledgement_refusal}
use Rattle.doc_text.specs.Collecting.{least_acknowledged, with_collection}
use Rattle.doc_text.proofs.ForCallers.{beginning-greatest, byte_len-append, collected_once, collection_of-nothing, reading_refusal-by, take-beginning}
use Rattle.doc_session.specs.declared.event.Event.{Event}
use Rattle.doc_session.specs.declared.event.Event.TheVariants.{Ack, Config as Configure, Count, Edit, Ended, Front, Other, Read, Saved, Spans}
use Rattle.doc_session.specs.Document.{Document, loaded_document}
use Rattle.doc_session.specs.Step.{collected_document, taken_step, with_text}
use Rattle.document_laws.specs.Laws.{AreTaken, AskingIsUnseen, IsAsking, IsCollected, ReadingGivesTheText, TellsNothing, chunks_of, has_empty}

-- ---- what is only asked

taken-same : (d : Document) (event : Event) → IsAsking event → (taken_step d event).document ≡ d
taken-same d (Front act) asks = absurd asks
taken-same d (Edit caller edit named) asks = absurd asks
taken-same d (Spans caller rev start len spans) asks = absurd asks
taken-same d (Read caller rev start max) asks = refl
taken-same d (Count caller) asks = refl
taken-same d (Ack caller rev) asks = absurd asks
taken-same d (Ended caller) asks = absurd asks
taken-same d (Configure config) asks = absurd asks
taken-same d Saved asks = absurd asks
taken-same d Other asks = absurd asks

tells-nothing : (d : Document) (event : Event) → IsAsking event → TellsNothing (taken_step d event)
tells-nothing d (Front act) asks = absurd asks
tells-nothing d (Edit caller edit named) asks = absurd asks
tells-nothing d (Spans caller rev start len spans) asks = absurd asks
tells-nothing d (Read caller rev start max) asks = record { update = refl; scroll = refl; notice = refl }
tells-nothing d (Count caller) asks = record { update = refl; scroll = refl; notice = refl }
tells-nothing d (Ack caller rev) asks = absurd asks
tells-nothing d (Ended caller) asks = absurd asks
tells-nothing d (Configure config) asks = absurd asks
tells-nothing d Saved asks = absurd asks
tells-nothing d Other asks = absurd asks

IsCollected-once : (d : Document) → IsCollected (collected_document d)
IsCollected-once d = ap (λ found. with_text d (with_collection (collected_document d).text found)) (collected_once d.text)

IsCollected-loaded : (text : List ℕ) (plugins limit : ℕ) (config : Config) → IsCollected (loaded_document text plugins limit config)
IsCollected-loaded text plugins limit config =
    let d = loaded_document text plugins limit config in
    ap (λ found. with_text d (with_collection d.text found))
    (collection_of-nothing d.text.history d.text.groups.retired (least_acknowledged (head d.text.history) d.text.sessions) refl)

pub asking_is_unseen : AskingIsUnseen
asking_is_unseen = record {
  loaded = IsCollected-loaded;
  left = λ d event. IsCollected-once (taken_step d event).document;
  same = λ d event asks collected. ap collected_document (taken-same d event asks) ∙ collected;
  untold = λ d event asks.
      let none = tells-nothing d event asks in record { update = none.update; scroll = none.scroll; notice = none.notice };
}

-- ---- one chunk

-- the room that a chunk has
abbrev room_of : ℕ → ℕ
room_of max = if nat_le max most_bytes then max else most_bytes

room-some : (max : ℕ) → 4 ≤ max → 4 ≤ room_of max
room-some max some = by (nat_le max most_bytes)
  where
    by : (less : Bool) → 4 ≤ (if less then max else most_bytes)
    by true = some
    by false = omega arith

-- from the seam of two parts it is a front of the second
chunk-seam : (front rest : List ℕ) (max : ℕ) → chunk_at (front ++ rest) (byte_len front) max ≡ beginning (room_of max) rest
chunk-seam front rest max =
    let start : 0 + length front ≡ length front = omega arith in
    let gap_is : gap_of (front ++ rest) (byte_len front) ≡ length front =
    ap (λ found. unwrap_or found 0) (gap_from-seam 0 front rest) ∙ start in
    ap (λ gap. beginning (room_of max) (drop gap (front ++ rest))) gap_is ∙ ap (beginning (room_of max)) (drop-append_seam front rest)

-- and empty only where that is
beginning-none : (room : ℕ) (rest : List ℕ) → 4 ≤ room → length (beginning room rest) ≡ 0 → rest ≡ []
beginning-none room [] some none = refl
beginning-none room (c ∷ rest) some none =
    let few = (len_utf8_bounds c).1 in
    absurd (omega (arith, none, beginning-greatest room (c ∷ rest) 1 (omega arith) (omega (arith, some, few))))

none-left : (xs ys zs : List ℕ) → xs ≡ [] → xs ≡ ys ++ zs → zs ≡ []
none-left xs ys [] empty cut = refl
none-left xs ys (z ∷ zs) empty cut = absurd (omega (arith, ap length empty, ap length cut, length-append ys (z ∷ zs)))

-- ---- one chunk after the other

module _ (d : Document) (caller rev : ℕ) (collected : IsCollected d) (kept : acknowledgement_refusal d.text.history rev ≡ None) where
  abbrev read_text : List ℕ
  read_text = text_at d.text.history rev

  -- what was read from the end of a front on
  record IsReadFrom (front rest rooms : List ℕ) : Type 0 where
    taken : AreTaken d caller rev (byte_len front) rooms
    left : List ℕ
    cut : rest ≡ concat (chunks_of d caller rev (byte_len front) rooms) ++ left
    whole : has_empty (chunks_of d caller rev (byte_len front) rooms) ≡ true → left ≡ []

  read-from : (front rest rooms : List ℕ) → read_text ≡ front ++ rest → AllByRecursion (λ max. 4 ≤ max) rooms → IsReadFrom front rest rooms
  read-from front rest [] cut enough = record { taken = tt; left = rest; cut = refl; whole = λ is. absurd cc }
  read-from front rest (max ∷ rooms) cut enough =
      let own = beginning (room_of max) rest in
      let behind = drop (length own) rest in
      let parts : rest ≡ own ++ behind =
      sym (take-append-drop (length own) rest) ∙ ap (λ t. t ++ behind) (take-beginning (room_of max) rest) in
      let next = read-from (front ++ own) behind rooms
      (cut ∙ ap (λ t. front ++ t) parts ∙ sym (append_assoc front own behind)) enough.1 in
      let chunk = chunk_at read_text (byte_len front) max in
      let chunk_is : chunk ≡ own = ap (λ t. chunk_at t (byte_len front) max) cut ∙ chunk-seam front rest max in
      let start_is : byte_len front + byte_len chunk ≡ byte_len (front ++ own) =
      ap (λ c. byte_len front + byte_len c) chunk_is ∙ sym (byte_len-append front own) in
      let chunks_are : chunk ∷ chunks_of (collected_document d) caller rev (byte_len front + byte_len chunk) rooms ≡
      own ∷ chunks_of d caller rev (byte_len (front ++ own)) rooms =
      ap₂ (λ e n. chunk ∷ chunks_of e caller rev n rooms) collected start_is ∙
      ap (λ c. c ∷ chunks_of d caller rev (byte_len (front ++ own)) rooms) chunk_is in
      record {
        taken = (
          reading_refusal-by d.text.history rev (byte_len front) read_text kept refl (Some (0 + length front))
              (ap (λ t. gap_from 0 t (byte_len front)) cut ∙ gap_from-seam 0 front rest),
          subst (λ e. AreTaken e caller rev (byte_len front + byte_len chunk) rooms) (sym collected)
              (subst (λ n. AreTaken d caller rev n rooms) (sym start_is) next.taken),
        );
        left = next.left;
        cut =
            subst (λ cs. rest ≡ concat cs ++ next.left) (sym chunks_are)
            (parts ∙ ap (λ t. own ++ t) next.cut ∙ sym (append_assoc own (concat (chunks_of d caller rev (byte_len (front ++ own)) rooms)) next.left));
        whole =
            subst (λ cs. has_empty cs ≡ true → next.left ≡ []) (sym chunks_are)
            (empties rest own (concat (chunks_of d caller rev (byte_len (front ++ own)) rooms)) next.left
            (has_empty (chunks_of d caller rev (byte_len (front ++ own)) rooms))
            (beginning-none (room_of max) rest (room-some max enough.0)) (parts ∙ ap (λ t. own ++ t) next.cut) next.whole);
      }
    where
      empties : (rest own more left : List ℕ) (others : Bool) → (length own ≡ 0 → rest ≡ []) → rest ≡ own ++ (more ++ left) → (others ≡ true → left ≡ []) →
          ((length own == 0) || others) ≡ true → left ≡ []
      empties rest own more left others none cut whole one = by (length own == 0) refl one
        where
          by : (empty : Bool) → (length own == 0) ≡ empty → (empty || others) ≡ true → left ≡ []
          by true is some =
              none-left rest (own ++ more) left (none (eqb-true (length own) 0 is)) (cut ∙ sym (append_assoc own more left))
          by false is some = whole some

pub reading_gives_the_text : ReadingGivesTheText
reading_gives_the_text d caller rev rooms collected kept enough =
    let text = text_at d.text.history rev in
    let read = read-from d caller rev collected kept [] text rooms refl enough in
    let chunks = chunks_of d caller rev 0 rooms in (
      read.taken,
      record {
        front = sym (ap (take (length (concat chunks))) read.cut ∙ take-append_seam (concat chunks) read.left);
        whole = λ some. sym (read.cut ∙ ap (λ t. concat chunks ++ t) (read.whole some) ∙ append-nil (concat chunks));
      },
    )
