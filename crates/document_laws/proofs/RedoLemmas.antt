-- Undo and redo after one another, and how many undos there are.
use Rattle.std.proofs.Common.{◌≡◌, ◌⊎◌, ℕ, zero, suc, ◌+◌, ◌-◌, ◌<◌, ◌≤◌, true, false, if◌then◌else◌, List, [], ◌∷◌, ◌++◌, length, take, drop, Option, Some, None, refl, ap, ap₂, sym, ◌∙◌, inl, inr, arith, append_assoc}
use Rattle.std.specs.Prelude.{slice_index}
use Rattle.std.proofs.lemmas.Bool.{cases_lt, or_cases, eq-eqb}
use Rattle.std.proofs.lemmas.List.{take-append-drop, take_more, drop_more}
use Rattle.plain_text.specs.Numbers.{has, with_number}
use Rattle.number_set.proofs.ForCallers.{has-append, has-one, has-own, has-take, no, parted}
use Rattle.plain_edits.specs.Edits.{undid}
use Rattle.plain_edits.specs.History.{Revision, undo, History, head, text_at, IsSound}
use Rattle.plain_edits.specs.Undo.{undone_now}
use Rattle.plain_edits.proofs.callers.HistoryLemmas.{text_at-undid_back}
use Rattle.undo_groups.specs.Groups.{Groups, IsStack, next_redo, next_undo, redone_one, undone_one}
use Rattle.undo_groups.specs.Laws.{RedoTakesUndoBack as StackLaw}
use Rattle.doc_text.specs.Collecting.{AreAcknowledged, HasNoneLeft, collection_after, with_collection}
use Rattle.doc_text.specs.Laws.{GoesOn}
use Rattle.doc_text.specs.Writing.{head_text}
use Rattle.doc_session.specs.Document.{Document, no_request}
use Rattle.doc_view.specs.declared.looking.Viewing.TheVariants.{Other as NoCommand}
use Rattle.doc_session.specs.Effects.{settled}
use Rattle.doc_session.specs.Step.{collected_document, history_step, taken_step, undone_document, viewed_document, with_text}
use Rattle.doc_text.proofs.ForCallers.{HasNoneLeft-later, IsLast-next_undo, collected_once, fold_forgotten, has-next_undo, nothing_after}
use Rattle.document_laws.specs.Laws.{IsNewestLeft, NewGroupEndsRedo, after_event, after_redo, after_undo, after_undos}
use Rattle.document_laws.proofs.GroupLemmas.{head-undid, next_redo-opened, next_redo-undone, part-settled, part-stepped, some_undo, undone-undone_one, undone_now-undid, undone_one-some}

-- the document after an undo, where there is one
after_undo-some : (d : Document) (group : ℕ) → next_undo d.text.groups ≡ Some group →
    after_undo d ≡ collected_document (settled no_request d (undone_document d (undone_one d.text.groups)))
after_undo-some d group found = ap (λ o. collected_document (history_step d o (undone_one d.text.groups)).document) found

after_redo-some : (d : Document) (group : ℕ) → next_redo d.text.groups ≡ Some group →
    after_redo d ≡ collected_document (settled no_request d (undone_document d (redone_one d.text.groups)))
after_redo-some d group found = ap (λ o. collected_document (history_step d o (redone_one d.text.groups)).document) found

-- ---- nothing is collected at a new revision, where nothing waited before

module _ (d : Document) (are : AreAcknowledged d.text.history d.text.sessions) (left : HasNoneLeft d.text) where
  none_left : (e : Document) (more : List Revision) → GoesOn d.text e.text more → HasNoneLeft e.text
  none_left e more on = HasNoneLeft-later d.text e.text more are on left

  none_collected : (e : Document) (more : List Revision) → GoesOn d.text e.text more → collected_document e ≡ e
  none_collected e more on = ap (λ found. with_text e (with_collection e.text found)) (nothing_after e.text (none_left e more on))

  pub redo_after_undo : StackLaw → IsSound d.text.history → undone_now d.text.history ≡ d.text.groups.undone → IsStack d.text.groups → 0 < d.text.groups.index →
      (head_text (after_redo (after_undo d)).text ≡ head_text d.text) × ((after_redo (after_undo d)).text.groups ≡ d.text.groups)
  redo_after_undo law sound undone stack some =
      let s = d.text.groups in
      let group = slice_index s.live (s.index - 1) in
      let next = undone_document d (undone_one s) in
      let d1 = after_undo d in
      let is1 : d1 ≡ settled no_request d next =
      after_undo-some d group (some_undo s some) ∙
      none_collected (settled no_request d next) (undo (undone_one s).undone ∷ []) (record {
        revisions = part-settled (λ (x : Document). x.text.history.revisions) d next (λ screen asked. refl);
        collected = part-settled (λ (x : Document). x.text.history.collected) d next (λ screen asked. refl);
        sessions = part-settled (λ (x : Document). x.text.sessions) d next (λ screen asked. refl);
        retired = part-settled (λ (x : Document). x.text.groups.retired) d next (λ screen asked. refl) ∙ ap (λ (g : Groups). g.retired) (undone_one-some s some);
      }) in
      let groups1 : d1.text.groups ≡ undone_one s = ap (λ (x : Document). x.text.groups) is1 ∙ part-settled (λ (x : Document). x.text.groups) d next (λ screen asked. refl) in
      let history1 : d1.text.history ≡ undid d.text.history (undone_one s).undone = ap (λ (x : Document). x.text.history) is1 ∙ part-settled (λ (x : Document). x.text.history) d next (λ screen asked. refl) in
      let found : next_redo d1.text.groups ≡ Some group = ap next_redo groups1 ∙ next_redo-undone s some stack.reached in
      let next2 = undone_document d1 (redone_one d1.text.groups) in
      let back : redone_one d1.text.groups ≡ s = ap redone_one groups1 ∙ law s stack some in
      let is2 : after_redo d1 ≡ settled no_request d1 next2 =
      after_redo-some d1 group found ∙
      none_collected (settled no_request d1 next2) (undo (undone_one s).undone ∷ undo (redone_one d1.text.groups).undone ∷ []) (record {
        revisions = part-settled (λ (x : Document). x.text.history.revisions) d1 next2 (λ screen asked. refl) ∙
            ap (λ (h : History). h.revisions ++ undo (redone_one d1.text.groups).undone ∷ []) history1 ∙
            append_assoc d.text.history.revisions (undo (undone_one s).undone ∷ []) (undo (redone_one d1.text.groups).undone ∷ []);
        collected = part-settled (λ (x : Document). x.text.history.collected) d1 next2 (λ screen asked. refl) ∙ ap (λ (h : History). h.collected) history1;
        sessions = part-settled (λ (x : Document). x.text.sessions) d1 next2 (λ screen asked. refl) ∙ ap (λ (x : Document). x.text.sessions) is1 ∙
            part-settled (λ (x : Document). x.text.sessions) d next (λ screen asked. refl);
        retired = part-settled (λ (x : Document). x.text.groups.retired) d1 next2 (λ screen asked. refl) ∙ ap (λ (g : Groups). g.retired) back;
      }) in
      let history2 : (after_redo d1).text.history ≡ undid (undid d.text.history (undone_one s).undone) (undone_now d.text.history) =
      ap (λ (x : Document). x.text.history) is2 ∙ part-settled (λ (x : Document). x.text.history) d1 next2 (λ screen asked. refl) ∙
      ap₂ (λ h (g : Groups). undid h g.undone) history1 back ∙ ap (undid (undid d.text.history (undone_one s).undone)) (sym undone) in
      let once = undid d.text.history (undone_one s).undone in
      let heads : head (undid once (undone_now d.text.history)) ≡ head d.text.history + 2 =
      omega (arith, head-undid once (undone_now d.text.history), head-undid d.text.history (undone_one s).undone) in (
        ap (λ h. text_at h (head h)) history2 ∙ ap (text_at (undid once (undone_now d.text.history))) heads ∙ text_at-undid_back d.text.history (undone_one s).undone sound,
        ap (λ (x : Document). x.text.groups) is2 ∙ part-settled (λ (x : Document). x.text.groups) d1 next2 (λ screen asked. refl) ∙ back,
      )

pub new_group_ends_redo : NewGroupEndsRedo
new_group_ends_redo plain event opened =
    let d = after_event plain event in
    let still = viewed_document d NoCommand in
    let none : next_redo d.text.groups ≡ None = ap next_redo opened ∙ next_redo-opened plain.text.groups in
    let spent : collection_after (settled no_request d still).text ≡ None = collected_once (taken_step plain event).document.text in (
      none,
      ap (λ o. (collected_document (history_step d o (redone_one d.text.groups)).document).text.history) none ∙
          ap (λ found. (with_collection (settled no_request d still).text found).history) spent ∙ part-settled (λ (x : Document). x.text.history) d still (λ screen asked. refl),
    )

-- the newest that is left
pub newest_left : (d : Document) (group : ℕ) → undone_now d.text.history ≡ d.text.groups.undone → IsStack d.text.groups → next_undo d.text.groups ≡ Some group → IsNewestLeft d group
newest_left d group undone stack found = record {
  is_live = has-take s.index s.live group there;
  is_done = ap (λ us. has us group) undone ∙ stack.done group there;
  is_last = λ other live done. last other live (ap (λ us. has us other) (sym undone) ∙ done);
}
  where
    s : Groups
    s = d.text.groups

    there : has (take s.index s.live) group ≡ true
    there = has-next_undo s group stack found

    last : (other : ℕ) → has s.live other ≡ true → has s.undone other ≡ false → other ≤ group
    last other live done =
        let is = IsLast-next_undo s group found in
        let some = is.some in
        let back : s.index - 1 + 1 ≡ s.index = omega (arith, some) in
        let inside : s.index - 1 < length s.live = omega (arith, some, stack.reached) in
        let front : take s.index s.live ≡ take (s.index - 1) s.live ++ group ∷ [] =
        ap (λ i. take i s.live) (sym back) ∙ take_more s.live (s.index - 1) 0 inside ∙ ap (λ g. take (s.index - 1) s.live ++ g ∷ []) is.is in
        let rest : drop (s.index - 1) s.live ≡ group ∷ drop (s.index - 1 + 1) s.live =
        drop_more s.live (s.index - 1) 0 inside ∙ ap (λ g. g ∷ drop (s.index - 1 + 1) s.live) is.is in
        let own : has (drop (s.index - 1) s.live) group ≡ true = ap (λ xs. has xs group) rest ∙ has-own group (drop (s.index - 1 + 1) s.live) in
        elim (or_cases (has (take s.index s.live) other) (has (drop s.index s.live) other)
        (sym (has-append (take s.index s.live) (drop s.index s.live) other) ∙ ap (λ xs. has xs other) (take-append-drop s.index s.live) ∙ live)) [
          | inl before ↦ elim (or_cases (has (take (s.index - 1) s.live) other) (has (group ∷ []) other)
              (sym (has-append (take (s.index - 1) s.live) (group ∷ []) other) ∙ ap (λ xs. has xs other) (sym front) ∙ before)) [
                | inl earlier ↦ omega (arith, parted (s.index - 1) s.live other group stack.live_rise earlier own)
                | inr same ↦ omega (arith, has-one group other same)
              ]
          | inr undone_there ↦ no (has s.undone other) (stack.taken_back other undone_there) done
        ]

pub undone_newest : (d : Document) (group : ℕ) → undone_now d.text.history ≡ d.text.groups.undone → next_undo d.text.groups ≡ Some group →
    undone_now (after_undo d).text.history ≡ with_number (undone_now d.text.history) group
undone_newest d group undone found =
    let next = undone_document d (undone_one d.text.groups) in
    ap (λ (x : Document). undone_now x.text.history) (after_undo-some d group found) ∙
    part-stepped (λ (x : Document). undone_now x.text.history) d next (λ screen asked. refl) (λ x collection. refl) ∙
    undone_now-undid d.text.history (undone_one d.text.groups).undone ∙ undone-undone_one d.text.groups group found ∙ ap (λ us. with_number us group) (sym undone)

-- ---- how many undos there are

-- a step's screen and what it collects leave head and index
head-stepped : (before after : Document) → head (collected_document (settled no_request before after)).text.history ≡ head after.text.history
head-stepped before after = part-stepped (λ (x : Document). head x.text.history) before after (λ screen asked. refl) (λ x collection. refl)

index-stepped : (before after : Document) → (collected_document (settled no_request before after)).text.groups.index ≡ after.text.groups.index
index-stepped before after =
    part-stepped (λ (x : Document). x.text.groups.index) before after (λ screen asked. refl)
    (λ x collection. ap (λ (g : Groups). g.index) (fold_forgotten x.text.groups collection.groups))

-- each makes a revision and leaves one fewer, or does neither
measure : (d : Document) → head (after_undo d).text.history + (after_undo d).text.groups.index ≡ head d.text.history + d.text.groups.index
measure d =
    elim (cases_lt 0 d.text.groups.index) [
      | inl some ↦ taken some
      | inr none ↦ at_end (omega (arith, none))
    ]
  where
    taken : 0 < d.text.groups.index → head (after_undo d).text.history + (after_undo d).text.groups.index ≡ head d.text.history + d.text.groups.index
    taken some =
        let s = d.text.groups in
        let next = undone_document d (undone_one s) in
        let is = after_undo-some d (slice_index s.live (s.index - 1)) (some_undo s some) in
        let heads : head (after_undo d).text.history ≡ head d.text.history + 1 =
        ap (λ (x : Document). head x.text.history) is ∙ head-stepped d next ∙ head-undid d.text.history (undone_one s).undone in
        let index : (after_undo d).text.groups.index ≡ s.index - 1 =
        ap (λ (x : Document). x.text.groups.index) is ∙ index-stepped d next ∙ ap (λ (g : Groups). g.index) (undone_one-some s some) in
        omega (arith, heads, index, some)

    at_end : d.text.groups.index ≡ 0 → head (after_undo d).text.history + (after_undo d).text.groups.index ≡ head d.text.history + d.text.groups.index
    at_end none =
        let still = viewed_document d NoCommand in
        let found : next_undo d.text.groups ≡ None =
        ap (λ b. if b then None else Some (slice_index d.text.groups.live (d.text.groups.index - 1))) (eq-eqb d.text.groups.index 0 none) in
        let is : after_undo d ≡ collected_document (settled no_request d still) =
        ap (λ o. collected_document (history_step d o (undone_one d.text.groups)).document) found in
        ap₂ (λ a b. a + b) (ap (λ (x : Document). head x.text.history) is ∙ head-stepped d still)
        (ap (λ (x : Document). x.text.groups.index) is ∙ index-stepped d still)

pub head-undos : (n : ℕ) (d : Document) → head (after_undos n d).text.history ≤ head d.text.history + d.text.groups.index
head-undos zero d = omega arith
head-undos (suc n) d = omega (arith, head-undos n (after_undo d), measure d)
