-- What an undo and a redo make of the groups of a document, and what a step leaves beside the screen and what it collects.
use Rattle.std.proofs.Common.{◌≡◌, ℕ, ◌+◌, ◌-◌, ◌<◌, ◌≤◌, Bool, true, false, if◌then◌else◌, ◌==◌, List, length, Option, Some, None, refl, ap, ◌∙◌, arith}
use Rattle.std.specs.Prelude.{slice_index}
use Rattle.std.specs.List.{fold}
use Rattle.std.proofs.lemmas.Bool.{eq-eqb, ne_eqb}
use Rattle.std.proofs.lemmas.List.{length_push}
use Rattle.plain_text.specs.Numbers.{with_number}
use Rattle.plain_edits.specs.Collection.{Collection}
use Rattle.plain_edits.specs.Edits.{undid}
use Rattle.plain_edits.specs.History.{History, head, undo, undone}
use Rattle.plain_edits.specs.Undo.{undone_now}
use Rattle.plain_edits.proofs.callers.HistoryLemmas.{undone-undo}
use Rattle.undo_groups.specs.Groups.{Groups, after_opening, forgotten, next_redo, next_undo, undone_one, groups_of}
use Rattle.doc_text.specs.Collecting.{with_collection}
use Rattle.doc_text.specs.Writing.{is_pristine}
use Rattle.doc_text.proofs.ForCallers.{fold_forgotten, part-collected}
use Rattle.plain_screen.specs.Screen.{Screen}
use Rattle.plain_screen.specs.declared.screen.Update.{Update}
use Rattle.doc_layout.specs.declared.asked.Asked.{Asked}
use Rattle.doc_layout.specs.Told.{planned}
use Rattle.doc_view.specs.Told.{is_lacking}
use Rattle.doc_view.specs.View.{asked_in, layout_in}
use Rattle.doc_session.specs.Document.{Document, no_request}
use Rattle.doc_session.specs.Effects.{pristine_from, screen_told, settled}
use Rattle.doc_session.specs.Step.{collected_document, with_text}
use Rattle.document_laws.specs.Laws.{bare_groups}

-- ---- what is told leaves everything but the screen, and what the front end was told

pub part-settled : {X : Type 0} (f : Document → X) (before after : Document) →
    ((screen : Screen) (asked : Asked) → f (record after { view = record after.view { shown = Some asked }; screen = screen }) ≡ f after) →
    f (settled no_request before after) ≡ f after
part-settled f before after same = by (is_lacking before.view after.view no_request (pristine_from before after))
  where
    told_by : Bool → Option Update
    told_by b = if b then Some (planned (asked_in after.view no_request) (layout_in after.view) (is_pristine after.text)) else None

    by : (b : Bool) → f (record after {
      view = if b then record after.view { shown = Some (asked_in after.view no_request) } else after.view;
      screen = screen_told (told_by b) after.screen;
    }) ≡ f after
    by true = same (screen_told (told_by true) after.screen) (asked_in after.view no_request)
    by false = refl

-- ---- a collection leaves what does not read what it collects

-- groups but for the retired ones
pub bare-forgotten : (groups : List ℕ) (s : Groups) → bare_groups (fold forgotten s groups) ≡ bare_groups s
bare-forgotten groups s = ap bare_groups (fold_forgotten s groups)

-- what a step leaves beside its screen and what it collects
pub part-stepped : {X : Type 0} (f : Document → X) (before after : Document) →
    ((screen : Screen) (asked : Asked) → f (record after { view = record after.view { shown = Some asked }; screen = screen }) ≡ f after) →
    ((d : Document) (collection : Collection) → f (with_text d (with_collection d.text (Some collection))) ≡ f d) → f (collected_document (settled no_request before after)) ≡ f after
part-stepped f before after same leaves =
    let next = settled no_request before after in
    part-collected (λ text. f (with_text next text)) next.text (leaves next) ∙ part-settled f before after same

-- ---- undid

pub head-undid : (h : History) (groups : List ℕ) → head (undid h groups) ≡ head h + 1
head-undid h groups = length_push h.revisions (undo groups)

pub undone_now-undid : (h : History) (groups : List ℕ) → undone_now (undid h groups) ≡ groups
undone_now-undid h groups = ap (undone (undid h groups).revisions) (head-undid h groups) ∙ undone-undo h.revisions groups

-- ---- the groups

pub some_undo : (s : Groups) → 0 < s.index → next_undo s ≡ Some (slice_index s.live (s.index - 1))
some_undo s some =
    ap (λ b. if b then None else Some (slice_index s.live (s.index - 1))) (ne_eqb s.index 0 (λ none. omega (arith, none, some)))

pub undone_one-some : (s : Groups) → 0 < s.index →
    undone_one s ≡ groups_of s.live (s.index - 1) s.retired (with_number s.undone (slice_index s.live (s.index - 1))) s.given
undone_one-some s some =
    ap (λ b. if b then s else groups_of s.live (s.index - 1) s.retired (with_number s.undone (slice_index s.live (s.index - 1))) s.given)
    (ne_eqb s.index 0 (λ none. omega (arith, none, some)))

pub undone-undone_one : (s : Groups) (group : ℕ) → next_undo s ≡ Some group → (undone_one s).undone ≡ with_number s.undone group
undone-undone_one s group is = by (s.index == 0) is
  where
    by : (none : Bool) → (if none then None else Some (slice_index s.live (s.index - 1))) ≡ Some group →
        (if none then s else groups_of s.live (s.index - 1) s.retired (with_number s.undone (slice_index s.live (s.index - 1))) s.given).undone ≡
        with_number s.undone group
    by true is = absurd cc
    by false is = let same : slice_index s.live (s.index - 1) ≡ group = cc in ap (with_number s.undone) same

pub next_redo-undone : (s : Groups) → 0 < s.index → s.index ≤ length s.live → next_redo (undone_one s) ≡ Some (slice_index s.live (s.index - 1))
next_redo-undone s some reached =
    ap next_redo (undone_one-some s some) ∙
    ap (λ b. if b then None else Some (slice_index s.live (s.index - 1))) (ne_eqb (s.index - 1) (length s.live) (λ all. omega (arith, all, some, reached)))

pub next_redo-opened : (s : Groups) → next_redo (after_opening s) ≡ None
next_redo-opened s =
    let after = after_opening s in
    ap (λ b. if b then None else Some (slice_index after.live after.index)) (eq-eqb after.index (length after.live) refl)
