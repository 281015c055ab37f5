-- What each step of an engine keeps of its history.
use Rattle.std.proofs.Common.{◌≡◌, ℕ, ◌≤◌, Bool, true, false, ◌||◌, if◌then◌else◌, nat_lt, ◌==◌, Option, Some, None, List, [], ◌∷◌, ◌++◌, length-append, refl, ap, ap₂, sym, ◌∙◌, subst}
use Rattle.std.specs.List.{list_any, AllByRecursion}
use Rattle.std.proofs.lemmas.Bool.{both_ways, eqb-true, ltb-false}
use Rattle.std.proofs.lemmas.List.Folds.{list_any-append}
use Rattle.std.proofs.lemmas.List.Sums.{fold-append}
use Rattle.plain_text.specs.Numbers.{has}
use Rattle.plain_text.proofs.callers.ListLemmas.{AllByRecursion-weaker}
use Rattle.plain_edits.specs.History.{Revision, edit, undo, History, head, loaded, undone}
use Rattle.plain_edits.specs.HistorySteps.{MayEdit, MayUndoSet}
use Rattle.plain_edits.specs.HistorySteps as Steps
use Rattle.plain_edits.specs.Collection.{collected_at, MayCollect}
use Rattle.plain_edits.specs.declared.delta.Delta.{Delta}
use Rattle.plain_edits.specs.Edits.{PlainEdit, edited, undid, is_edit_of, Refusal, unknown, collected, edit_refusal}
use Rattle.plain_edits.specs.Undo.{undone_now}
use Rattle.plain_edits.proofs.callers.HistoryLemmas.{undone-edit, undone-undo}
use Rattle.collection_laws.proofs.ForCallers.{MayForget-loaded, MayForget-after_step}
use Rattle.rev_list.specs.declared.edit.RevEdit.{RevEdit}
use Rattle.rev_list.specs.Edit.{after_edit, edit_revision}
use Rattle.rev_undo.specs.Allowed.{HasEdit}
use Rattle.rev_engine.specs.Given.{AskedEdit, IsTaken, meant}
use Rattle.rev_engine.specs.Asked.{Asked, asks, undoes, collects, after_asked, after_all_asked, IsKnown, IsTakenStep, AreTakenSteps, IsGiven, IsOfEngine}

-- ---- groups that have an edit

or_left : (a b : Bool) → a ≡ true → (a || b) ≡ true
or_left true b is = refl
or_left false b is = absurd cc

-- of one more revision too
HasEdit-more : (h later : History) (last : Revision) (groups : List ℕ) → later.revisions ≡ h.revisions ++ last ∷ [] →
    AllByRecursion (HasEdit h) groups → AllByRecursion (HasEdit later) groups
HasEdit-more h later last groups revisions known =
    AllByRecursion-weaker (HasEdit h) (HasEdit later)
    (λ group is. (
      is.0,
      ap (list_any (is_edit_of group)) revisions ∙ list_any-append (is_edit_of group) h.revisions (last ∷ []) ∙
          or_left (list_any (is_edit_of group) h.revisions) (list_any (is_edit_of group) (last ∷ [])) is.1,
    )) groups known

-- the same of groups that have an edit or are collected
or_more : (a b c : Bool) → (a || c) ≡ true → ((a || b) || c) ≡ true
or_more true b c is = refl
or_more false true c is = refl
or_more false false c is = is

pub IsKnown-more : (h later : History) (last : Revision) (groups : List ℕ) → later.revisions ≡ h.revisions ++ last ∷ [] →
    later.collected ≡ h.collected → AllByRecursion (IsKnown h) groups → AllByRecursion (IsKnown later) groups
IsKnown-more h later last groups revisions same known =
    AllByRecursion-weaker (IsKnown h) (IsKnown later)
    (λ group is. (
      is.0,
      ap₂ (λ a b. a || b) (ap (list_any (is_edit_of group)) revisions ∙ list_any-append (is_edit_of group) h.revisions (last ∷ []))
          (ap (λ (groups : List ℕ). has groups group) same) ∙
          or_more (list_any (is_edit_of group) h.revisions) (list_any (is_edit_of group) (last ∷ [])) (has h.collected group) is.1,
    )) groups known

-- a group without an edit is none of them
pub has-no_edit : (h : History) (group : ℕ) (groups : List ℕ) → AllByRecursion (HasEdit h) groups → list_any (is_edit_of group) h.revisions ≡ false →
    has groups group ≡ false
has-no_edit h group [] known none = refl
has-no_edit h group (g ∷ groups) known none = by (g == group) refl (has-no_edit h group groups known.1 none)
  where
    by : (own : Bool) → (g == group) ≡ own → has groups group ≡ false → (own || has groups group) ≡ false
    by true own rest = absurd (both_ways (list_any (is_edit_of group) h.revisions) none (rw (← eqb-true g group own) known.0.1))
    by false own rest = rest

-- ---- the steps

pub IsOfEngine-loaded : (text : List ℕ) → IsOfEngine (loaded text)
IsOfEngine-loaded text = record { forgets = MayForget-loaded text; undone_known = tt }

pub undone_now-edited : (h : History) (e : PlainEdit) → undone_now (edited h e) ≡ undone_now h
undone_now-edited h e =
    ap (undone (edited h e).revisions) (length-append h.revisions (edit e.base e.group e.priority e.author ∷ [])) ∙
    undone-edit h.revisions e.base e.group e.priority e.author

pub undone_now-after : (h : History) (e : RevEdit) → undone_now (after_edit h e) ≡ undone_now h
undone_now-after h e =
    ap (undone (after_edit h e).revisions) (length-append h.revisions (edit_revision e ∷ [])) ∙
    undone-edit h.revisions e.base e.group e.priority e.author

pub undone_now-undid : (h : History) (groups : List ℕ) → undone_now (undid h groups) ≡ groups
undone_now-undid h groups =
    ap (undone (undid h groups).revisions) (length-append h.revisions (undo groups ∷ [])) ∙ undone-undo h.revisions groups

pub IsOfEngine-edited : (h : History) (e : PlainEdit) → IsOfEngine h → MayEdit h e → IsOfEngine (edited h e)
IsOfEngine-edited h e is may =
    let last : Revision = edit e.base e.group e.priority e.author in
    record {
      forgets = MayForget-after_step h (Steps.edits e) is.forgets may;
      undone_known = rw (undone_now-edited h e) (HasEdit-more h (edited h e) last (undone_now h) refl is.undone_known);
    }

pub IsOfEngine-undid : (h : History) (groups : List ℕ) → IsOfEngine h → MayUndoSet h groups → IsOfEngine (undid h groups)
IsOfEngine-undid h groups is may = record {
  forgets = MayForget-after_step h (Steps.undoes groups) is.forgets may;
  undone_known = rw (undone_now-undid h groups) (HasEdit-more h (undid h groups) (undo groups) groups refl may.allowed.known);
}

pub IsOfEngine-collected : (h : History) (floor : ℕ) (groups : List ℕ) → IsOfEngine h → MayCollect h floor groups → IsOfEngine (collected_at h floor groups)
IsOfEngine-collected h floor groups is may =
    record { forgets = MayForget-after_step h (Steps.collects floor groups) is.forgets may; undone_known = is.undone_known }

passed : (stops : Bool) (cause : Refusal) (rest : Option Refusal) → (if stops then Some cause else rest) ≡ None → (stops ≡ false) × (rest ≡ None)
passed true cause rest none = absurd cc
passed false cause rest none = (refl, none)

-- an edit that is not refused has its base from the floor to the head
base_kept : (h : History) (limit base : ℕ) (delta : Delta) → edit_refusal h limit base delta ≡ None → (h.floor ≤ base) × (base ≤ head h)
base_kept h limit base delta none =
    let known = passed (nat_lt (head h) base) (unknown (head h)) _ none in
    let reached = passed (nat_lt base h.floor) (collected h.floor) _ known.1 in (
      ltb-false base h.floor reached.0,
      ltb-false (head h) base known.0,
    )

-- an edit that is taken may come
pub MayEdit-taken : (limit : ℕ) (h : History) (asked : AskedEdit) → IsTaken limit h asked → MayEdit h (meant h asked)
MayEdit-taken limit h asked taken =
    let kept = base_kept h limit asked.base asked.delta taken.accepted in
    record { known = kept.1; reached = kept.0; is_open = taken.may.group_kept }

IsOfEngine-asked : (limit : ℕ) (h : History) (step : Asked) → IsOfEngine h → IsTakenStep limit h step → IsOfEngine (after_asked h step)
IsOfEngine-asked limit h (asks asked) is taken = IsOfEngine-edited h (meant h asked) is (MayEdit-taken limit h asked taken)
IsOfEngine-asked limit h (undoes groups) is taken = IsOfEngine-undid h groups is taken.allowed
IsOfEngine-asked limit h (collects floor groups) is taken = IsOfEngine-collected h floor groups is taken

IsOfEngine-all : (limit : ℕ) (h : History) (steps : List Asked) → IsOfEngine h → AreTakenSteps limit h steps → IsOfEngine (after_all_asked h steps)
IsOfEngine-all limit h [] is taken = is
IsOfEngine-all limit h (step ∷ steps) is taken = IsOfEngine-all limit (after_asked h step) steps (IsOfEngine-asked limit h step is taken.0) taken.1

-- and so it is of each history that calls give
pub IsOfEngine-given : (limit : ℕ) (h : History) → IsGiven limit h → IsOfEngine h
IsOfEngine-given limit h given = rw given.is (IsOfEngine-all limit (loaded given.text) given.steps (IsOfEngine-loaded given.text) given.taken)

-- ---- the histories that calls give

AreTakenSteps-append : (limit : ℕ) (h : History) (steps : List Asked) (step : Asked) → AreTakenSteps limit h steps →
    IsTakenStep limit (after_all_asked h steps) step → AreTakenSteps limit h (steps ++ step ∷ [])
AreTakenSteps-append limit h [] step are is = (is, tt)
AreTakenSteps-append limit h (first ∷ steps) step are is = (are.0, AreTakenSteps-append limit (after_asked h first) steps step are.1 is)

pub IsGiven-loaded : (limit : ℕ) (text : List ℕ) → IsGiven limit (loaded text)
IsGiven-loaded limit text = record { text = text; steps = []; taken = tt; is = refl }

pub IsGiven-after : (limit : ℕ) (h : History) (step : Asked) → IsGiven limit h → IsTakenStep limit h step → IsGiven limit (after_asked h step)
IsGiven-after limit h step given is = record {
  text = given.text;
  steps = given.steps ++ step ∷ [];
  taken = AreTakenSteps-append limit (loaded given.text) given.steps step given.taken (subst (λ g. IsTakenStep limit g step) given.is is);
  is = ap (λ g. after_asked g step) given.is ∙ sym (fold-append after_asked (loaded given.text) given.steps (step ∷ []));
}
