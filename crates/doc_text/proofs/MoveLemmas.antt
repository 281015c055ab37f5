-- What an edit that was taken leaves: the texts on both sides of its change, where it takes gaps, and its notice.
use Rattle.std.proofs.Common.{◌≡◌, ℕ, zero, suc, ◌+◌, ◌<◌, ◌≤◌, Bool, true, false, cond, List, [], ◌∷◌, length, map, take, filter, Option, Some, None, refl, ap, ap₂, sym, ◌∙◌, subst, arith, inl, inr}
use Rattle.std.proofs.Math.Nat.{ℕ_set}
use Rattle.std.proofs.Math.Path.{fun_ext}
use Rattle.std.proofs.Math.Logic.{∥∥₁_elim, ∥∥₁_map}
use Rattle.std.specs.Prelude.{if◌then◌else◌, nat_lt, ◌^◌}
use Rattle.std.specs.List.{count_by}
use Rattle.std.specs.Coded.{Coded-set, Unit-prop, coded_list, coded_ℕ, le_prop}
use Rattle.std.proofs.lemmas.Bool.{cases_lt, lt-ltb}
use Rattle.std.proofs.lemmas.List.{length-map, length_push}
use Rattle.std.proofs.lemmas.List.Sums.{sum_by-cons}
use Rattle.std.specs.Arc.{arc_value}
use Rattle.xi_plain.specs.declared.config.Notice.{Notice}
use Rattle.plain_edits.specs.declared.delta.Delta.{Delta}
use Rattle.plain_edits.specs.declared.delta.Misfit.{Misfit}
use Rattle.plain_text.specs.declared.run.Run.{Run}
use Rattle.plain_edits.specs.declared.delta.Added.{Added}
use Rattle.plain_edits.specs.declared.delta.UnitDelta.{UnitDelta}
use Rattle.plain_text.specs.declared.selection.Region.{Region}
use Rattle.plain_edits.specs.Caret.{moved_caret, moved_regions}
use Rattle.plain_edits.specs.HistorySteps.{Step, edits, undoes, collects, after_step}
use Rattle.plain_edits.specs.Delta.{misfit_of}
use Rattle.plain_edits.specs.Edits.{undid, Refusal, unknown, collected, spent, edit_refusal, misfit_or_spent}
use Rattle.plain_edits.specs.Delta.{inserted_len}
use Rattle.plain_edits.specs.History.{Tagged, History, head, is_visible, visible_at, text_at, inserted_count, IsSound}
use Rattle.plain_text.specs.Text.{byte_len}
use Rattle.plain_edits.specs.UnitDelta.{AreRuns, AreAdds, IsUnitDelta}
use Rattle.plain_edits.proofs.callers.HistoryLemmas.{text_at-edited, text_at-undid}
use Rattle.delta_core.specs.Wire.{wire_from, wire_of}
use Rattle.rev_engine.specs.declared.edit.Change.{Change}
use Rattle.rev_engine.specs.State.{State}
use Rattle.rev_engine.specs.declared.edit.UnitEdit.{UnitEdit}
use Rattle.rev_engine.specs.Engine.{StandsFor, IsChange, IsSaidBy}
use Rattle.rev_engine.specs.Given.{AskedEdit, after}
use Rattle.rev_engine.proofs.ForCallers.{formed-stands, inserted_count-plain}
use Rattle.selection_core.specs.Mapped.{mapped_region, mapped_regions, new_gap}
use Rattle.selection_core.specs.Selection.{merged_regions}
use Rattle.selection_core.proofs.ForCallers.{new_gap-after_step}
use Rattle.undo_groups.specs.Groups.{Groups}
use Rattle.edit_groups.specs.declared.typing.Typing.{Typing}
use Rattle.doc_text.specs.declared.engine_step.EngineStep.{EngineStep}
use Rattle.doc_text.specs.Notices.{notice_of, change_delta}
use Rattle.doc_layout.specs.Changed.{IsChangeOf}
use Rattle.doc_text.specs.InMemory.{head_shown}
use Rattle.doc_text.specs.Inner.{EndsWithin, IsAfter, IsSaidOfSome, IsShared, IsStepFrom, SaysSome, StandsForSome}
use Rattle.doc_text.specs.Agree.{Agree}
use Rattle.doc_text.specs.Whole.{IsStateOf, IsWhole, IsWholeOf}
use Rattle.doc_text.proofs.HeadLemmas.{head_shown-stands}

pub head-after : (h : History) (asked : AskedEdit) → head (after h asked) ≡ head h + 1
head-after h asked = length_push h.revisions _

pub sound-given : (engine : State) (h : History) → StandsFor engine h → IsSound h
sound-given engine h stands = (formed-stands engine h stands).sound

-- an undo makes a revision too
pub head-undid : (h : History) (groups : List ℕ) → head (undid h groups) ≡ head h + 1
head-undid h groups = length_push h.revisions _

-- no step changes the text before it
text_at-step : (h : History) (step : Step) → IsSound h → text_at (after_step h step) (head h) ≡ text_at h (head h)
text_at-step h (edits e) sound = text_at-edited h e (head h) sound (omega arith)
text_at-step h (undoes groups) sound = text_at-undid h groups (head h) sound (omega arith)
text_at-step h (collects floor groups) sound = refl

-- the caret rule gives a gap of the text
count_by-take-le : (q : Tagged → Bool) (n : ℕ) (xs : List Tagged) → count_by q (take n xs) ≤ length (filter q xs)
count_by-take-le q zero xs = omega arith
count_by-take-le q (suc n) [] = omega arith
count_by-take-le q (suc n) (x ∷ xs) = omega (arith, sum_by-cons (λ y. cond (q y) 1 0) x (take n xs), by (q x) (count_by-take-le q n xs))
  where
    by : (b : Bool) → count_by q (take n xs) ≤ length (filter q xs) → cond b 1 0 + count_by q (take n xs) ≤ length (cond b (x ∷ filter q xs) (filter q xs))
    by true rest = omega (arith, rest)
    by false rest = omega (arith, rest)

moved_caret-le : (before after : History) (right : Bool) (gap : ℕ) → moved_caret before after right gap ≤ length (visible_at after (head after))
moved_caret-le before after false gap = count_by-take-le (is_visible after.revisions (head after)) _ after.characters
moved_caret-le before after true zero = omega arith
moved_caret-le before after true (suc gap) = count_by-take-le (is_visible after.revisions (head after)) _ after.characters

pub IsChangeOf-taken : (h next : History) (change : Change) → IsChange h next change →
    IsChangeOf (text_at h (head h)) (text_at next (head next)) change.units
IsChangeOf-taken h next change is = record { well_formed = is.canonical.well_formed; base = is.base; leads = sym is.leads }

module _ (h : History) (sound : IsSound h) (step : Step) (change : Change) (is : IsChange h (after_step h step) change) where
  abbrev next : History
  next = after_step h step

  abbrev text : List ℕ
  text = text_at h (head h)

  -- it takes a gap where the caret rule takes a caret
  pub new_gap-moved : (right : Bool) (gap : ℕ) → new_gap change.units right gap ≡ moved_caret h next right gap
  new_gap-moved right gap = new_gap-after_step h step change.units right sound is.kept is.added gap

  pub new_gap-le : (right : Bool) (gap : ℕ) → new_gap change.units right gap ≤ length (text_at next (head next))
  new_gap-le right gap =
      omega (arith, new_gap-moved right gap, moved_caret-le h next right gap, length-map (visible_at next (head next)) (λ (t : Tagged). t.character))

  -- and regions where it takes regions
  regions-moved : (right : Bool) (regions : List Region) → map (mapped_region change.units right) regions ≡ moved_regions h next right regions
  regions-moved right [] = refl
  regions-moved right (region ∷ regions) =
      ap₂ (λ r rs. r ∷ rs)
      (ap₂ (λ anchor caret. record region { anchor = anchor; caret = caret }) (new_gap-moved right region.anchor) (new_gap-moved right region.caret))
      (regions-moved right regions)

  pub mapped_regions-moved : (right : Bool) (regions : List Region) → mapped_regions change.units right regions ≡ merged_regions (moved_regions h next right regions)
  mapped_regions-moved right regions = ap merged_regions (regions-moved right regions)

-- the notice of the change
pub notice-made : (h next : History) (engine : State) (step : EngineStep) (author : ℕ) → StandsFor engine h → IsAfter h next step →
    (notice : Notice) → notice.view ≡ [] → notice.author ≡ author → notice.rev ≡ step.change.rev →
    notice.new_len ≡ byte_len (head_shown (arc_value step.engine)) → notice.delta ≡ wire_of (head_shown engine) step.change.units → notice ≡ notice_of h next author
notice-made h next engine step author was is notice view author_is rev_is len delta =
    ap (λ v. record notice { view = v }) view ∙
    ap (λ a. record notice { view = []; author = a }) author_is ∙
    ap (λ r. record notice { view = []; author = author; rev = r }) (rev_is ∙ is.changes.rev) ∙
    ap (λ n. record notice { view = []; author = author; rev = head next; new_len = n })
    (len ∙ ap byte_len (head_shown-stands (arc_value step.engine) next is.stands)) ∙
    ap (λ (d : Delta). record { view = []; author = author; rev = head next; new_len = byte_len (text_at next (head next)); delta = d })
    (delta ∙ delta-is)
  where
    same : head_shown engine ≡ text_at next (head h)
    same = head_shown-stands engine h was ∙ sym is.text_before

    delta-is : wire_of (head_shown engine) step.change.units ≡ change_delta next (head h) (head next)
    delta-is =
        ap (λ t. wire_of t step.change.units) same ∙
        ap₂ (λ keeps adds. record { els = wire_from keeps adds 0 0 (text_at next (head h)); base_len = byte_len (text_at next (head h)) })
        (fun_ext is.changes.kept) (fun_ext is.changes.added)

-- ---- what was spent

none_within : (a b : Bool) (x y : Refusal) (m : Option Misfit) (limit total : ℕ) →
    (if a then Some x else (if b then Some y else misfit_or_spent m limit total)) ≡ None → total ≤ limit
none_within true b x y m limit total is = absurd cc
none_within false true x y m limit total is = absurd cc
none_within false false x y (Some misfit) limit total is = absurd cc
none_within false false x y None limit total is =
    elim (cases_lt limit total) [
      | inl less ↦ absurd (apart (ap (λ b. if b then Some (spent total) else None) (sym (lt-ltb limit total less)) ∙ is))
      | inr more ↦ more
    ]
  where
    apart : Some (spent total) ≡ None → ⊥
    apart is = cc

pub spent-within : (h : History) (limit : ℕ) (asked : AskedEdit) → edit_refusal h limit asked.base asked.delta ≡ None → inserted_count (after h asked) ≤ limit
spent-within h limit asked accepted =
    omega (
      arith,
      inserted_count-plain h asked.base asked.delta asked.group asked.priority asked.author,
      none_within (nat_lt (head h) asked.base) (nat_lt asked.base h.floor) (unknown (head h)) (collected h.floor)
          (misfit_of (text_at h asked.base) asked.delta) limit (inserted_count h + inserted_len asked.delta.els) accepted,
    )

-- ---- facts that have one proof at most

AreRuns-prop : (base from : ℕ) (runs : List Run) → IsProp (AreRuns base from runs)
AreRuns-prop base from [] = le_prop
AreRuns-prop base from (run ∷ runs) = hlevel (le_prop, AreRuns-prop base run.end runs)

AreAdds-prop : (base from : ℕ) (adds : List Added) → IsProp (AreAdds base from adds)
AreAdds-prop base from [] = Unit-prop
AreAdds-prop base from (added ∷ adds) = hlevel (le_prop, AreAdds-prop base (added.gap + 1) adds)

pub IsUnitDelta-prop : (units : UnitDelta) → IsProp (IsUnitDelta units)
IsUnitDelta-prop units = hlevel (AreRuns-prop units.base 0 units.kept, AreAdds-prop units.base 0 units.added)

-- a change from what the one engine shows to what the other shows, by a history
pub IsChangeOf-stands : (h next : History) (engine now : State) (change : Change) → StandsFor engine h → StandsFor now next →
    IsChange h next change → IsChangeOf (head_shown engine) (head_shown now) change.units
IsChangeOf-stands h next engine now change was stands is =
    let From : List ℕ → Type 0 = λ t. IsChangeOf t (head_shown now) change.units in
    let To : List ℕ → Type 0 = λ t. IsChangeOf (text_at h (head h)) t change.units in
    subst From (sym (head_shown-stands engine h was)) (subst To (sym (head_shown-stands now next stands)) (IsChangeOf-taken h next change is))

-- whatever the history
pub IsChangeOf-shown : (engine copied now : State) (next : History → History) (change : Change) → copied ≡ engine → StandsForSome engine →
    ((h : History) → StandsFor copied h → StandsFor now (next h)) → ((h : History) → StandsFor copied h → IsChange h (next h) change) →
    IsChangeOf (head_shown engine) (head_shown now) change.units
IsChangeOf-shown engine copied now next change same some leaves each =
    let one : (s : (h : History) × StandsFor engine h) → IsChangeOf (head_shown engine) (head_shown now) change.units =
    λ s. let was = subst (λ (e : State). StandsFor e s.0) (sym same) s.1 in
    IsChangeOf-stands s.0 (next s.0) engine now change s.1 (leaves s.0 was) (each s.0 was) in
    record {
      well_formed = ∥∥₁_elim some (IsUnitDelta-prop change.units) (λ s. (one s).well_formed);
      base = ∥∥₁_elim some (ℕ_set _ _) (λ s. (one s).base);
      leads = ∥∥₁_elim some (Coded-set (coded_list coded_ℕ) _ _) (λ s. (one s).leads);
    }

-- the same of an edit in characters
pub IsChangeOf-said : (engine copied now : State) (edit : UnitEdit) (change : Change) → copied ≡ engine → IsSaidOfSome engine edit →
    ((h : History) (asked : AskedEdit) → StandsFor copied h → IsSaidBy h edit asked → StandsFor now (after h asked)) →
    ((h : History) (asked : AskedEdit) → StandsFor copied h → IsSaidBy h edit asked → IsChange h (after h asked) change) →
    IsChangeOf (head_shown engine) (head_shown now) change.units
IsChangeOf-said engine copied now edit change same some leaves each =
    let one : (s : (h : History) × (asked : AskedEdit) × SaysSome engine edit h asked) → IsChangeOf (head_shown engine) (head_shown now) change.units =
    λ s. let stands = s.2.stands in
    let said = s.2.said in
    let was = subst (λ (e : State). StandsFor e s.0) (sym same) stands in
    IsChangeOf-stands s.0 (after s.0 s.1) engine now change stands (leaves s.0 s.1 was said) (each s.0 s.1 was said) in
    record {
      well_formed = ∥∥₁_elim some (IsUnitDelta-prop change.units) (λ s. (one s).well_formed);
      base = ∥∥₁_elim some (ℕ_set _ _) (λ s. (one s).base);
      leads = ∥∥₁_elim some (Coded-set (coded_list coded_ℕ) _ _) (λ s. (one s).leads);
    }

pub IsStepFrom-shared : (engine now : State) (change : Change) (step : EngineStep) → IsShared now change step →
    IsChangeOf (head_shown engine) (head_shown now) change.units → length (head_shown (arc_value step.engine)) < 2 ^ 64 → now.limit ≡ engine.limit →
    IsStepFrom engine step
IsStepFrom-shared engine now change step shared changes counted limit =
    let By : Change → Type 0 = λ c. IsChangeOf (head_shown engine) (head_shown now) c.units in
    let To : State → Type 0 = λ e. IsChangeOf (head_shown engine) (head_shown e) step.change.units in
    record {
      changes = subst To (sym shared.engine_is) (subst By (sym shared.change_is) changes);
      counted = counted;
      limit = ap (λ (e : State). e.limit) shared.engine_is ∙ limit;
    }

-- what the revision makes
pub IsAfter-shared : (h : History) (engine : State) (next : Step) (now : State) (change : Change) (step : EngineStep) →
    StandsFor engine h → head (after_step h next) ≡ head h + 1 → (after_step h next).floor ≡ h.floor → StandsFor now (after_step h next) →
    inserted_count (after_step h next) ≤ now.limit → IsChange h (after_step h next) change → IsShared now change step → IsAfter h (after_step h next) step
IsAfter-shared h engine next now change step was one_more same_floor stands within changes shared =
    let later = after_step h next in
    let At : State → Type 0 = λ e. StandsFor e later in
    let Few : State → Type 0 = λ e. inserted_count later ≤ e.limit in
    record {
      one_more = one_more;
      same_floor = same_floor;
      text_before = text_at-step h next (sound-given engine h was);
      stands = subst At (sym shared.engine_is) stands;
      within = subst Few (sym shared.engine_is) within;
      changes = subst (IsChange h later) (sym shared.change_is) changes;
    }

-- ---- what a revision leaves, whatever the history

module _ (engine : State) (groups : Groups) (typing : Option Typing) (next : History → Step) (step : EngineStep) (whole : IsWhole engine groups typing)
    (each : (h : History) → IsStateOf h engine → IsAfter h (after_step h (next h)) step) where
  -- it takes no gap past the end of the text after it
  pub ends-within : EndsWithin step
  ends-within =
      ∥∥₁_elim whole le_prop (λ (s : (h : History) × IsWholeOf h engine groups typing).
      let h = s.0 in
      let is = each h s.1.state in
      omega (
        arith,
        new_gap-le h (sound-given engine h s.1.state.stands) (next h) step.change is.changes false step.change.units.base,
        ap length (head_shown-stands (arc_value step.engine) (after_step h (next h)) is.stands),
      ))

  pub whole-after : (stack : Groups) (run : Option Typing) → (arc_value step.engine).limit ≡ engine.limit →
      ((h : History) → Agree h.revisions h.collected groups typing →
      Agree (after_step h (next h)).revisions (after_step h (next h)).collected stack run) → IsWhole (arc_value step.engine) stack run
  whole-after stack run same agree =
      ∥∥₁_map whole (λ (s : (h : History) × IsWholeOf h engine groups typing).
      let h = s.0 in
      let was = s.1.state in
      let is = each h was in (
        after_step h (next h),
        record {
          state = record { stands = is.stands; within = is.within; bound = omega (arith, was.bound, same) };
          agree = agree h s.1.agree;
        },
      ))
