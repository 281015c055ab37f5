-- The last step of an edit: what is put in is the edit step of every history that the engine stands for.
use Rattle.std.proofs.Common.{◌≡◌, ℕ, ◌+◌, ◌^◌, ◌<◌, ◌≤◌, Bool, false, List, [], ◌∷◌, length, length-append, refl, ap, ap₂, sym, ◌∙◌, subst, None, Some, arith}
use Rattle.std.proofs.Math.Logic.{∥∥₁_elim, ∥∥₁_map}
use Rattle.std.proofs.Math.Nat.{ℕ_set}
use Rattle.std.proofs.lemmas.List.{length-map}
use Rattle.std.specs.List.{AllByRecursion}
use Rattle.plain_edits.specs.declared.delta.UnitDelta.{UnitDelta}
use Rattle.plain_edits.specs.UnitDelta.{IsCanonical}
use Rattle.plain_text.specs.Text.{byte_len}
use Rattle.plain_text.specs.Numbers.{has}
use Rattle.plain_edits.specs.History.{History, edit as revision, head, text_at}
use Rattle.plain_edits.specs.Edits.{PlainEdit, edited, edit_refusal, spent}
use Rattle.plain_edits.specs.Undo.{undone_now}
use Rattle.plain_edits.specs.Delta.{inserted_len}
use Rattle.plain_edits.proofs.callers.HistoryLemmas.{IsSound-edited, text_at-edited}
use Rattle.delta_core.specs.Units.{IsUnitsOf}
use Rattle.delta_core.specs.Synthesis.{IsBetween}
use Rattle.plain_edits.specs.HistorySteps.{MayEdit}
use Rattle.plain_edits.specs.HistorySteps as Steps
use Rattle.collection_laws.specs.Left.{left_of}
use Rattle.collection_laws.proofs.ForCallers.{MayForget-after_step, left_of-edited}
use Rattle.rev_list.specs.declared.edit.RevEdit.{RevEdit}
use Rattle.rev_list.specs.Edit.{after_edit, edit_revision}
use Rattle.rev_list.specs.Hidden.{IsKeptAt, hidden_at}
use Rattle.rev_list.specs.WithoutText.{insertion_flags, in_positions, without_text}
use Rattle.rev_list.proofs.ForCallers.{step_without_text}
use Rattle.rev_rebase.specs.Rebase.{added_text, characters_of, put_in}
use Rattle.rev_rebase.proofs.ForCallers.{insertion_flags-textless, deletion_flags-textless, step-text}
use Rattle.rev_engine.specs.declared.edit.Edit.{Edit}
use Rattle.rev_engine.specs.declared.edit.UnitEdit.{UnitEdit}
use Rattle.rev_engine.specs.declared.edit.Change.{Change}
use Rattle.rev_engine.specs.declared.step.Fitting.{Fitting}
use Rattle.rev_engine.specs.Given.{AskedEdit, IsTaken, MayAsk, after, meant}
use Rattle.rev_engine.specs.State.{IsHeld, IsHistoryOf, IsLeftOf, State, shown_at}
use Rattle.rev_engine.specs.Inner.{IsAnswered, IsBasedOn, IsFitting, IsNext, IsPutIn}
use Rattle.rev_engine.specs.Engine.{IsChange, IsChangeBy, IsSaidBy, StandsFor, asked_by, in_characters}
use Rattle.rev_engine.specs.Asked.{asks, IsKnown}
use Rattle.rev_engine.proofs.AskedLemmas.{IsGiven-after, IsKnown-more, IsOfEngine-edited, MayEdit-taken, undone_now-after}
use Rattle.rev_engine.proofs.LeftLemmas.{IsChange-left}
use Rattle.rev_engine.proofs.NextLemmas.{GoesOn, IsChangeBy-between, goes-on-by, some-after, some-left}
use Rattle.rev_engine.proofs.ByteLemmas.{byte_len-least, byte_len-most, byte_len-outside, byte_len-put_in}
use Rattle.rev_engine.proofs.HeadLemmas.{IsChangeBy-head}
use Rattle.rev_engine.proofs.PlacedLemmas.{longer-flags, members-flags}
use Rattle.rev_engine.proofs.SpentLemmas.{inserted_count-plain, length-added_text}
use Rattle.rev_engine.proofs.StandLemmas.{IsHistoryOf-left, IsHistoryOf-stands, IsLeftOf-said, accepted-fitting, collected-is, collected-stands, floor-is, floor-stands, forgets-stands, head-is, head-stands, length-shown_at, refused-spent, shown-history, shown-stands}

-- ---- what a fitting edit asks for

pub IsBasedOn-of : (union : List ℕ) (revisions : History) (rev : ℕ) (units : UnitDelta) → revisions.floor ≤ rev → rev ≤ head revisions →
    length union ≡ length revisions.characters → units.base ≡ length (shown_at union revisions rev) → IsBasedOn union revisions rev units
IsBasedOn-of union revisions rev units kept known positions base = record {
  base_kept = kept;
  base_known = known;
  alive = base ∙ length-shown_at union revisions rev positions;
  positions = positions;
}

pub based-fitting : (engine : State) (rev : ℕ) (fitting : Fitting) → length engine.union ≡ length engine.revisions.characters →
    IsFitting engine rev fitting → IsBasedOn engine.union engine.revisions rev fitting.edit.units
based-fitting engine rev fitting positions is =
    IsBasedOn-of engine.union engine.revisions rev fitting.edit.units is.base_kept is.base_known positions is.base

-- there is room for its characters
module _ (engine : State) (text : List ℕ) (rev : ℕ) (fitting : Fitting) (held : IsHeld engine.union text engine.revisions engine.limit engine.spent)
    (is : IsFitting engine rev fitting) where
  pub fits-bytes : byte_len engine.union + byte_len (added_text fitting.edit.units) < 2 ^ 64
  fits-bytes = omega (arith, held.bound, is.room.is, is.room.within, byte_len-most (added_text fitting.edit.units))

  pub fits-characters : length engine.revisions.characters + length (added_text fitting.edit.units) < 2 ^ 64
  fits-characters = omega (arith, fits-bytes, held.positions, byte_len-least engine.union, byte_len-least (added_text fitting.edit.units))

-- ---- the edit step of a history

-- the edit in positions does not depend on the text
positions-textless : (h : History) (e : PlainEdit) → in_positions (without_text h) e ≡ in_positions h e
positions-textless h e =
    ap₂ (λ (inserted deleted : List Bool). record {
      base = e.base;
      priority = e.priority;
      group = e.group;
      author = e.author;
      inserted = inserted;
      deleted = deleted;
    }) (insertion_flags-textless h e) (deletion_flags-textless h e)

pub head-next : (h : History) (e : RevEdit) → head (after_edit h e) ≡ head h + 1
head-next h e = length-append h.revisions (revision e.base e.group e.priority e.author ∷ [])

head-step : (h : History) (e : PlainEdit) → head (edited h e) ≡ head h + 1
head-step h e = length-append h.revisions (revision e.base e.group e.priority e.author ∷ [])

pub positions-history : (union : List ℕ) (revisions h : History) → IsHistoryOf union revisions h → length union ≡ length revisions.characters
positions-history union revisions h is =
    ap length is.union_is ∙ (length-map h.characters _ ∙ (sym (length-map h.characters _) ∙ sym (ap (λ (g : History). length g.characters) is.revisions_is)))

module _ (union : List ℕ) (revisions : History) (rev : ℕ) (edit : UnitEdit) (base : edit.units.base ≡ length (shown_at union revisions rev))
    (union_after : List ℕ) (revisions_after : History) (put : IsPutIn union revisions rev edit union_after revisions_after) where
  abbrev step : PlainEdit
  step = in_characters rev edit

  module _ (h : History) (is : IsHistoryOf union revisions h) where
    pub IsHistoryOf-after : IsHistoryOf union_after revisions_after (edited h step)
    IsHistoryOf-after = record {
      sound = IsSound-edited h step is.sound;
      union_is =
          put.union_is ∙
          (ap (λ xs. put_in (insertion_flags revisions step) (added_text edit.units) xs) is.union_is ∙
          sym (step-text revisions rev edit.units edit.priority edit.author (insertion_flags revisions step) (added_text edit.units)
          (base ∙ length-shown_at union revisions rev (positions-history union revisions h is)) refl refl h (sym is.revisions_is)));
      revisions_is =
          put.revisions_is ∙
          (ap₂ after_edit is.revisions_is (ap (λ g. in_positions g step) is.revisions_is ∙ positions-textless h step) ∙ step_without_text h step);
    }

  -- what leads between the two heads is the change
  pub IsChangeBy-stale : (h : History) → IsHistoryOf union revisions h → (units : UnitDelta) (from : ℕ) → from ≡ head revisions →
      IsBetween union_after (hidden_at revisions_after from) (hidden_at revisions_after (head revisions_after)) units →
      IsChangeBy h (edited h step) units
  IsChangeBy-stale h is units from from_is between =
      IsChangeBy-between union union_after revisions revisions_after (λ g. edited g step) IsHistoryOf-after h is units from
      (text_at-edited h step (head h) is.sound (omega arith)) from_is between

  module _ (h : History) (is : IsHistoryOf union revisions h) where
    -- an edit against the head is its change, where its group is not undone
    pub IsChangeBy-short : rev ≡ head revisions → has (undone_now revisions) edit.group ≡ false → IsCanonical edit.units →
        IsChangeBy h (edited h step) edit.units
    IsChangeBy-short at_head live canonical =
        IsChangeBy-head h rev edit is.sound (at_head ∙ ap head is.revisions_is) (rw is.revisions_is at live) canonical
        (base ∙ ap length (shown-history union revisions h rev is ∙ ap (text_at h) (at_head ∙ ap head is.revisions_is)))

-- ---- the parts after it go together

module _ (engine : State) (text : List ℕ) (rev : ℕ) (fitting : Fitting) (held : IsHeld engine.union text engine.revisions engine.limit engine.spent)
    (is : IsFitting engine rev fitting) (union_after : List ℕ) (revisions_after : History)
    (put : IsPutIn engine.union engine.revisions rev fitting.edit union_after revisions_after) where
  based : IsBasedOn engine.union engine.revisions rev fitting.edit.units
  based = based-fitting engine rev fitting held.positions is

  bytes-union : byte_len union_after ≡ byte_len (added_text fitting.edit.units) + byte_len engine.union
  bytes-union =
      ap byte_len put.union_is ∙
      byte_len-put_in (insertion_flags engine.revisions (in_characters rev fitting.edit)) (added_text fitting.edit.units) engine.union
      (longer-flags engine.union engine.revisions rev fitting.edit based) (members-flags engine.union engine.revisions rev fitting.edit based)

  pub short-after : (at : ℕ) → byte_len (shown_at union_after revisions_after at) < 2 ^ 64
  short-after at =
      omega (arith, byte_len-outside (hidden_at revisions_after at) union_after, bytes-union, fits-bytes engine text rev fitting held is)

  gone_on : (h : History) → IsHistoryOf engine.union engine.revisions h → IsHistoryOf union_after revisions_after (edited h (in_characters rev fitting.edit))
  gone_on h of = IsHistoryOf-after engine.union engine.revisions rev fitting.edit is.base union_after revisions_after put h of

  some : ∥ ((h : History) × IsHistoryOf engine.union engine.revisions h) ∥₁
  some = some-left engine.union engine.revisions held.some

  some_later : ∥ ((h : History) × IsHistoryOf union_after revisions_after h) ∥₁
  some_later = some-after engine.union union_after engine.revisions revisions_after (λ h. edited h (in_characters rev fitting.edit)) gone_on some

  pub positions-after : length union_after ≡ length revisions_after.characters
  positions-after =
      ∥∥₁_elim some_later (ℕ_set _ _) (λ (s : (h : History) × IsHistoryOf union_after revisions_after h).
      positions-history union_after revisions_after s.0 s.1)

  -- what is undone stays, and stays known
  known-after : AllByRecursion (IsKnown revisions_after) (undone_now revisions_after)
  known-after =
      let e : RevEdit = in_positions engine.revisions (in_characters rev fitting.edit) in
      subst (λ (g : History). AllByRecursion (IsKnown g) (undone_now g)) (sym put.revisions_is)
      (subst (λ (groups : List ℕ). AllByRecursion (IsKnown (after_edit engine.revisions e)) groups) (sym (undone_now-after engine.revisions e))
      (IsKnown-more engine.revisions (after_edit engine.revisions e) (edit_revision e) (undone_now engine.revisions) refl refl held.known))

  -- what is left goes along
  left_gone_on : MayAsk engine.revisions fitting.edit.group → (h : History) → IsLeftOf engine.union engine.revisions h →
      IsLeftOf union_after revisions_after (edited h (in_characters rev fitting.edit))
  left_gone_on may h of =
      let e : PlainEdit = in_characters rev fitting.edit in
      let comes : MayEdit h e = record {
        known = omega (arith, is.base_known, head-is engine.union engine.revisions h of);
        reached = omega (arith, is.base_kept, floor-is engine.union engine.revisions h of);
        is_open = ap (λ (groups : List ℕ). has groups fitting.edit.group) (sym (collected-is engine.union engine.revisions h of)) ∙ may.group_kept;
      } in
      IsLeftOf-said union_after revisions_after (edited h e) (edited (left_of h) e) (IsOfEngine-edited h e of.of_engine comes)
      (left_of-edited h e of.of_engine.forgets comes) (gone_on (left_of h) (IsHistoryOf-left engine.union engine.revisions h of))

  pub IsHeld-after : MayAsk engine.revisions fitting.edit.group → (text_now : List ℕ) →
      text_now ≡ shown_at union_after revisions_after (head revisions_after) → IsHeld union_after text_now revisions_after engine.limit fitting.spent
  IsHeld-after may text_now shown = record {
    some =
        ∥∥₁_map held.some (λ (s : (h : History) × IsLeftOf engine.union engine.revisions h).
        (edited s.0 (in_characters rev fitting.edit), left_gone_on may s.0 s.1));
    positions = positions-after;
    floor =
        omega (
          arith,
          held.floor,
          ap (λ (g : History). g.floor) put.revisions_is,
          ap head put.revisions_is,
          head-next engine.revisions (in_positions engine.revisions (in_characters rev fitting.edit)),
        );
    shown = shown;
    known = known-after;
    within = is.room.within;
    limit_bound = held.limit_bound;
    bound = omega (arith, held.bound, bytes-union, is.room.is, byte_len-most (added_text fitting.edit.units));
  }

  pub goes-on : MayAsk engine.revisions fitting.edit.group → (units : UnitDelta) →
      ((h : History) → IsHistoryOf engine.union engine.revisions h → IsChangeBy h (edited h (in_characters rev fitting.edit)) units) →
      GoesOn text union_after revisions_after engine.limit fitting.spent units
  goes-on may units change =
      goes-on-by engine.union union_after engine.revisions revisions_after (λ h. edited h (in_characters rev fitting.edit)) gone_on some text
      engine.limit fitting.spent held.shown (short-after (head revisions_after)) (IsHeld-after may) units change

-- ---- the histories that the engine stands for

-- a delta and its characters say one edit
pub same_edit : (h : History) (asked : AskedEdit) (rev : ℕ) (edit : UnitEdit) → asked.base ≡ rev → IsUnitsOf (text_at h asked.base) asked.delta edit.units →
    asked.group ≡ edit.group → asked.priority ≡ edit.priority → asked.author ≡ edit.author → meant h asked ≡ in_characters rev edit
same_edit h asked rev edit base is group priority author = λ i. record {
  base = base i;
  kept = λ index. sym (is.kept index) i;
  added = λ gap. sym (is.added gap) i;
  group = group i;
  priority = priority i;
  author = author i;
}

-- the edit is taken
IsTaken-asked : (engine : State) (h : History) (asked : AskedEdit) → StandsFor engine h → MayAsk engine.revisions asked.group →
    edit_refusal h engine.limit asked.base asked.delta ≡ None → IsTaken engine.limit h asked
IsTaken-asked engine h asked stands may accepted = record {
  may = record {
    group_counts = may.group_counts;
    group_kept = ap (λ (groups : List ℕ). has groups asked.group) (sym (collected-stands engine h stands)) ∙ may.group_kept;
    has_number = omega (arith, may.has_number, head-stands engine h stands);
  };
  accepted = accepted;
}

pub StandsFor-after : (engine new : State) (h : History) (asked : AskedEdit) (rev : ℕ) (fitting : Fitting) → StandsFor engine h →
    IsFitting engine rev fitting → MayAsk engine.revisions asked.group →
    edit_refusal h engine.limit asked.base asked.delta ≡ None → meant h asked ≡ in_characters rev fitting.edit →
    length (added_text fitting.edit.units) ≡ inserted_len asked.delta.els → IsNext engine rev fitting new → StandsFor new (after h asked)
StandsFor-after engine new h asked rev fitting stands is may accepted same more next = record {
  given =
      rw next.limit (IsGiven-after engine.limit h (asks asked) stands.given taken);
  union = now.union_is ∙ ap (λ e. characters_of (edited (left_of h) e)) (sym same) ∙ ap characters_of (sym goes_along);
  revisions = now.revisions_is ∙ ap (λ e. without_text (edited (left_of h) e)) (sym same) ∙ ap without_text (sym goes_along);
  spent =
      next.spent ∙ (is.room.is ∙ (ap₂ (λ m n. m + n) stands.spent more ∙
      sym (inserted_count-plain h asked.base asked.delta asked.group asked.priority asked.author)));
}
  where
    now : IsHistoryOf new.union new.revisions (edited (left_of h) (in_characters rev fitting.edit))
    now =
        IsHistoryOf-after engine.union engine.revisions rev fitting.edit is.base new.union new.revisions next.put (left_of h)
        (IsHistoryOf-stands engine h stands)

    taken : IsTaken engine.limit h asked
    taken = IsTaken-asked engine h asked stands may accepted

    goes_along : left_of (edited h (meant h asked)) ≡ edited (left_of h) (meant h asked)
    goes_along = left_of-edited h (meant h asked) (forgets-stands engine h stands) (MayEdit-taken engine.limit h asked taken)

-- what the edit changes of what is left it changes of the history
pub IsChange-after : (engine : State) (h : History) (asked : AskedEdit) (rev : ℕ) (edit : UnitEdit) (change : Change) → StandsFor engine h →
    MayAsk engine.revisions asked.group → edit_refusal h engine.limit asked.base asked.delta ≡ None → meant h asked ≡ in_characters rev edit →
    IsChange (left_of h) (edited (left_of h) (in_characters rev edit)) change → IsChange h (after h asked) change
IsChange-after engine h asked rev edit change stands may accepted same changes =
    let forgets = forgets-stands engine h stands in
    let comes = MayEdit-taken engine.limit h asked (IsTaken-asked engine h asked stands may accepted) in
    let more : head (after h asked) ≡ head h + 1 = head-step h (meant h asked) in
    IsChange-left h (after h asked) forgets (MayForget-after_step h (Steps.edits (meant h asked)) forgets comes) forgets.formed.floor
    (omega (arith, more)) change
    (subst (λ g. IsChange (left_of h) g change) (sym (left_of-edited h (meant h asked) forgets comes))
    (subst (λ e. IsChange (left_of h) (edited (left_of h) e) change) (sym same) changes))

-- an edit in bytes
module _ (engine : State) (h : History) (edit : Edit) (fitting : Fitting) (stands : StandsFor engine h) (is : IsFitting engine edit.rev fitting)
    (answers : IsAnswered engine edit fitting) where
  same-asked : meant h (asked_by edit) ≡ in_characters edit.rev fitting.edit
  same-asked =
      same_edit h (asked_by edit) edit.rev fitting.edit refl
      (subst (λ text. IsUnitsOf text edit.delta fitting.edit.units) (shown-stands engine h stands edit.rev (is.base_kept, is.base_known)) answers.units)
      answers.group answers.priority answers.author

  more-asked : length (added_text fitting.edit.units) ≡ inserted_len edit.delta.els
  more-asked = length-added_text _ _ _ answers.units

  pub accepted-asked : edit_refusal h engine.limit edit.rev edit.delta ≡ None
  accepted-asked =
      accepted-fitting engine h edit.rev edit.delta stands (shown_at engine.union engine.revisions edit.rev) fitting.spent (is.base_kept, is.base_known) refl
      answers.fits (is.room.is ∙ ap (λ n. engine.spent + n) more-asked) is.room.within

  pub StandsFor-asked : (new : State) → MayAsk engine.revisions edit.group → IsNext engine edit.rev fitting new → StandsFor new (after h (asked_by edit))
  StandsFor-asked new may next = StandsFor-after engine new h (asked_by edit) edit.rev fitting stands is may accepted-asked same-asked more-asked next

  pub IsChange-asked : (change : Change) → MayAsk engine.revisions edit.group →
      IsChange (left_of h) (edited (left_of h) (in_characters edit.rev fitting.edit)) change → IsChange h (after h (asked_by edit)) change
  IsChange-asked change may changes =
      IsChange-after engine h (asked_by edit) edit.rev fitting.edit change stands may accepted-asked same-asked changes

-- an edit of the head text, in characters
module _ (engine : State) (h : History) (edit : UnitEdit) (asked : AskedEdit) (stands : StandsFor engine h) (said : IsSaidBy h edit asked) where
  head-said : asked.base ≡ head engine.revisions
  head-said = said.base ∙ sym (head-stands engine h stands)

  kept-said : IsKeptAt engine.revisions asked.base
  kept-said = (
    omega (arith, said.base, floor-stands engine h stands, (forgets-stands engine h stands).formed.floor),
    omega (arith, head-said),
  )

  text-said : text_at h (head h) ≡ shown_at engine.union engine.revisions asked.base
  text-said = ap (text_at h) (sym said.base) ∙ sym (shown-stands engine h stands asked.base kept-said)

  more-said : length (added_text edit.units) ≡ inserted_len asked.delta.els
  more-said = length-added_text _ _ _ said.units

  pub refused-said : (total : ℕ) → total ≡ engine.spent + length (added_text edit.units) → engine.limit < total →
      edit_refusal h engine.limit asked.base asked.delta ≡ Some (spent total)
  refused-said total total_is past =
      refused-spent engine h asked.base asked.delta stands (text_at h (head h)) total kept-said text-said said.fits
      (total_is ∙ ap (λ n. engine.spent + n) more-said) past

  module _ (fitting : Fitting) (same : fitting.edit ≡ edit) (is : IsFitting engine (head engine.revisions) fitting) where
    same-said : meant h asked ≡ in_characters (head engine.revisions) fitting.edit
    same-said =
        same_edit h asked (head engine.revisions) edit head-said (rw said.base said.units) said.group said.priority said.author ∙
        ap (in_characters (head engine.revisions)) (sym same)

    more-fitting : length (added_text fitting.edit.units) ≡ inserted_len asked.delta.els
    more-fitting = ap (λ (e : UnitEdit). length (added_text e.units)) same ∙ more-said

    pub accepted-said : edit_refusal h engine.limit asked.base asked.delta ≡ None
    accepted-said =
        accepted-fitting engine h asked.base asked.delta stands (text_at h (head h)) fitting.spent kept-said text-said said.fits
        (is.room.is ∙ ap (λ n. engine.spent + n) more-fitting) is.room.within

    pub StandsFor-said : (new : State) (rev : ℕ) → rev ≡ head engine.revisions → MayAsk engine.revisions edit.group → IsNext engine rev fitting new →
        StandsFor new (after h asked)
    StandsFor-said new rev rev_is may next =
        StandsFor-after engine new h asked (head engine.revisions) fitting stands is (subst (MayAsk engine.revisions) (sym said.group) may) accepted-said
        same-said more-fitting (subst (λ r. IsNext engine r fitting new) rev_is next)

    pub IsChange-said : (change : Change) (rev : ℕ) → rev ≡ head engine.revisions → MayAsk engine.revisions edit.group →
        IsChange (left_of h) (edited (left_of h) (in_characters rev fitting.edit)) change → IsChange h (after h asked) change
    IsChange-said change rev rev_is may changes =
        IsChange-after engine h asked rev fitting.edit change stands (subst (MayAsk engine.revisions) (sym said.group) may) accepted-said
        (same-said ∙ ap (λ r. in_characters r fitting.edit) (sym rev_is)) changes
