-- What an engine says of a history that it stands for.
use Rattle.std.proofs.Common.{◌≡◌, ℕ, ◌+◌, ◌^◌, ◌<◌, ◌≤◌, inl, inr, Result, Ok, Err, IfOk, OnOk, Bool, true, false, ◌||◌, cond, if◌then◌else◌, not, nat_lt, List, [], ◌∷◌, length, map, filter, replicate, Some, None, refl, ap, ap₂, sym, ◌∙◌, subst, arith}
use Rattle.std.proofs.lemmas.Bool.{cases_lt, lt-ltb, le-ltb}
use Rattle.std.proofs.lemmas.List.{length-map}
use Rattle.subset_runs.specs.Subset.{items_outside}
use Rattle.plain_edits.specs.declared.delta.Delta.{Delta}
use Rattle.plain_edits.specs.declared.delta.Misfit.{Misfit}
use Rattle.plain_edits.specs.Delta.{Fits, misfit_of}
use Rattle.plain_edits.specs.History.{Tagged, History, head, is_visible, inserted_count, loaded, text_at, undone, visible_at}
use Rattle.plain_edits.specs.Edits.{collected, edit_refusal, is_edit_of, misfit, misfit_or_spent, spent, unknown}
use Rattle.plain_edits.specs.HistorySteps.{IsWellFormed}
use Rattle.plain_text.specs.Numbers.{has}
use Rattle.std.specs.List.{list_any}
use Rattle.plain_edits.specs.Delta.{inserted_len}
use Rattle.plain_edits.specs.Collection.{kept}
use Rattle.plain_edits.specs.Undo.{undone_now}
use Rattle.collection_laws.specs.MayForget.{MayForget}
use Rattle.collection_laws.specs.Left.{left_of}
use Rattle.collection_laws.proofs.ForCallers.{IsWellFormed-left, MayForget-loaded, head-left, left_of-whole, length-left, text_at-left, undone-left}
use Rattle.plain_text.proofs.callers.ListLemmas.{count_by-no}
use Rattle.plain_edits.proofs.callers.HistoryLemmas.{IsSound-loaded}
use Rattle.rev_list.specs.declared.fault.RevFault.{RevFault}
use Rattle.rev_list.specs.declared.fault.RevFault.TheVariants as Rev
use Rattle.rev_list.specs.Hidden.{IsCollected, IsKeptAt, IsUnknown}
use Rattle.rev_list.specs.WithoutText.{without_text}
use Rattle.rev_list.proofs.ForCallers.{hidden_without_text}
use Rattle.rev_rebase.specs.Rebase.{characters_of}
use Rattle.plain_edits.specs.declared.fault.EditFault.{EditFault}
use Rattle.plain_edits.specs.EditFault.{Refuses, refusal_of}
use Rattle.rev_list.specs.RevFault.{fault_of_base}
use Rattle.plain_text.specs.Text.{byte_len}
use Rattle.rev_engine.specs.Asked.{IsKnown, IsOfEngine}
use Rattle.rev_engine.specs.State.{IsHeld, IsHistoryOf, IsLeftOf, State, shown_at}
use Rattle.rev_engine.specs.Engine.{StandsFor}
use Rattle.rev_engine.proofs.AskedLemmas.{IsGiven-loaded, IsOfEngine-given, IsOfEngine-loaded}
use Rattle.rev_engine.proofs.LeftLemmas.{known-left}

-- ---- what is shown

pub outside_visible : (p : Tagged → Bool) (xs : List Tagged) →
    items_outside (map (λ t. not (p t)) xs) (map (λ t. t.character) xs) ≡ map (λ t. t.character) (filter p xs)
outside_visible p [] = refl
outside_visible p (x ∷ xs) = both (p x) (outside_visible p xs)
  where
    both : (b : Bool) → items_outside (map (λ t. not (p t)) xs) (map (λ t. t.character) xs) ≡ map (λ t. t.character) (filter p xs) →
        items_outside (not b ∷ map (λ t. not (p t)) xs) (x.character ∷ map (λ t. t.character) xs) ≡
        map (λ t. t.character) (cond b (x ∷ filter p xs) (filter p xs))
    both true rest = ap (λ cs. x.character ∷ cs) rest
    both false rest = rest

pub shown_at-text_at : (h : History) (rev : ℕ) → shown_at (characters_of h) (without_text h) rev ≡ text_at h rev
shown_at-text_at h rev =
    ap (λ hidden. items_outside hidden (characters_of h)) (hidden_without_text h rev) ∙ outside_visible (is_visible h.revisions rev) h.characters

pub shown-history : (union : List ℕ) (revisions h : History) (rev : ℕ) → IsHistoryOf union revisions h → shown_at union revisions rev ≡ text_at h rev
shown-history union revisions h rev is =
    ap₂ (λ xs g. shown_at xs g rev) is.union_is is.revisions_is ∙ shown_at-text_at h rev

-- ---- what is said by what is left of a history

-- what is left of a later history, where it is these characters and revisions
pub IsLeftOf-said : (union : List ℕ) (revisions later left : History) → IsOfEngine later → left_of later ≡ left → IsHistoryOf union revisions left →
    IsLeftOf union revisions later
IsLeftOf-said union revisions later left of_engine same is = record {
  of_engine = of_engine;
  union_is = is.union_is ∙ ap characters_of (sym same);
  revisions_is = is.revisions_is ∙ ap without_text (sym same);
}

module _ (union : List ℕ) (revisions h : History) (is : IsLeftOf union revisions h) where
  pub forgets-left : MayForget h
  forgets-left = is.of_engine.forgets

  within-left : h.floor ≤ head h
  within-left = forgets-left.formed.floor

  pub IsHistoryOf-left : IsHistoryOf union revisions (left_of h)
  IsHistoryOf-left = record { sound = (IsWellFormed-left h forgets-left).sound; union_is = is.union_is; revisions_is = is.revisions_is }

  pub head-is : head revisions ≡ head h
  head-is = ap head is.revisions_is ∙ head-left h within-left

  pub floor-is : revisions.floor ≡ h.floor
  floor-is = ap (λ (g : History). g.floor) is.revisions_is

  pub collected-is : revisions.collected ≡ h.collected
  collected-is = ap (λ (g : History). g.collected) is.revisions_is

  pub undone_now-is : undone_now revisions ≡ undone_now h
  undone_now-is =
      ap undone_now is.revisions_is ∙ ap (undone (left_of h).revisions) (head-left h within-left) ∙ undone-left h within-left (head h) within-left

  pub IsKeptAt-is : (rev : ℕ) → IsKeptAt revisions rev → IsKeptAt h rev
  IsKeptAt-is rev kept = (omega (arith, kept.0, floor-is), omega (arith, kept.1, head-is))

  pub shown-is : (rev : ℕ) → IsKeptAt revisions rev → shown_at union revisions rev ≡ text_at h rev
  shown-is rev kept =
      shown-history union revisions (left_of h) rev IsHistoryOf-left ∙
      text_at-left h forgets-left rev (IsKeptAt-is rev kept).0 (IsKeptAt-is rev kept).1

  pub shown-head : shown_at union revisions (head revisions) ≡ text_at h (head h)
  shown-head = shown-is (head revisions) (omega (arith, floor-is, head-is, within-left), omega arith) ∙ ap (text_at h) head-is

-- and so it is of an engine that stands for the history
module _ (engine : State) (h : History) (stands : StandsFor engine h) where
  pub IsLeftOf-stands : IsLeftOf engine.union engine.revisions h
  IsLeftOf-stands =
      record { of_engine = IsOfEngine-given engine.limit h stands.given; union_is = stands.union; revisions_is = stands.revisions }

  pub forgets-stands : MayForget h
  forgets-stands = forgets-left engine.union engine.revisions h IsLeftOf-stands

  pub IsHistoryOf-stands : IsHistoryOf engine.union engine.revisions (left_of h)
  IsHistoryOf-stands = IsHistoryOf-left engine.union engine.revisions h IsLeftOf-stands

  pub head-stands : head engine.revisions ≡ head h
  head-stands = head-is engine.union engine.revisions h IsLeftOf-stands

  pub floor-stands : engine.revisions.floor ≡ h.floor
  floor-stands = floor-is engine.union engine.revisions h IsLeftOf-stands

  pub collected-stands : engine.revisions.collected ≡ h.collected
  collected-stands = collected-is engine.union engine.revisions h IsLeftOf-stands

  pub undone_now-stands : undone_now engine.revisions ≡ undone_now h
  undone_now-stands = undone_now-is engine.union engine.revisions h IsLeftOf-stands

  pub IsKeptAt-stands : (rev : ℕ) → IsKeptAt engine.revisions rev → IsKeptAt h rev
  IsKeptAt-stands = IsKeptAt-is engine.union engine.revisions h IsLeftOf-stands

  pub shown-stands : (rev : ℕ) → IsKeptAt engine.revisions rev → shown_at engine.union engine.revisions rev ≡ text_at h rev
  shown-stands = shown-is engine.union engine.revisions h IsLeftOf-stands

  pub head-text : (text : List ℕ) → text ≡ shown_at engine.union engine.revisions (head engine.revisions) → text ≡ text_at h (head h)
  head-text text is = is ∙ shown-head engine.union engine.revisions h IsLeftOf-stands

  -- as many characters are kept as it has positions
  pub kept-stands : (n : ℕ) → n ≡ length engine.revisions.characters → n ≡ kept h
  kept-stands n is =
      is ∙ (ap (λ (g : History). length g.characters) stands.revisions ∙ (length-map (left_of h).characters _ ∙ length-left h))

  -- what is known in the history is known to it
  pub IsKnown-stands : (group : ℕ) → IsKnown h group → IsKnown engine.revisions group
  IsKnown-stands group known = (
    known.0,
    ap (λ (g : History). list_any (is_edit_of group) g.revisions || has g.collected group) stands.revisions ∙
        known-left h group forgets-stands.formed known.1,
  )

  pub formed-stands : IsWellFormed h
  formed-stands = forgets-stands.formed

  pub shown_head-stands : shown_at engine.union engine.revisions (head engine.revisions) ≡ text_at h (head h)
  shown_head-stands = shown-head engine.union engine.revisions h IsLeftOf-stands

  pub union-kept : length engine.union ≡ kept h
  union-kept = ap length stands.union ∙ (length-map (left_of h).characters _ ∙ length-left h)

length-outside : (p : Tagged → Bool) (ts : List Tagged) (xs : List ℕ) → length xs ≡ length ts →
    length (items_outside (map (λ t. not (p t)) ts) xs) ≡ length (filter p ts)
length-outside p [] xs same = refl
length-outside p (t ∷ ts) [] same = absurd (omega (arith, same))
length-outside p (t ∷ ts) (x ∷ xs) same = both (p t) (length-outside p ts xs (omega (arith, same)))
  where
    both : (b : Bool) → length (items_outside (map (λ u. not (p u)) ts) xs) ≡ length (filter p ts) →
        length (items_outside (not b ∷ map (λ u. not (p u)) ts) (x ∷ xs)) ≡ length (cond b (t ∷ filter p ts) (filter p ts))
    both true rest = omega (arith, rest)
    both false rest = rest

-- what is answered of a revision is its text
pub text-shown : {E : Type 0} (engine : State) (h : History) (rev : ℕ) → StandsFor engine h → (answer : Result (List ℕ) E) →
    IfOk answer (λ text. text ≡ shown_at engine.union engine.revisions rev) → OnOk answer (IsKeptAt engine.revisions rev) →
    IfOk answer (λ text. text ≡ text_at h rev)
text-shown engine h rev stands (Ok text) is kept = is ∙ shown-stands engine h stands rev kept
text-shown engine h rev stands (Err fault) is kept = tt

-- as many as the revision shows
pub length-shown_at : (union : List ℕ) (revisions : History) (rev : ℕ) → length union ≡ length revisions.characters →
    length (shown_at union revisions rev) ≡ length (visible_at revisions rev)
length-shown_at union revisions rev same = length-outside (is_visible revisions.revisions rev) revisions.characters union same

-- ---- what is refused

module _ (h : History) (limit base : ℕ) (delta : Delta) where
  pub refusal-unknown : (n : ℕ) → IsUnknown h base n → edit_refusal h limit base delta ≡ Some (unknown n)
  refusal-unknown n is =
      ap (λ above. if above then Some (unknown (head h)) else (
      if nat_lt base h.floor then Some (collected h.floor) else
      misfit_or_spent (misfit_of (text_at h base) delta) limit (inserted_count h + inserted_len delta.els)))
      (lt-ltb (head h) base is.0) ∙ ap (λ k. Some (unknown k)) (sym is.1)

  pub refusal-collected : (n : ℕ) → h.floor ≤ head h → IsCollected h base n → edit_refusal h limit base delta ≡ Some (collected n)
  refusal-collected n low is =
      ap₂ (λ above below. if above then Some (unknown (head h)) else (
      if below then Some (collected h.floor) else
      misfit_or_spent (misfit_of (text_at h base) delta) limit (inserted_count h + inserted_len delta.els)))
      (le-ltb (head h) base (omega (arith, low, is.0))) (lt-ltb base h.floor is.0) ∙ ap (λ k. Some (collected k)) (sym is.1)

  pub refusal-kept : h.floor ≤ base → base ≤ head h →
      edit_refusal h limit base delta ≡ misfit_or_spent (misfit_of (text_at h base) delta) limit (inserted_count h + inserted_len delta.els)
  refusal-kept low high =
      ap₂ (λ above below. if above then Some (unknown (head h)) else (
      if below then Some (collected h.floor) else
      misfit_or_spent (misfit_of (text_at h base) delta) limit (inserted_count h + inserted_len delta.els)))
      (le-ltb (head h) base high) (le-ltb base h.floor low)

  pub refusal-misfit : (first : Misfit) → h.floor ≤ base → base ≤ head h → misfit_of (text_at h base) delta ≡ Some first →
      edit_refusal h limit base delta ≡ Some (misfit first)
  refusal-misfit first low high is = refusal-kept low high ∙ ap (λ found. misfit_or_spent found limit (inserted_count h + inserted_len delta.els)) is

  pub refusal-spent : h.floor ≤ base → base ≤ head h → Fits (text_at h base) delta → limit < inserted_count h + inserted_len delta.els →
      edit_refusal h limit base delta ≡ Some (spent (inserted_count h + inserted_len delta.els))
  refusal-spent low high fits past =
      refusal-kept low high ∙ ap (λ found. misfit_or_spent found limit (inserted_count h + inserted_len delta.els)) fits ∙
      ap (λ b. if b then Some (spent (inserted_count h + inserted_len delta.els)) else None) (lt-ltb limit (inserted_count h + inserted_len delta.els) past)

  pub refusal-none : h.floor ≤ base → base ≤ head h → Fits (text_at h base) delta → inserted_count h + inserted_len delta.els ≤ limit →
      edit_refusal h limit base delta ≡ None
  refusal-none low high fits within =
      refusal-kept low high ∙ ap (λ found. misfit_or_spent found limit (inserted_count h + inserted_len delta.els)) fits ∙
      ap (λ b. if b then Some (spent (inserted_count h + inserted_len delta.els)) else None) (le-ltb limit (inserted_count h + inserted_len delta.els) within)

-- the base is kept, where a revision list has an answer for it
pub IsKeptAt-answered : (revisions : History) (rev : ℕ) → (IsUnknown revisions rev (head revisions) → ⊥) → (IsCollected revisions rev revisions.floor → ⊥) →
    IsKeptAt revisions rev
IsKeptAt-answered revisions rev known kept = (
  elim (cases_lt rev revisions.floor) [ inl below ↦ absurd (kept (below, refl)) | inr at ↦ at ],
  elim (cases_lt (head revisions) rev) [ inl above ↦ absurd (known (above, refl)) | inr at ↦ at ],
)

module _ (engine : State) (h : History) (base : ℕ) (delta : Delta) (stands : StandsFor engine h) where
  kept_then : IsKeptAt engine.revisions base → IsKeptAt h base
  kept_then kept = IsKeptAt-stands engine h stands base kept

  pub Refuses-base : (rev : RevFault) (fault : EditFault) → ((n : ℕ) → rev ≡ Rev.Unknown n → IsUnknown engine.revisions base n) →
      ((n : ℕ) → rev ≡ Rev.Collected n → IsCollected engine.revisions base n) → fault ≡ fault_of_base rev →
      Refuses (edit_refusal h engine.limit base delta) fault
  Refuses-base (Rev.Unknown n) fault above below is = λ _.
      refusal-unknown h engine.limit base delta n (subst (λ last. (last < base) × (n ≡ last)) (head-stands engine h stands) (above n refl)) ∙
      ap refusal_of (sym is)
  Refuses-base (Rev.Collected n) fault above below is = λ _.
      refusal-collected h engine.limit base delta n (forgets-stands engine h stands).formed.floor
      (subst (λ revisions. IsCollected revisions base n) stands.revisions (below n refl)) ∙ ap refusal_of (sym is)
  Refuses-base Rev.NoMemory fault above below is = λ other. absurd (other is)

  pub refused-misfit : (text : List ℕ) (first : Misfit) → IsKeptAt engine.revisions base → text ≡ shown_at engine.union engine.revisions base →
      misfit_of text delta ≡ Some first → edit_refusal h engine.limit base delta ≡ Some (misfit first)
  refused-misfit text first kept text_is is =
      refusal-misfit h engine.limit base delta first (kept_then kept).0 (kept_then kept).1
      (ap (λ shown. misfit_of shown delta) (sym (text_is ∙ shown-stands engine h stands base kept)) ∙ is)

  fits_then : (text : List ℕ) → IsKeptAt engine.revisions base → text ≡ shown_at engine.union engine.revisions base → Fits text delta →
      Fits (text_at h base) delta
  fits_then text kept text_is fits = ap (λ shown. misfit_of shown delta) (sym (text_is ∙ shown-stands engine h stands base kept)) ∙ fits

  spent_then : inserted_count h + inserted_len delta.els ≡ engine.spent + inserted_len delta.els
  spent_then = ap (λ n. n + inserted_len delta.els) (sym stands.spent)

  pub refused-spent : (text : List ℕ) (total : ℕ) → IsKeptAt engine.revisions base → text ≡ shown_at engine.union engine.revisions base → Fits text delta →
      total ≡ engine.spent + inserted_len delta.els → engine.limit < total → edit_refusal h engine.limit base delta ≡ Some (spent total)
  refused-spent text total kept text_is fits total_is past =
      refusal-spent h engine.limit base delta (kept_then kept).0 (kept_then kept).1 (fits_then text kept text_is fits) (omega (arith, past, total_is, spent_then)) ∙
      ap (λ n. Some (spent n)) (spent_then ∙ sym total_is)

  pub accepted-fitting : (text : List ℕ) (total : ℕ) → IsKeptAt engine.revisions base → text ≡ shown_at engine.union engine.revisions base → Fits text delta →
      total ≡ engine.spent + inserted_len delta.els → total ≤ engine.limit → edit_refusal h engine.limit base delta ≡ None
  accepted-fitting text total kept text_is fits total_is within =
      refusal-none h engine.limit base delta (kept_then kept).0 (kept_then kept).1 (fits_then text kept text_is fits) (omega (arith, within, total_is, spent_then))

-- ---- the engine of a loaded text

characters-loaded : (text : List ℕ) → text ≡ characters_of (loaded text)
characters-loaded [] = refl
characters-loaded (c ∷ text) = ap (λ cs. c ∷ cs) (characters-loaded text)

positions-loaded : (text : List ℕ) → (loaded (replicate (length text) 0)).characters ≡ (without_text (loaded text)).characters
positions-loaded [] = refl
positions-loaded (c ∷ text) = ap (λ (xs : List Tagged). record { character = 0; inserted = 0; deleted = [] } ∷ xs) (positions-loaded text)

pub spent-loaded : (text : List ℕ) → inserted_count (loaded text) ≡ 0
spent-loaded [] = refl
spent-loaded (c ∷ text) =
    count_by-no (λ tagged. nat_lt 0 tagged.inserted) (record { character = c; inserted = 0; deleted = [] }) (loaded text).characters refl ∙ spent-loaded text

left-loaded : (text : List ℕ) → left_of (loaded text) ≡ loaded text
left-loaded text = left_of-whole (loaded text) (MayForget-loaded text) refl refl

pub StandsFor-loaded : (engine : State) (text : List ℕ) → engine.union ≡ text → engine.revisions ≡ loaded (replicate (length text) 0) → engine.spent ≡ 0 →
    StandsFor engine (loaded text)
StandsFor-loaded engine text union_is revisions_is spent_is = record {
  given = IsGiven-loaded engine.limit text;
  union = union_is ∙ characters-loaded text ∙ ap characters_of (sym (left-loaded text));
  revisions =
      revisions_is ∙
      ap (λ (xs : List Tagged). record { characters = xs; revisions = []; floor = 0; collected = [] }) (positions-loaded text) ∙
      ap without_text (sym (left-loaded text));
  spent = spent_is ∙ sym (spent-loaded text);
}

text_at-loaded : (text : List ℕ) → text_at (loaded text) 0 ≡ text
text_at-loaded [] = refl
text_at-loaded (c ∷ text) = ap (λ cs. c ∷ cs) (text_at-loaded text)

pub IsHeld-loaded : (text union head_text : List ℕ) (revisions : History) (limit : ℕ) → union ≡ text → head_text ≡ text →
    revisions ≡ loaded (replicate (length text) 0) → limit ≤ 2 ^ 60 → byte_len text < 2 ^ 63 → IsHeld union head_text revisions limit 0
IsHeld-loaded text union head_text revisions limit union_is head_is revisions_is bound few =
    rw (union_is, head_is, revisions_same) record {
      some = ∣ (loaded text, IsLeftOf-said text (without_text (loaded text)) (loaded text) (loaded text) (IsOfEngine-loaded text) (left-loaded text) is) ∣₁;
      positions = sym (length-map (loaded text).characters _ ∙ length-map text _);
      floor = omega arith;
      shown = sym (shown_at-start ∙ text_at-loaded text);
      known = tt;
      within = omega arith;
      limit_bound = bound;
      bound = omega (arith, bound, few);
    }
  where
    revisions_same : revisions ≡ without_text (loaded text)
    revisions_same =
        revisions_is ∙
        ap (λ (xs : List Tagged). record { characters = xs; revisions = []; floor = 0; collected = [] }) (positions-loaded text)

    is : IsHistoryOf text (without_text (loaded text)) (loaded text)
    is = record { sound = IsSound-loaded text; union_is = characters-loaded text; revisions_is = refl }

    shown_at-start : shown_at text (without_text (loaded text)) 0 ≡ text_at (loaded text) 0
    shown_at-start = shown-history text (without_text (loaded text)) (loaded text) 0 is
