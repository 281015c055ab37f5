-- What a collection makes of the undo groups of a text, and of the text.
use Rattle.std.proofs.Common.{◌≡◌, ℕ, ◌<◌, ◌≤◌, Bool, true, false, not, ◌&&◌, ◌||◌, cond, if◌then◌else◌, ◌==◌, List, [], ◌∷◌, fold, length, Option, Some, None, Result, Ok, Err, IfOk, refl, ap, ap₂, sym, ◌∙◌, subst, inl, inr, arith}
use Rattle.std.specs.Prelude.{IfSome}
use Rattle.std.specs.BTreeSet.{BTreeSet}
use Rattle.std.specs.List.{AllByRecursion, filter}
use Rattle.std.proofs.Math.Logic.{∥∥₁_elim, ∥∥₁_map}
use Rattle.std.specs.Coded.{Coded-set, coded_list, coded_ℕ}
use Rattle.std.proofs.lemmas.Bool.{and_parts, and_from, or_right}
use Rattle.plain_text.specs.Numbers.{has, with_number, without_number, IsRising}
use Rattle.plain_text.proofs.callers.NumberLemmas.{IsRising-without, has-with_numbers}
use Rattle.number_set.proofs.ForCallers.{has-own, no}
use Rattle.plain_edits.specs.Collection.{Collection, clean_floor, collected_at, collection_at, collection_of, is_at_rest, resting_groups}
use Rattle.plain_edits.specs.History.{History, Revision, head}
use Rattle.plain_edits.proofs.callers.CollectionLemmas.{all_has, greatest_clean_floor}
use Rattle.undo_groups.specs.Groups.{Groups, IsStack, forgotten, is_known}
use Rattle.edit_groups.proofs.ForCallers.{has-removed}
use Rattle.edit_groups.specs.declared.typing.Typing.{Typing}
use Rattle.rev_collect.specs.Choice.{collection_said}
use Rattle.rev_engine.specs.Asked.{IsCollectionTaken}
use Rattle.rev_engine.specs.State.{State}
use Rattle.rev_engine.specs.Engine.{StandsFor}
use Rattle.rev_engine.proofs.ForCallers.{floor-stands, formed-stands}
use Rattle.doc_text.specs.Agree.{Agree, IsNewest, is_given}
use Rattle.doc_text.specs.Collecting.{AreAcknowledged, AreEnded, collected_text, collection_after, least_acknowledged, with_collection}
use Rattle.doc_text.specs.Writing.{Writing}
use Rattle.doc_text.specs.InMemory.{TextState, head_shown}
use Rattle.doc_text.specs.Inner.{MayCollectIn}
use Rattle.doc_text.specs.Stands.{IsTextOf, TextStandsFor}
use Rattle.doc_text.specs.Whole.{IsWhole, IsWholeOf}
use Rattle.doc_text.proofs.HeadLemmas.{head-stands, head_shown-stands}
use Rattle.doc_text.proofs.OnceLemmas.{HasNoneLeft-collected}
use Rattle.doc_text.proofs.RestLemmas.{clean-head, rests-head}
use Rattle.doc_text.proofs.SessionLemmas.{AreAcknowledged-raised, least-ended, least-kept}

-- ---- numbers without some

in_turn : (a b rest : Bool) → (if b then false else (if a then false else rest)) ≡ (if a || b then false else rest)
in_turn true true rest = refl
in_turn true false rest = refl
in_turn false true rest = refl
in_turn false false rest = refl

pub has-without_numbers : (xs gone : List ℕ) (m : ℕ) → IsRising xs → has (fold without_number xs gone) m ≡ (if has gone m then false else has xs m)
has-without_numbers xs [] m up = refl
has-without_numbers xs (n ∷ gone) m up =
    has-without_numbers (without_number xs n) gone m (IsRising-without xs n up) ∙
    ap (λ b. if has gone m then false else b) (has-removed xs n m up) ∙ in_turn (n == m) (has gone m) (has xs m)

-- ---- forgotten groups

pub fold_forgotten : (s : Groups) (gone : List ℕ) → fold forgotten s gone ≡ record s { retired = fold without_number s.retired gone }
fold_forgotten s [] = refl
fold_forgotten s (group ∷ gone) = fold_forgotten (forgotten s group) gone

-- ---- stack and history go on to agree

known-by : (live retired gone given collected : Bool) → (live || retired) ≡ (given && not collected) → (gone ≡ true → retired ≡ true) →
    (live ≡ true → retired ≡ false) → (live || (if gone then false else retired)) ≡ (given && not (collected || gone))
known-by true true gone given collected known there apart = absurd (no true refl (apart refl))
known-by true false true given collected known there apart = absurd (no false (there refl) refl)
known-by true false false given collected known there apart = known ∙ ap (λ b. given && not b) (sym (kept collected))
  where
    kept : (b : Bool) → (b || false) ≡ b
    kept true = refl
    kept false = refl
known-by false retired true given collected known there apart = sym (none given collected)
  where
    none : (g c : Bool) → (g && not (c || true)) ≡ false
    none true true = refl
    none true false = refl
    none false c = refl
known-by false retired false given collected known there apart = known ∙ ap (λ b. given && not b) (sym (kept collected))
  where
    kept : (b : Bool) → (b || false) ≡ b
    kept true = refl
    kept false = refl

newest-retired : (s : Groups) (retired : List ℕ) (typing : Option Typing) → IsNewest s typing → IsNewest (record s { retired = retired }) typing
newest-retired s retired None newest = tt
newest-retired s retired (Some run) newest = newest

module _ (revisions : List Revision) (collected : List ℕ) (groups : Groups) (typing : Option Typing) (agree : Agree revisions collected groups typing)
    (gone : List ℕ) (all : AllByRecursion (λ group. has groups.retired group ≡ true) gone) where
  abbrev less : Groups
  less = record groups { retired = fold without_number groups.retired gone }

  there : (group : ℕ) → has gone group ≡ true → has groups.retired group ≡ true
  there group is = all_has (λ g. has groups.retired g ≡ true) gone group all is

  known-less : (group : ℕ) → is_known less group ≡ (is_given groups group && not (has (fold with_number collected gone) group))
  known-less group =
      ap (λ b. has groups.live group || b) (has-without_numbers groups.retired gone group agree.stack.retired_rise) ∙
      known-by (has groups.live group) (has groups.retired group) (has gone group) (is_given groups group) (has collected group) (agree.known group) (there group)
      (agree.stack.reachable group) ∙
      ap (λ b. is_given groups group && not b) (sym (has-with_numbers collected gone group))

  given-less : (group : ℕ) → has (fold with_number collected gone) group ≡ true → is_given groups group ≡ true
  given-less group is = by (has collected group) (has gone group) refl refl (sym (has-with_numbers collected gone group) ∙ is)
    where
      by : (old new : Bool) → has collected group ≡ old → has gone group ≡ new → (has collected group || has gone group) ≡ true → is_given groups group ≡ true
      by true new old_is new_is either = agree.collected_given group old_is
      by false true old_is new_is either =
          (and_parts (is_given groups group) (not (has collected group))
          (sym (agree.known group) ∙ or_right (has groups.live group) (has groups.retired group) (there group new_is))).0
      by false false old_is new_is either = absurd (no (has collected group || has gone group) either (ap₂ (λ a b. a || b) old_is new_is))

  Agree-less : IsStack less → Agree revisions (fold with_number collected gone) less typing
  Agree-less stack = record {
    stack = stack;
    undone = agree.undone;
    given = agree.given;
    few = agree.few;
    in_order = agree.in_order;
    known = known-less;
    collected_given = given-less;
    newest = newest-retired groups (fold without_number groups.retired gone) typing agree.newest;
  }

  pub Agree-collected : (stack : Groups) → stack ≡ fold forgotten groups gone → IsStack stack → Agree revisions (fold with_number collected gone) stack typing
  Agree-collected stack is sound =
      let less_is : stack ≡ less = is ∙ fold_forgotten groups gone in
      subst (λ s. Agree revisions (fold with_number collected gone) s typing) (sym less_is) (Agree-less (subst IsStack less_is sound))

-- ---- what is collected

module _ (h : History) (retired : List ℕ) where
  groups-at : (floor : ℕ) (groups : List ℕ) (found : Collection) → collection_at floor groups ≡ Some found → (found.floor ≡ floor) × (found.groups ≡ groups)
  groups-at floor [] found is = absurd cc
  groups-at floor (group ∷ groups) found is =
      let same : record { floor = floor; groups = group ∷ groups } ≡ found = cc in
      (sym (ap (λ (c : Collection). c.floor) same), sym (ap (λ (c : Collection). c.groups) same))

  among : (p : ℕ → Bool) (xs all : List ℕ) → ((g : ℕ) → has xs g ≡ true → has all g ≡ true) → AllByRecursion (λ g. has all g ≡ true) (filter p xs)
  among p [] all each = tt
  among p (x ∷ xs) all each = by (p x) (each x (has-own x xs)) (among p xs all (λ g there. each g (or_right (x == g) (has xs g) there)))
    where
      by : (b : Bool) → has all x ≡ true → AllByRecursion (λ g. has all g ≡ true) (filter p xs) →
          AllByRecursion (λ g. has all g ≡ true) (cond b (x ∷ filter p xs) (filter p xs))
      by true here rest = (here, rest)
      by false here rest = rest

  -- its floor is at most what was acknowledged, and its groups are retired
  pub floor-found : (most : ℕ) (found : Collection) → collection_of h retired most ≡ Some found → found.floor ≤ most
  floor-found most found is =
      let floor = clean_floor h.revisions most in
      omega (
        arith,
        (groups-at floor (resting_groups h retired floor) found is).0,
        (greatest_clean_floor h.revisions most).is_within,
      )

  pub retired-found : (most : ℕ) (found : Collection) → collection_of h retired most ≡ Some found →
      AllByRecursion (λ group. has retired group ≡ true) found.groups
  retired-found most found is =
      let floor = clean_floor h.revisions most in
      subst (AllByRecursion (λ group. has retired group ≡ true)) (sym (groups-at floor (resting_groups h retired floor) found is).1)
      (among _ retired retired (λ g there. there))

-- nothing where no group is retired
pub collection_of-nothing : (h : History) (retired : List ℕ) (most : ℕ) → retired ≡ [] → collection_of h retired most ≡ None
collection_of-nothing h retired most none = ap (λ groups. collection_of h groups most) none

all_pass : (p : ℕ → Bool) (xs : List ℕ) → ((x : ℕ) → has xs x ≡ true → p x ≡ true) → filter p xs ≡ xs
all_pass p [] each = refl
all_pass p (x ∷ xs) each =
    ap (λ b. cond b (x ∷ filter p xs) (filter p xs)) (each x (has-own x xs)) ∙
    ap (λ ys. x ∷ ys) (all_pass p xs (λ y there. each y (or_right (x == y) (has xs y) there)))

-- all retired groups are
resting-head : (h : History) (groups : Groups) (typing : Option Typing) → Agree h.revisions h.collected groups typing →
    resting_groups h groups.retired (clean_floor h.revisions (head h)) ≡ groups.retired
resting-head h groups typing agree =
    let kept : (g : ℕ) → has groups.retired g ≡ true → not (has h.collected g) ≡ true =
    λ g there. (and_parts (is_given groups g) (not (has h.collected g)) (sym (agree.known g) ∙ or_right (has groups.live g) (has groups.retired g) there)).1 in
    ap (resting_groups h groups.retired) (clean-head h.revisions) ∙
    all_pass (λ g. not (has h.collected g) && is_at_rest h (head h) g) groups.retired
    (λ g there. and_from (not (has h.collected g)) (is_at_rest h (head h) g) (kept g there) (rests-head h g))

-- so where nothing waits and no session is open, none is left
pub none-retired : (text : TextState) (plain : Writing) → TextStandsFor text plain → AreEnded plain.sessions → plain.groups.retired ≡ []
none-retired text plain stands ended =
    let h = plain.history in
    sym (resting-head h plain.groups plain.typing stands.parts.agree) ∙
    ap (λ most. resting_groups h plain.groups.retired (clean_floor h.revisions most)) (sym (least-ended (head h) plain.sessions ended)) ∙ stands.none_left

-- ---- texts

-- THE TEXT IN MEMORY after a collection
abbrev pub less_text : TextState → State → Groups → TextState
less_text text engine groups = record text { engine = engine; groups = groups }

pub IsTextOf-collected : (text made : TextState) (plain : Writing) (engine : State) (stack : Groups) (found : Collection) → IsTextOf text plain →
    made ≡ less_text text engine stack → engine.limit ≡ text.engine.limit →
    StandsFor engine (collected_at plain.history found.floor found.groups) → stack ≡ fold forgotten text.groups found.groups → IsStack stack →
    AllByRecursion (λ group. has text.groups.retired group ≡ true) found.groups → found.floor ≤ least_acknowledged (head plain.history) plain.sessions →
    IsTextOf made (with_collection plain (Some found))
IsTextOf-collected text made plain engine stack found stands is limit engine_stands stack_is sound retired floor =
    let At : TextState → Type 0 = λ t. IsTextOf t (with_collection plain (Some found)) in
    let groups_is : stack ≡ fold forgotten plain.groups found.groups = stack_is ∙ ap (λ s. fold forgotten s found.groups) stands.groups in
    let gone = subst (λ (s : Groups). AllByRecursion (λ group. has s.retired group ≡ true) found.groups) stands.groups retired in
    subst At (sym is) (record {
      state = record {
        stands = engine_stands;
        within = omega (arith, stands.state.within, limit);
        bound = omega (arith, stands.state.bound, limit);
      };
      limit = limit ∙ stands.limit;
      sessions = stands.sessions;
      acknowledged = AreAcknowledged-raised plain.history (collected_at plain.history found.floor found.groups) plain.sessions floor refl stands.acknowledged;
      groups = groups_is;
      typing = stands.typing;
      agree = subst (λ s. Agree plain.history.revisions (fold with_number plain.history.collected found.groups) s plain.typing) groups_is
          (Agree-collected plain.history.revisions plain.history.collected plain.groups plain.typing stands.agree found.groups gone stack groups_is sound);
      saved = stands.saved;
      saved_before = stands.saved_before;
    })

-- and what holds of it in memory, whatever its history
module _ (engine later : State) (groups : Groups) (typing : Option Typing) (floor : ℕ) (gone : List ℕ) (whole : IsWhole engine groups typing)
    (each : (h : History) → StandsFor engine h → StandsFor later (collected_at h floor gone)) where
  pub IsWhole-collected : (stack : Groups) → later.limit ≡ engine.limit → stack ≡ fold forgotten groups gone → IsStack stack →
      AllByRecursion (λ group. has groups.retired group ≡ true) gone → IsWhole later stack typing
  IsWhole-collected stack limit is sound retired =
      ∥∥₁_map whole (λ (s : (h : History) × IsWholeOf h engine groups typing). (
        collected_at s.0 floor gone,
        record {
          state = record {
            stands = each s.0 s.1.state.stands;
            within = omega (arith, s.1.state.within, limit);
            bound = omega (arith, s.1.state.bound, limit);
          };
          agree = Agree-collected s.0.revisions s.0.collected groups typing s.1.agree gone retired stack is sound;
        },
      ))

  -- its head text is the same
  pub shown-collected : head_shown later ≡ head_shown engine
  shown-collected =
      ∥∥₁_elim whole (Coded-set (coded_list coded_ℕ) _ _) (λ (s : (h : History) × IsWholeOf h engine groups typing).
      head_shown-stands later (collected_at s.0 floor gone) (each s.0 s.1.state.stands) ∙ sym (head_shown-stands engine s.0 s.1.state.stands))

-- ---- what a text in memory collects

module _ (text : TextState) (plain : Writing) (stands : IsTextOf text plain) where
  head-uncollected : head text.engine.revisions ≡ head plain.history
  head-uncollected = head-stands text.engine plain.history stands.state.stands

  least-uncollected : least_acknowledged (head text.engine.revisions) text.sessions ≡ least_acknowledged (head plain.history) plain.sessions
  least-uncollected = ap₂ least_acknowledged head-uncollected stands.sessions

  empty : (groups : List ℕ) → (0 < length groups → ⊥) → groups ≡ []
  empty [] none = refl
  empty (group ∷ groups) none = absurd (none (omega arith))

  -- nothing where no group is retired
  pub nothing-retired : (0 < length text.groups.retired → ⊥) → None ≡ collection_after plain
  nothing-retired none =
      sym (collection_of-nothing plain.history plain.groups.retired (least_acknowledged (head plain.history) plain.sessions)
      (sym (ap (λ (s : Groups). s.retired) stands.groups) ∙ empty text.groups.retired none))

  -- nor where a session had acknowledged less than the floor, which none has
  pub nothing-below : least_acknowledged (head text.engine.revisions) text.sessions < text.engine.revisions.floor → None ≡ collection_after plain
  nothing-below below =
      let floor : text.engine.revisions.floor ≡ plain.history.floor = floor-stands text.engine plain.history stands.state.stands in
      absurd (omega (
        arith,
        below,
        floor,
        least-uncollected,
        least-kept plain.history plain.sessions ((formed-stands text.engine plain.history stands.state.stands).floor) stands.acknowledged,
      ))

  -- nor where each of them begins later
  pub nothing-begun : (most : ℕ) → most ≡ least_acknowledged (head text.engine.revisions) text.sessions →
      ((floor : ℕ) → floor ≤ most → resting_groups plain.history plain.groups.retired floor ≡ []) → None ≡ collection_after plain
  nothing-begun most is none =
      let least = least_acknowledged (head plain.history) plain.sessions in
      let here : most ≡ least = is ∙ least-uncollected in
      let floor = clean_floor plain.history.revisions least in
      sym (ap (collection_at floor) (none floor (omega (arith, here, (greatest_clean_floor plain.history.revisions least).is_within))))

  -- and else what there is
  pub found-least : (most : ℕ) → most ≡ least_acknowledged (head text.engine.revisions) text.sessions →
      collection_of plain.history text.groups.retired most ≡ collection_after plain
  found-least most is =
      ap₂ (collection_of plain.history) (ap (λ (s : Groups). s.retired) stands.groups) (is ∙ least-uncollected)

-- what the engine finds may be collected
pub MayCollectIn-found : {E : Type 0} (text : TextState) (retired : List ℕ) (most : ℕ) (result : Result (Option (ℕ × BTreeSet ℕ)) E) → retired ≡ text.groups.retired →
    IfOk result (λ found. collection_said found ≡ collection_of text.engine.revisions retired most) →
    IfOk result (λ found. IfSome found (λ some. IsCollectionTaken text.engine.revisions some.0 some.1.keys)) →
    IfOk result (λ found. IfSome found (λ some. MayCollectIn text some.0 some.1.keys))
MayCollectIn-found text retired most (Err lack) is said taken = tt
MayCollectIn-found text retired most (Ok None) is said taken = tt
MayCollectIn-found text retired most (Ok (Some found)) is said taken = record {
  taken = taken;
  retired = subst (λ groups. AllByRecursion (λ group. has groups group ≡ true) found.1.keys) is
      (retired-found text.engine.revisions retired most (record { floor = found.0; groups = found.1.keys }) (sym said));
}

-- ---- what nothing waits in

module _ (text : TextState) (plain : Writing) (stands : IsTextOf text plain) (found : Option Collection) (is : found ≡ collection_after plain) where
  -- what is collected leaves none
  pub TextStandsFor-collected : (made : TextState) → IsTextOf made (with_collection plain found) → TextStandsFor made (collected_text plain)
  TextStandsFor-collected made uncollected = record {
    parts = subst (λ f. IsTextOf made (with_collection plain f)) is uncollected;
    none_left = HasNoneLeft-collected plain;
  }

-- its floor is one that each session has acknowledged
pub floor-collected : (plain : Writing) (found : Collection) → Some found ≡ collection_after plain →
    found.floor ≤ least_acknowledged (head plain.history) plain.sessions
floor-collected plain found is =
    floor-found plain.history plain.groups.retired (least_acknowledged (head plain.history) plain.sessions) found (sym is)

-- ---- the text with other sessions

pub IsTextOf-sessions : (text : TextState) (plain : Writing) (sessions others : List (Option ℕ)) → IsTextOf text plain → sessions ≡ others →
    AreAcknowledged plain.history others → IsTextOf (record text { sessions = sessions }) (record plain { sessions = others })
IsTextOf-sessions text plain sessions others stands same are = record {
  state = stands.state;
  limit = stands.limit;
  sessions = same;
  acknowledged = are;
  groups = stands.groups;
  typing = stands.typing;
  agree = stands.agree;
  saved = stands.saved;
  saved_before = stands.saved_before;
}

-- WHAT A COLLECTION LEAVES ALONE
pub part-collected : {X : Type 0} (f : Writing → X) (plain : Writing) → ((found : Collection) → f (with_collection plain (Some found)) ≡ f plain) →
    f (collected_text plain) ≡ f plain
part-collected f plain same = by (collection_after plain)
  where
    by : (found : Option Collection) → f (with_collection plain found) ≡ f plain
    by None = refl
    by (Some found) = same found
