-- What the undo groups of a text in memory allow.
use Rattle.std.proofs.Common.{◌≡◌, ℕ, ◌+◌, ◌-◌, ◌<◌, ◌≤◌, Bool, true, false, not, ◌&&◌, if◌then◌else◌, nat_lt, ◌==◌, List, [], ◌∷◌, ◌++◌, length, take, drop, Option, Some, None, refl, ap, sym, ◌∙◌, subst, arith}
use Rattle.std.proofs.Math.Bool.{Bool-set}
use Rattle.std.proofs.Math.Logic.{∥∥₁_elim, ∥∥₁_map}
use Rattle.std.specs.Prelude.{◌^◌, slice_index}
use Rattle.std.specs.Coded.{le_prop}
use Rattle.std.specs.List.{AllByRecursion, AllByRecursion-prop, list_any}
use Rattle.std.proofs.lemmas.Bool.{or_left, or_right, eqb-true}
use Rattle.std.proofs.lemmas.Bool.Decides.{nat_tests}
use Rattle.std.proofs.lemmas.List.{drop_more}
use Rattle.plain_text.specs.Numbers.{flipped, has, turned, with_number, without_number, IsRising}
use Rattle.plain_text.proofs.callers.NumberLemmas.{has-flipped}
use Rattle.number_set.proofs.ForCallers.{absent, has-own, has-one, has-take, has-drop, no}
use Rattle.plain_edits.specs.Edits.{is_edit_of}
use Rattle.plain_edits.specs.History.{History, edit, head}
use Rattle.plain_edits.specs.Undo.{undone_now}
use Rattle.rev_list.specs.Edit.{undone_by}
use Rattle.rev_undo.specs.Under.{AgreesOnCollected}
use Rattle.rev_engine.specs.Asked.{IsKnown, MayAskUndo}
use Rattle.rev_engine.specs.State.{State}
use Rattle.rev_engine.proofs.ForCallers.{IsKnown-stands, collected-stands, head-stands, undone_now-stands}
use Rattle.undo_groups.specs.Groups.{Groups, IsStack, is_known, next_undo, undone_one, next_redo, redone_one}
use Rattle.edit_groups.specs.declared.typing.Kind.{Kind}
use Rattle.edit_groups.specs.declared.typing.Typing.{Typing}
use Rattle.edit_groups.specs.Grouping.{group_by, groups_by, known_group, named_group, run_group}
use Rattle.edit_groups.specs.Typing.{run_on, run_with}
use Rattle.doc_text.specs.Agree.{Agree}
use Rattle.doc_text.specs.Inner.{IsOpenGroup, IsTurned, IsTurnedBy}
use Rattle.doc_text.specs.Whole.{IsWhole, IsWholeOf}
use Rattle.doc_text.proofs.AgreeLemmas.{Agree-edited, Agree-ended, Agree-still, IsLast-next_undo, IsNewest-edited, JoinsKnown, JoinsKnown-newest, JoinsNewest-run, counts-joined, edits-turned, has-next_undo, kept-joined, kept-turned, shown-joined}

-- ---- the group that is named

pub JoinsKnown-named : (groups : Groups) (named : Option ℕ) → JoinsKnown groups (known_group groups named)
JoinsKnown-named groups None = tt
JoinsKnown-named groups (Some group) = by (is_known groups group) refl
  where
    by : (known : Bool) → is_known groups group ≡ known → JoinsKnown groups (if known then Some group else None)
    by true is = is
    by false is = tt

once : (z w k : Bool) → (z && ((z && w) && k)) ≡ ((z && w) && k)
once true w k = refl
once false w k = refl

-- an edit may join the groups that the stack knows
pub known_group-named : (h : History) (groups : Groups) (typing : Option Typing) (named : Option ℕ) → Agree h.revisions h.collected groups typing →
    known_group groups named ≡ named_group h named
known_group-named h groups typing None agree = refl
known_group-named h groups typing (Some group) agree =
    ap (λ b. if b then Some group else None) (agree.known group ∙
    sym (once (nat_lt 0 group) _ (not (has h.collected group))) ∙
    ap (λ b. nat_lt 0 group && (b && not (has h.collected group))) (sym (agree.given group)))

-- ---- an undo and a redo

module _ (s : Groups) (stack : IsStack s) where
  pub IsTurned-undo : (group : ℕ) → next_undo s ≡ Some group → IsStack (undone_one s) → IsTurned s (undone_one s) group
  IsTurned-undo group is sound =
      let last = IsLast-next_undo s group is in
      let there = has-next_undo s group stack is in
      by (s.index == 0) refl last.some last.is sound there
    where
      by : (none : Bool) → (s.index == 0) ≡ none → 0 < s.index → slice_index s.live (s.index - 1) ≡ group →
          IsStack (if none then s else record {
            live = s.live;
            index = s.index - 1;
            retired = s.retired;
            undone = with_number s.undone (slice_index s.live (s.index - 1));
            given = s.given;
          }) → has (take s.index s.live) group ≡ true → IsTurned s (if none then s else record {
            live = s.live;
            index = s.index - 1;
            retired = s.retired;
            undone = with_number s.undone (slice_index s.live (s.index - 1));
            given = s.given;
          }) group
      by true none some last sound there = absurd (omega (arith, some, eqb-true s.index 0 none))
      by false none some last sound there = record {
        sound = sound;
        is_live = has-take s.index s.live group there;
        undone =
            ap (with_number s.undone) last ∙
            ap (λ b. if b then without_number s.undone group else with_number s.undone group) (sym (stack.done group there));
        live = refl;
        retired = refl;
        given = refl;
      }

  pub IsTurned-redo : (group : ℕ) → next_redo s ≡ Some group → IsStack (redone_one s) → IsTurned s (redone_one s) group
  IsTurned-redo group is sound = by (s.index == length s.live) refl is sound
    where
      below : (i n : ℕ) → i ≤ n → (i == n) ≡ false → i < n
      below i n within differ = grind (arith, nat_tests)

      by : (none : Bool) → (s.index == length s.live) ≡ none → (if none then None else Some (slice_index s.live s.index)) ≡ Some group →
          IsStack (if none then s else record {
            live = s.live;
            index = s.index + 1;
            retired = s.retired;
            undone = without_number s.undone (slice_index s.live s.index);
            given = s.given;
          }) → IsTurned s (if none then s else record {
            live = s.live;
            index = s.index + 1;
            retired = s.retired;
            undone = without_number s.undone (slice_index s.live s.index);
            given = s.given;
          }) group
      by true none is sound = absurd cc
      by false none is sound =
          let next : slice_index s.live s.index ≡ group = cc in
          let inside : s.index < length s.live = below s.index (length s.live) stack.reached none in
          let rest : drop s.index s.live ≡ group ∷ drop (s.index + 1) s.live =
          drop_more s.live s.index 0 inside ∙ ap (λ g. g ∷ drop (s.index + 1) s.live) next in
          let there : has (drop s.index s.live) group ≡ true = ap (λ xs. has xs group) rest ∙ has-own group (drop (s.index + 1) s.live) in
          record {
            sound = sound;
            is_live = has-drop s.index s.live group there;
            undone =
                ap (without_number s.undone) next ∙
                ap (λ b. if b then without_number s.undone group else with_number s.undone group) (sym (stack.taken_back group there));
            live = refl;
            retired = refl;
            given = refl;
          }

  pub IsTurnedBy-undo : (found : Option ℕ) (next : Groups) → found ≡ next_undo s → next ≡ undone_one s → IsStack next → IsTurnedBy s next found
  IsTurnedBy-undo None next found_is next_is sound = tt
  IsTurnedBy-undo (Some group) next found_is next_is sound =
      subst (λ n. IsTurned s n group) (sym next_is) (IsTurned-undo group (sym found_is) (subst IsStack next_is sound))

  pub IsTurnedBy-redo : (found : Option ℕ) (next : Groups) → found ≡ next_redo s → next ≡ redone_one s → IsStack next → IsTurnedBy s next found
  IsTurnedBy-redo None next found_is next_is sound = tt
  IsTurnedBy-redo (Some group) next found_is next_is sound =
      subst (λ n. IsTurned s n group) (sym next_is) (IsTurned-redo group (sym found_is) (subst IsStack next_is sound))

-- ---- what holds of a text in memory, whatever its history

-- of a run that goes on or ends
pub IsWhole-run : (engine : State) (groups : Groups) (typing : Option Typing) (kind : Option Kind) → IsWhole engine groups typing →
    IsWhole engine groups (run_on typing kind)
IsWhole-run engine groups typing kind whole =
    ∥∥₁_map whole (λ (s : (h : History) × IsWholeOf h engine groups typing).
    (s.0, record { state = s.1.state; agree = Agree-still s.0.revisions s.0.collected groups typing s.1.agree kind }))

-- of one that ended
pub IsWhole-ended : (engine : State) (groups : Groups) (typing : Option Typing) → IsWhole engine groups typing → IsWhole engine groups None
IsWhole-ended engine groups typing whole =
    ∥∥₁_map whole (λ (s : (h : History) × IsWholeOf h engine groups typing).
    (s.0, record { state = s.1.state; agree = Agree-ended s.0.revisions s.0.collected groups typing s.1.agree }))

-- after the front end's edit
pub Agree-front : (h : History) (groups : Groups) (typing : Option Typing) (kind : Option Kind) (group base priority author : ℕ) (stack : Groups) (run : Option Typing) →
    Agree h.revisions h.collected groups typing → group ≡ group_by groups (run_group (run_on typing kind)) →
    stack ≡ groups_by groups (run_group (run_on typing kind)) → run ≡ run_with kind group → IsStack stack →
    Agree (h.revisions ++ edit base group priority author ∷ []) h.collected stack run
Agree-front h groups typing kind group base priority author stack run agree group_is stack_is typing_is sound =
    let joined = run_group (run_on typing kind) in
    let newest = JoinsNewest-run groups typing kind agree.newest in
    let known = JoinsKnown-newest h.revisions h.collected groups typing agree joined newest in
    let At : ℕ → Groups → Option Typing → Type 0 = λ g s t. Agree (h.revisions ++ edit base g priority author ∷ []) h.collected s t in
    subst (λ g. At g stack run) (sym group_is)
    (subst (λ s. At (group_by groups joined) s run) (sym stack_is)
    (subst (λ t. At (group_by groups joined) (groups_by groups joined) t) (sym (typing_is ∙ ap (run_with kind) group_is))
    (Agree-edited h.revisions h.collected groups typing agree joined base priority author (run_with kind (group_by groups joined)) known
    (subst IsStack stack_is sound) (IsNewest-edited groups joined kind newest))))

-- after the edit of a plugin
pub Agree-named : (h : History) (groups : Groups) (typing : Option Typing) (joined : Option ℕ) (group base priority author : ℕ) (stack : Groups) (run : Option Typing) →
    Agree h.revisions h.collected groups typing → JoinsKnown groups joined → group ≡ group_by groups joined →
    stack ≡ groups_by groups joined → run ≡ None → IsStack stack →
    Agree (h.revisions ++ edit base group priority author ∷ []) h.collected stack run
Agree-named h groups typing joined group base priority author stack run agree known group_is stack_is typing_is sound =
    let At : ℕ → Groups → Option Typing → Type 0 = λ g s t. Agree (h.revisions ++ edit base g priority author ∷ []) h.collected s t in
    subst (λ g. At g stack run) (sym group_is)
    (subst (λ s. At (group_by groups joined) s run) (sym stack_is)
    (subst (λ t. At (group_by groups joined) (groups_by groups joined) t) (sym typing_is)
    (Agree-edited h.revisions h.collected groups typing agree joined base priority author None known (subst IsStack stack_is sound) tt)))

all_known : (P : ℕ → Type 0) (groups : List ℕ) → ((g : ℕ) → has groups g ≡ true → P g) → AllByRecursion P groups
all_known P [] each = tt
all_known P (g ∷ groups) each =
    (each g (has-own g groups), all_known P groups (λ other there. each other (or_right (g == other) (has groups other) there)))

IsKnown-prop : (h : History) (group : ℕ) → IsProp (IsKnown h group)
IsKnown-prop h group = hlevel (le_prop, Bool-set)

-- what an undo of the turned group undoes
pub undone_by-turned : (h : History) (groups next : Groups) (typing : Option Typing) (group : ℕ) → Agree h.revisions h.collected groups typing →
    IsTurned groups next group → undone_by h (group ∷ []) ≡ next.undone
undone_by-turned h groups next typing group agree turn = ap (λ xs. turned xs group) agree.undone ∙ sym turn.undone

module _ (engine : State) (groups : Groups) (typing : Option Typing) (whole : IsWhole engine groups typing) where
  pub few-whole : groups.given ≤ head engine.revisions
  few-whole =
      ∥∥₁_elim whole le_prop (λ (s : (h : History) × IsWholeOf h engine groups typing).
      omega (arith, s.1.agree.few, head-stands engine s.0 s.1.state.stands))

  pub counts-whole : (joined : Option ℕ) → JoinsKnown groups joined → 1 ≤ group_by groups joined
  counts-whole joined known =
      ∥∥₁_elim whole le_prop (λ (s : (h : History) × IsWholeOf h engine groups typing).
      counts-joined s.0.revisions s.0.collected groups typing s.1.agree joined known)

  pub kept-whole : (joined : Option ℕ) → JoinsKnown groups joined → has engine.revisions.collected (group_by groups joined) ≡ false
  kept-whole joined known =
      ∥∥₁_elim whole (Bool-set _ _) (λ (s : (h : History) × IsWholeOf h engine groups typing).
      ap (λ (set : List ℕ). has set (group_by groups joined)) (collected-stands engine s.0 s.1.state.stands) ∙
      kept-joined s.0.revisions s.0.collected groups typing s.1.agree joined known)

  -- the group of the run that goes on, or the next one
  pub open-whole : (kind : Option Kind) → IsOpenGroup engine.revisions (group_by groups (run_group (run_on typing kind)))
  open-whole kind =
      let joined = run_group (run_on typing kind) in
      let Is : Type 0 = (h : History) × IsWholeOf h engine groups typing in
      record {
        counts =
            ∥∥₁_elim whole le_prop (λ (s : Is). let newest = JoinsNewest-run groups typing kind s.1.agree.newest in
            counts-joined s.0.revisions s.0.collected groups typing s.1.agree joined
            (JoinsKnown-newest s.0.revisions s.0.collected groups typing s.1.agree joined newest));
        kept =
            ∥∥₁_elim whole (Bool-set _ _) (λ (s : Is). let newest = JoinsNewest-run groups typing kind s.1.agree.newest in
            ap (λ (set : List ℕ). has set (group_by groups joined)) (collected-stands engine s.0 s.1.state.stands) ∙
            kept-joined s.0.revisions s.0.collected groups typing s.1.agree joined
            (JoinsKnown-newest s.0.revisions s.0.collected groups typing s.1.agree joined newest));
        shown =
            ∥∥₁_elim whole (Bool-set _ _) (λ (s : Is). let newest = JoinsNewest-run groups typing kind s.1.agree.newest in
            ap (λ (set : List ℕ). has set (group_by groups joined)) (undone_now-stands engine s.0 s.1.state.stands) ∙
            shown-joined s.0.revisions s.0.collected groups typing s.1.agree joined newest);
      }

  module _ (next : Groups) (group : ℕ) (turn : IsTurned groups next group) where
    pub MayAskUndo-whole : head engine.revisions < 2 ^ 63 - 1 → MayAskUndo engine.revisions (undone_by engine.revisions (group ∷ []))
    MayAskUndo-whole numbered = record {
      known =
          ∥∥₁_elim whole (AllByRecursion-prop (IsKnown engine.revisions) (IsKnown-prop engine.revisions) _)
          (λ (s : (h : History) × IsWholeOf h engine groups typing).
          let h = s.0 in
          let same : undone_by engine.revisions (group ∷ []) ≡ next.undone =
          ap (λ (set : List ℕ). flipped set (group ∷ [])) (undone_now-stands engine h s.1.state.stands) ∙
          undone_by-turned h groups next typing group s.1.agree turn in
          subst (AllByRecursion (IsKnown engine.revisions)) (sym same)
          (all_known (IsKnown engine.revisions) next.undone (λ g there.
          let is = edits-turned h.revisions h.collected groups typing s.1.agree next group turn g there in
          IsKnown-stands engine h s.1.state.stands g (is.0, or_left (list_any (is_edit_of g) h.revisions) (has h.collected g) is.1))));
      has_number = numbered;
    }

    pub agrees-whole : AgreesOnCollected engine.revisions (undone_by engine.revisions (group ∷ []))
    agrees-whole =
        ∥∥₁_elim whole (AllByRecursion-prop _ (λ g. Bool-set _ _) _)
        (λ (s : (h : History) × IsWholeOf h engine groups typing).
        let h = s.0 in
        let rises : IsRising (undone_now h) = subst IsRising (sym s.1.agree.undone) s.1.agree.stack.undone_rise in
        let At : List ℕ → List ℕ → Type 0 = λ undone collected.
        AllByRecursion (λ g. has (flipped undone (group ∷ [])) g ≡ has undone g) collected in
        subst (λ undone. At undone engine.revisions.collected) (sym (undone_now-stands engine h s.1.state.stands))
        (subst (At (undone_now h)) (sym (collected-stands engine h s.1.state.stands))
        (all_known (λ g. has (undone_by h (group ∷ [])) g ≡ has (undone_now h) g) h.collected (λ g gone.
        has-flipped (undone_now h) (group ∷ []) g rises (tt, tt) ∙
        ap (λ b. if b then not (has (undone_now h) g) else has (undone_now h) g)
        (other h.collected g (kept-turned h.revisions h.collected groups typing s.1.agree next group turn) gone)))))
      where
        other : (collected : List ℕ) (g : ℕ) → has collected group ≡ false → has collected g ≡ true → has (group ∷ []) g ≡ false
        other collected g kept gone =
            absent (has (group ∷ []) g) (λ there. no (has collected group) (ap (has collected) (has-one group g there) ∙ gone) kept)
