-- The queue of tickets after each step of a seat.
use Rattle.std.proofs.Common.{◌≡◌, ◌≢◌, ℕ, zero, suc, ◌+◌, ◌%◌, ◌^◌, ◌<◌, ◌≤◌, true, List, [], ◌∷◌, ◌++◌, length, drop, set, refl, sym, ap, ◌∙◌, subst, ⊎_elim, arith, length-append}
use mathlib.Core.Option.{some, some-ne-none, some-injective}
use lib.ListN.{get_elem?}
use Rattle.atomic_table.proofs.Lists.{at_set, at_snoc, at_longer, at_last}
use Rattle.room_lock.specs.declared.view.Stage.{Stage}
use Rattle.room_lock.specs.declared.view.Stage.TheVariants.{Idle, Waits, Turn, Spent}
use Rattle.room_lock.specs.declared.view.View.{View}
use Rattle.room_lock.specs.Inner.{held, all_held, has_turn, FitsQueue, IsQueue}

pub at_short : {A : Type 0} (xs : List A) (i : ℕ) (x : A) → get_elem? xs i ≡ some x → i < length xs
at_short [] i x e = absurd (some-ne-none x (sym e))
at_short (y ∷ ys) zero x e = omega arith
at_short (y ∷ ys) (suc i) x e = let r = at_short ys i x e in omega arith

all_held-set : (views : List View) (i : ℕ) (v w : View) → get_elem? views i ≡ some v → all_held (set views i w) + held v.stage ≡ all_held views + held w.stage
all_held-set [] i v w e = absurd (some-ne-none v (sym e))
all_held-set (x ∷ xs) zero v w e = let is : held x.stage ≡ held v.stage = ap (λ (m : View). held m.stage) (some-injective x v e) in omega arith
all_held-set (x ∷ xs) (suc i) v w e = let r = all_held-set xs i v w e in omega arith

all_held-append : (views : List View) (v : View) → all_held (views ++ v ∷ []) ≡ all_held views + held v.stage
all_held-append [] v = omega arith
all_held-append (x ∷ xs) v = let r = all_held-append xs v in omega arith

held_few : (stage : Stage) → held stage ≤ 1
held_few Idle = omega arith
held_few (Waits ticket) = omega arith
held_few Turn = omega arith
held_few Spent = omega arith

pub all_held_few : (views : List View) → all_held views ≤ length views
all_held_few [] = omega arith
all_held_few (x ∷ xs) = let r = all_held_few xs in let one = held_few x.stage in omega arith

-- who has the turn is the first of the queue
pub turn_first : (serving : ℕ) (queue : List ℕ) (seat : ℕ) (stage : Stage) → has_turn stage ≡ true → FitsQueue serving queue seat stage → get_elem? queue 0 ≡ some seat
turn_first serving queue seat Idle e f = absurd (cc)
turn_first serving queue seat (Waits ticket) e f = absurd (cc)
turn_first serving queue seat Turn e f = f
turn_first serving queue seat Spent e f = absurd (cc)

fits_longer : (serving : ℕ) (queue more : List ℕ) (seat : ℕ) (stage : Stage) → FitsQueue serving queue seat stage → FitsQueue serving (queue ++ more) seat stage
fits_longer serving queue more seat Idle f = tt
fits_longer serving queue more seat (Waits ticket) f = (f.0, f.1, at_longer queue more f.0 seat f.2)
fits_longer serving queue more seat Turn f = at_longer queue more 0 seat f
fits_longer serving queue more seat Spent f = tt

ticket_passed : (serving ticket first : ℕ) (queue : List ℕ) (seat k : ℕ) → first ≢ seat → ticket ≡ serving + k → get_elem? (first ∷ queue) k ≡ some seat → FitsQueue (serving + 1) queue seat (Waits ticket)
ticket_passed serving ticket first queue seat zero other e f = absurd (other (some-injective first seat f))
ticket_passed serving ticket first queue seat (suc k) other e f = (k, omega arith, f)

fits_passed : (serving first : ℕ) (queue : List ℕ) (seat : ℕ) (stage : Stage) → first ≢ seat → FitsQueue serving (first ∷ queue) seat stage → FitsQueue (serving + 1) queue seat stage
fits_passed serving first queue seat Idle other f = tt
fits_passed serving first queue seat (Waits ticket) other f = ticket_passed serving ticket first queue seat f.0 other f.1 f.2
fits_passed serving first queue seat Turn other f = absurd (other (some-injective first seat f))
fits_passed serving first queue seat Spent other f = tt

-- each view of a list after one was set
each_set : (P : ℕ → View → Type 0) (views : List View) (id : ℕ) (w : View) → P id w → ((seat : ℕ) (u : View) → seat ≢ id → get_elem? views seat ≡ some u → P seat u)
    → (seat : ℕ) (u : View) → get_elem? (set views id w) seat ≡ some u → P seat u
each_set P views id w mine others seat u e =
    ⊎_elim
    (λ (x : (seat ≡ id) × (w ≡ u)). subst (λ (y : ℕ × View). P y.0 y.1) (λ i. (sym x.0 i, x.1 i)) mine)
    (λ (x : (seat ≢ id) × (get_elem? views seat ≡ some u)). others seat u x.0 x.1)
    (at_set views id seat w u e)

-- a view changed, and holds as many tickets as before
pub queue_set : (serving : ℕ) (queue : List ℕ) (views : List View) (id : ℕ) (v w : View) → IsQueue serving queue views → get_elem? views id ≡ some v
    → held w.stage ≡ held v.stage → FitsQueue serving queue id w.stage → IsQueue serving queue (set views id w)
queue_set serving queue views id v w q at same fits = record {
  counted = let s = all_held-set views id v w at in let c = q.counted in omega arith;
  each = each_set (λ seat u. FitsQueue serving queue seat u.stage) views id w fits (λ seat u _ e. q.each seat u e);
}

-- a ticket was drawn
pub queue_draw : (serving : ℕ) (queue : List ℕ) (views : List View) (id : ℕ) (v w : View) → IsQueue serving queue views → get_elem? views id ≡ some v
    → held v.stage ≡ 0 → w.stage ≡ Waits (serving + length queue) → IsQueue serving (queue ++ id ∷ []) (set views id w)
queue_draw serving queue views id v w q at none_held is = record {
  counted = let s = all_held-set views id v w at in let c = q.counted in let one : held w.stage ≡ 1 = ap held is in omega (arith, length-append queue (id ∷ []));
  each = each_set (λ seat u. FitsQueue serving (queue ++ id ∷ []) seat u.stage) views id w
      (subst (FitsQueue serving (queue ++ id ∷ []) id) (sym is) (length queue, refl, at_last queue id (length queue) refl))
      (λ seat u _ e. fits_longer serving queue (id ∷ []) seat u.stage (q.each seat u e));
}

-- the first of the queue passed the turn on
pub queue_pass : (serving : ℕ) (queue : List ℕ) (views : List View) (id : ℕ) (v w : View) → IsQueue serving queue views → get_elem? views id ≡ some v
    → held v.stage ≡ 1 → w.stage ≡ Idle → get_elem? queue 0 ≡ some id
    → IsQueue (serving + 1) (drop 1 queue) (set views id w) × (length queue ≡ length (drop 1 queue) + 1)
queue_pass serving [] views id v w q at one is first = absurd (some-ne-none id (sym first))
queue_pass serving (x ∷ queue) views id v w q at one is first =
    let mine : x ≡ id = some-injective x id first in (
      record {
        counted = let s = all_held-set views id v w at in let c = q.counted in let none_held : held w.stage ≡ 0 = ap held is in omega arith;
        each = each_set (λ seat u. FitsQueue (serving + 1) queue seat u.stage) views id w (subst (FitsQueue (serving + 1) queue id) (sym is) tt)
            (λ seat u other e. fits_passed serving x queue seat u.stage (λ same. other (sym same ∙ mine)) (q.each seat u e));
      },
      omega arith,
    )

-- a new seat is idle
pub queue_new : (serving : ℕ) (queue : List ℕ) (views : List View) (w : View) → IsQueue serving queue views → w.stage ≡ Idle → IsQueue serving queue (views ++ w ∷ [])
queue_new serving queue views w q is = record {
  counted = let s = all_held-append views w in let c = q.counted in let none_held : held w.stage ≡ 0 = ap held is in omega arith;
  each = λ seat u e.
      ⊎_elim
      (λ there. q.each seat u there)
      (λ (same : w ≡ u). subst (λ (x : View). FitsQueue serving queue seat x.stage) same (subst (FitsQueue serving queue seat) (sym is) tt))
      (at_snoc views w u seat e);
}

-- the served ticket is that of the first of the queue
pub ticket_served : (serving : ℕ) (queue : List ℕ) (seat ticket k : ℕ) → length queue < 2 ^ 32 → ticket ≡ serving + k → get_elem? queue k ≡ some seat
    → serving % 2 ^ 64 ≡ ticket % 2 ^ 64 → get_elem? queue 0 ≡ some seat
ticket_served serving queue seat ticket k few e f same =
    let short = at_short queue k seat f in let zero_k : k ≡ 0 = omega arith in subst (λ (n : ℕ). get_elem? queue n ≡ some seat) zero_k f
