-- How seats come and go: the first, the next, one that is joined away, and the end.
use Rattle.std.proofs.Common.{◌≡◌, ◌≢◌, ◌⊎◌, ℕ, zero, suc, ◌+◌, ◌<◌, ◌≤◌, true, false, true≢false, List, [], ◌∷◌, ◌++◌, map, length, set, Option, Some, refl, sym, ap, ◌∙◌, subst, ⊎_elim, inl, inr, arith, length-append, length-set}
use Rattle.std.specs.List.{AllByRecursion}
use Rattle.std.proofs.lemmas.List.{append_assoc}
use mathlib.Core.Option.{some, some-injective, some-ne-none}
use lib.ListN.{get_elem?}
use Rattle.atomic_table.specs.Seated.{TableId}
use Rattle.atomic_table.specs.Table.{State, Splits, Joins, Final, Seen, opening}
use Rattle.atomic_table.proofs.Lists.{at_set, at_snoc, at_longer, set_else, set_here}
use Rattle.xi_plain.specs.declared.entry.Entry.{Entry}
use Rattle.xi_plain.specs.Journal.{entries_of}
use Rattle.room_lock.specs.declared.view.Stage.{Stage}
use Rattle.room_lock.specs.declared.view.Stage.TheVariants.{Idle, Waits, Turn, Spent}
use Rattle.room_lock.specs.declared.view.Parted.{Parted}
use Rattle.room_lock.specs.declared.view.View.{View}
use Rattle.room_lock.specs.Room.{Known, IsKnownOf, AreAllFrom, AreAll}
use Rattle.room_lock.specs.Inner.{idle, held, has_turn, is_spent, FitsQueue, IsSpentAt, Agrees, IsParted, IsTrue, IsJournal, Kept, AtHome, IsOut, one_more, next_caller, parted, joined_to, spent, parted_pass, gathered, AreIn}
use Rattle.room_lock.proofs.Queue.{at_short, queue_set, queue_new}
use Rattle.room_lock.proofs.Journal.{no_both, begins_same, begins_none, all_on, all_append, spent_set, journal_same, joined_same}
use Rattle.room_lock.proofs.Shelf.{shelf_set}

-- one list with one view
pub one_view : (views : List View) (v w : View) → views ≡ v ∷ [] → views ≡ w ∷ [] → w ≡ v
one_view views v w a b = ap (first_or v) (sym b ∙ a)
  where
    first_or : View → List View → View
    first_or other [] = other
    first_or other (x ∷ xs) = x

-- what stands behind a list and one more
at_end : (views : List View) (w u : View) (k : ℕ) → get_elem? (views ++ w ∷ []) k ≡ some u → (get_elem? views k ≡ some u) ⊎ ((w ≡ u) × (k ≡ length views))
at_end [] w u zero e = inr (some-injective w u e, refl)
at_end [] w u (suc k) e = absurd (some-ne-none u (sym e))
at_end (x ∷ xs) w u zero e = inl e
at_end (x ∷ xs) w u (suc k) e = ⊎_elim (λ there. inl there) (λ (z : (w ≡ u) × (k ≡ length xs)). inr (z.0, ap suc z.1)) (at_end xs w u k e)

set_swap : (views : List View) (i j : ℕ) (v w : View) → i ≢ j → set (set views i v) j w ≡ set (set views j w) i v
set_swap [] i j v w other = refl
set_swap (x ∷ xs) zero zero v w other = absurd (other refl)
set_swap (x ∷ xs) zero (suc j) v w other = refl
set_swap (x ∷ xs) (suc i) zero v w other = refl
set_swap (x ∷ xs) (suc i) (suc j) v w other = ap (λ (l : List View). x ∷ l) (set_swap xs i j v w (λ e. other (ap suc e)))

spent_longer : (views : List View) (w : View) (k : ℕ) → IsSpentAt views k → IsSpentAt (views ++ w ∷ []) k
spent_longer views w k s = (s.0, at_longer views (w ∷ []) k s.0 s.1, s.2)

-- the next caller's seat was made
journal_new : (journal : List Entry) (views : List View) (id : ℕ) (v : View) → IsJournal journal views → get_elem? views id ≡ some v → is_spent v.stage ≡ false → id ≡ 0
    → IsJournal journal (set views id (one_more v) ++ next_caller v ∷ [])
journal_new journal views id v j at live front =
    let w : View = one_more v in
    let next : View = next_caller v in
    let now : List View = set views id w in
    let mine = j.each id v at live in
    let made : v.made ≡ length views = mine.made front in
    let len : length now ≡ length views = length-set views id w in
    let long : length (now ++ next ∷ []) ≡ length now + 1 = length-append now (next ∷ []) in
    let here = at_short views id v at in
    let on : (ps : List Parted) → AllByRecursion (IsParted journal views) ps → AllByRecursion (IsParted journal (now ++ next ∷ [])) ps =
    λ ps a. all_on (IsParted journal views) (IsParted journal (now ++ next ∷ [])) ps
    (λ p b. (b.0, spent_longer now next p.caller (spent_set views id v w at live p.caller b.1))) a in
    let none_yet : entries_of v.made journal ≡ [] = j.unborn v.made (omega arith) in record {
      each = λ seat u e alive.
          ⊎_elim
          (λ (old : get_elem? now seat ≡ some u).
          ⊎_elim
          (λ (x : (seat ≡ id) × (w ≡ u)).
          subst (λ (y : ℕ × View). IsTrue journal (now ++ next ∷ []) y.0 y.1) (λ i. (sym x.0 i, x.1 i))
          (record { caller = mine.caller; seen = mine.seen; whole = mine.whole; made = λ _. omega arith; joined = on v.joined mine.joined }))
          (λ (x : (seat ≢ id) × (get_elem? views seat ≡ some u)). let t = j.each seat u x.1 alive in record {
            caller = t.caller;
            seen = t.seen;
            whole = t.whole;
            made = λ zero_seat. absurd (x.0 (zero_seat ∙ sym front));
            joined = on u.joined t.joined;
          })
          (at_set views id seat w u old))
          (λ (new : (next ≡ u) × (seat ≡ length now)).
          subst (λ (y : ℕ × View). IsTrue journal (now ++ next ∷ []) y.0 y.1) (λ i. (sym (new.1 ∙ (len ∙ sym made)) i, new.0 i))
          (record {
            caller = refl;
            seen = (mine.seen.0, none_yet ∙ sym (begins_none v.made v.seen journal mine.seen.0 none_yet));
            whole = λ t. absurd (true≢false (sym t));
            made = λ zero_seat. absurd (omega arith);
            joined = tt;
          }))
          (at_end now next u seat e);
      unborn = λ k above. j.unborn k (omega arith);
    }

module _ {O : Type 0} (journal_of : O → List Entry) (grown : O → O → Type 0) (first : O) where
  shelf_new : (journal : List Entry) (s : State (Option O) View) (w : View) → has_turn w.stage ≡ false → AtHome journal_of grown first journal s ⊎ IsOut s
      → AtHome journal_of grown first journal (record { words = s.words; homes = s.homes; views = s.views ++ w ∷ [] })
      ⊎ IsOut (record { words = s.words; homes = s.homes; views = s.views ++ w ∷ [] })
  shelf_new journal s w still shelf =
      ⊎_elim
      (λ (h : AtHome journal_of grown first journal s). inl (record {
        object = h.object;
        home = h.home;
        keeps = h.keeps;
        grows = h.grows;
        none_has = λ seat u e. ⊎_elim (λ there. h.none_has seat u there) (λ (same : w ≡ u). subst (λ (x : View). has_turn x.stage ≡ false) same still) (at_snoc s.views w u seat e);
      }))
      (λ (o : IsOut s). inr (record { home = o.home; seat = o.seat; view = o.view; there = at_longer s.views (w ∷ []) o.seat o.view o.there; turn = o.turn }))
      shelf

  module _ (most : ℕ) where
    pub splits : (id : ℕ) (v : View) → v.stage ≡ Idle → v.caller ≡ 0 → v.made < most → Splits (Kept journal_of grown first most) id v (one_more v) (next_caller v)
    splits id v is front more s r at =
        let w : View = one_more v in
        let live = ap is_spent is in
        let mine = r.journaled.each id v at live in
        let zero_id : id ≡ 0 = sym mine.caller ∙ front in
        let made = mine.made zero_id in
        let len = length-set s.views id w in
        let q = queue_set r.serving r.queue s.views id v w r.queued at refl (r.queued.each id v at) in
        let shelf = shelf_set journal_of grown first r.journal s s.words id v w at (ap has_turn is) (ap has_turn is) r.shelf in record {
          journal = r.journal;
          serving = r.serving;
          queue = r.queue;
          words = r.words;
          few = omega (arith, length-append (set s.views id w) (next_caller v ∷ []));
          short = r.short;
          queued = queue_new r.serving r.queue (set s.views id w) (next_caller v) q refl;
          journaled = journal_new r.journal s.views id v r.journaled at live zero_id;
          shelf = shelf_new r.journal (record { words = s.words; homes = s.homes; views = set s.views id w }) (next_caller v) refl shelf;
        }

    -- one seat is spent, and the other knows what it had
    joined_in : (s : State (Option O) View) (id : ℕ) (v : View) (other : ℕ) (u : View) → v.stage ≡ Idle → u.stage ≡ Idle → Kept journal_of grown first most s
        → get_elem? s.views id ≡ some v → id ≢ other → get_elem? s.views other ≡ some u
        → Kept journal_of grown first most (record { words = s.words; homes = s.homes; views = set (set s.views other spent) id (joined_to v u) })
    joined_in s id v other u is is' r at apart there =
        let both : View = joined_to v u in
        let one : List View = set s.views other spent in
        let live = ap is_spent is in
        let live' = ap is_spent is' in
        let at' : get_elem? one id ≡ some v = set_else s.views other id spent apart ∙ at in
        let q = queue_set r.serving r.queue s.views other u spent r.queued there (sym (ap held is')) tt in
        let j : IsJournal r.journal one = journal_same r.journal s.views other u spent r.journaled there live' (λ alive. absurd (true≢false alive)) in
        let mine = j.each id v at' live in
        let theirs = r.journaled.each other u there live' in
        let gone : IsSpentAt one other = (spent, set_here s.views other spent (at_short s.views other u there), refl) in
        let part : IsParted r.journal (set one id both) (parted u) = (
          subst (λ (c : ℕ). Agrees r.journal c u.seen) (sym theirs.caller) theirs.seen,
          subst (IsSpentAt (set one id both)) (sym theirs.caller) (spent_set one id v both at' live other gone),
        ) in record {
          journal = r.journal;
          serving = r.serving;
          queue = r.queue;
          words = r.words;
          few = subst (λ (n : ℕ). n ≤ most) (sym (length-set one id both ∙ length-set s.views other spent)) r.few;
          short = r.short;
          queued = queue_set r.serving r.queue one id v both q at' refl (q.each id v at');
          journaled = journal_same r.journal one id v both j at' live (λ _. record {
            caller = mine.caller;
            seen = mine.seen;
            whole = mine.whole;
            made = λ zero_seat. mine.made zero_seat ∙ sym (length-set one id both);
            joined = all_append (IsParted r.journal (set one id both)) v.joined (parted u) (joined_same r.journal one id v both at' live v.joined mine.joined) part;
          });
          shelf = shelf_set journal_of grown first r.journal (record { words = s.words; homes = s.homes; views = one }) s.words id v both at' (ap has_turn is) (ap has_turn is)
              (shelf_set journal_of grown first r.journal s s.words other u spent there (ap has_turn is') refl r.shelf);
        }

    pub joins : (id : ℕ) (v : View) (other : ℕ) (u : View) → v.stage ≡ Idle → u.stage ≡ Idle → Joins (Kept journal_of grown first most) id v other u (joined_to v u) spent
    joins id v other u is is' s r at apart there =
        let differ : id ≢ other = (λ e. apart (sym e)) in
        let was : get_elem? s.views other ≡ some u = sym (set_else s.views id other (joined_to v u) (λ e. apart e)) ∙ there in
        subst (λ (l : List View). Kept journal_of grown first most (record { words = s.words; homes = s.homes; views = l }))
        (sym (set_swap s.views id other (joined_to v u) spent differ)) (joined_in s id v other u is is' r at differ was)

    -- a room at its start
    pub begins : (object : O) → first ≡ object → journal_of object ≡ [] → grown object object → 1 ≤ most
        → Kept journal_of grown first most (opening (0 ∷ 0 ∷ 0 ∷ []) (Some object ∷ []) (idle 0 [] 1))
    begins object is empty same some_most = record {
      journal = [];
      serving = 0;
      queue = [];
      words = refl;
      few = some_most;
      short = omega arith;
      queued = record { counted = refl; each = placed };
      journaled = record { each = told; unborn = λ k above. refl };
      shelf = inl (record { object = object; home = refl; keeps = empty; grows = subst (λ (o : O). grown o object) (sym is) same; none_has = none_has });
    }
      where
        placed : (seat : ℕ) (v : View) → get_elem? (idle 0 [] 1 ∷ []) seat ≡ some v → FitsQueue 0 [] seat v.stage
        placed zero v e = subst (λ (x : View). FitsQueue 0 [] 0 x.stage) (some-injective _ _ e) tt
        placed (suc seat) v e = absurd (some-ne-none v (sym e))

        told : (seat : ℕ) (v : View) → get_elem? (idle 0 [] 1 ∷ []) seat ≡ some v → is_spent v.stage ≡ false → IsTrue [] (idle 0 [] 1 ∷ []) seat v
        told zero v e alive = subst (IsTrue [] (idle 0 [] 1 ∷ []) 0) (some-injective _ _ e)
            (record { caller = refl; seen = (begins_same [], refl); whole = λ t. absurd (true≢false (sym t)); made = λ _. refl; joined = tt })
        told (suc seat) v e alive = absurd (some-ne-none v (sym e))

        none_has : (seat : ℕ) (v : View) → get_elem? (idle 0 [] 1 ∷ []) seat ≡ some v → has_turn v.stage ≡ false
        none_has zero v e = subst (λ (x : View). has_turn x.stage ≡ false) (some-injective _ _ e) refl
        none_has (suc seat) v e = absurd (some-ne-none v (sym e))

-- those who were joined away are spent, from this number on
all_spent : (journal : List Entry) (views : List View) (room : TableId) (n : ℕ) (passes : List Known) → AreAllFrom n room passes
    → AllByRecursion (IsParted journal views) (map parted_pass passes) → (k : ℕ) → k < length passes → IsSpentAt views (n + k)
all_spent journal views room n [] all a k less = absurd (omega arith)
all_spent journal views room n (p ∷ passes) all a zero less = let same : p.caller ≡ n + 0 = all.1 ∙ (omega arith) in subst (IsSpentAt views) same a.0.1
all_spent journal views room n (p ∷ passes) all a (suc k) less =
    let rest = all_spent journal views room (n + 1) passes all.2 a.1 k (omega arith) in
    let same : n + 1 + k ≡ n + suc k = omega arith in subst (IsSpentAt views) same rest

spent_has_none : (stage : Stage) → is_spent stage ≡ true → has_turn stage ≡ false
spent_has_none Idle e = refl
spent_has_none (Waits ticket) e = refl
spent_has_none Turn e = absurd (true≢false (sym e))
spent_has_none Spent e = refl

all_known : (journal : List Entry) (views : List View) (passes : List Known) → AllByRecursion (IsParted journal views) (map parted_pass passes) → AllByRecursion (IsKnownOf journal) passes
all_known journal views [] a = tt
all_known journal views (p ∷ passes) a = ((a.0.0.0.0, a.0.0.0.1, a.0.0.1), all_known journal views passes a.1)

module _ {O : Type 0} (journal_of : O → List Entry) (grown : O → O → Type 0) (first : O) (most : ℕ) where
  -- where all passes are joined, no seat has the turn
  none_left : (s : State (Option O) View) (r : Kept journal_of grown first most s) (id : ℕ) (room : TableId) (pass : Known) (passes : List Known) → AreAll room (pass ∷ passes)
      → get_elem? s.views id ≡ some (gathered (pass ∷ passes)) → (seat : ℕ) (u : View) → get_elem? s.views seat ≡ some u → has_turn u.stage ≡ false
  none_left s r id room pass passes all at seat u e =
      let mine = r.journaled.each id (gathered (pass ∷ passes)) at refl in
      let zero_id : id ≡ 0 = sym mine.caller ∙ all.0.1 in
      let told : pass.made ≡ length s.views = mine.made zero_id in
      let many : pass.made ≡ suc (length passes) = all.1 in
      let made : length s.views ≡ length passes + 1 = omega arith in
      by_seat seat e zero_id made mine.joined
    where
      by_seat : (n : ℕ) → get_elem? s.views n ≡ some u → id ≡ 0 → length s.views ≡ length passes + 1
          → AllByRecursion (IsParted r.journal s.views) (map parted_pass passes) → has_turn u.stage ≡ false
      by_seat zero here zero_id made joined =
          subst (λ (x : View). has_turn x.stage ≡ false) (some-injective (gathered (pass ∷ passes)) u (sym (ap (λ (n : ℕ). get_elem? s.views n) (sym zero_id) ∙ at) ∙ here)) refl
      by_seat (suc k) here zero_id made joined =
          let less = at_short s.views (suc k) u here in
          let gone = all_spent r.journal s.views room 1 passes all.0.2 joined k (omega arith) in
          let place : 1 + k ≡ suc k = omega arith in
          let same : gone.0 ≡ u = some-injective gone.0 u (sym gone.1 ∙ (ap (λ (n : ℕ). get_elem? s.views n) place ∙ here)) in
          spent_has_none u.stage (subst (λ (x : View). is_spent x.stage ≡ true) same gone.2)

  abbrev pub Ending : List (Option O) → List Known → Type 0
  Ending slots passes = (object : O) × (get_elem? slots 0 ≡ some (Some object)) × grown first object × AllByRecursion (IsKnownOf (journal_of object)) passes

  pub ends : (id : ℕ) (room : TableId) (passes : List Known) (words : List ℕ) (slots : List (Option O)) → AreAll room passes
      → Final (Seen (Kept journal_of grown first most) id (gathered passes)) words slots → Ending slots passes
  ends id room [] words slots all final = absurd all
  ends id room (pass ∷ passes) words slots all final =
      let s = final.0 in
      let r = final.1.0 in
      let at = final.1.1 in
      ⊎_elim
      (λ (h : AtHome journal_of grown first r.journal s).
      let mine = r.journaled.each id (gathered (pass ∷ passes)) at refl in (
        h.object,
        final.4 0 (Some h.object) (ap (λ l. get_elem? l 0) h.home),
        h.grows,
        subst (λ (l : List Entry). AllByRecursion (IsKnownOf l) (pass ∷ passes)) (sym h.keeps) (
          (mine.seen.0.0, mine.seen.0.1, subst (λ (c : ℕ). entries_of c r.journal ≡ entries_of c pass.seen) (sym mine.caller) mine.seen.1),
          all_known r.journal s.views passes mine.joined,
        ),
      ))
      (λ (o : IsOut s). absurd (no_both (has_turn o.view.stage) o.turn (none_left s r id room pass passes all at o.seat o.view o.there)))
      r.shelf

-- the passes are of the room
pub are_in : (n : ℕ) (room : TableId) (passes : List Known) → AreAllFrom n room passes → AreIn room passes
are_in n room [] all = tt
are_in n room (pass ∷ passes) all = (all.0, are_in (n + 1) room passes all.2)

-- one more was joined
pub joined_more : (joined : List Parted) (x : Known) (before after whole : List Known) → joined ++ map parted_pass before ≡ map parted_pass whole → before ≡ x ∷ after
    → (joined ++ parted_pass x ∷ []) ++ map parted_pass after ≡ map parted_pass whole
joined_more joined x before after whole so_far is =
    append_assoc joined (parted_pass x ∷ []) (map parted_pass after) ∙ (ap (λ (l : List Known). joined ++ map parted_pass l) (sym is) ∙ so_far)
