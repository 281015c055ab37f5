-- Each step of a turn keeps the rule.
use Rattle.std.proofs.Common.{◌≡◌, ◌≢◌, ℕ, ◌+◌, ◌%◌, ◌^◌, ◌<◌, ◌≤◌, Bool, true, false, true≢false, List, [], ◌∷◌, ◌++◌, length, drop, set, Option, Some, None, slice_index, slice_set, refl, sym, ap, ◌∙◌, subst, ⊎_elim, inl, inr, arith, length-append, length-set, append-nil}
use mathlib.Core.Option.{some, none, some-injective}
use mathlib.Core.Logic.{dite}
use native.Mathlib.Decide.{ℕ_discrete}
use lib.ListN.{get_elem?}
use Rattle.atomic_table.specs.Table.{State, Me, step, keeps, takes, gives, put_back, Allows}
use Rattle.atomic_table.proofs.Lists.{set_again, set_here}
use Rattle.xi_plain.specs.declared.entry.Entry.{Entry}
use Rattle.xi_plain.specs.Journal.{entries_of}
use Rattle.xi_plain.specs.Room.{AddsEntry}
use Rattle.room_lock.specs.declared.view.Stage.{Stage}
use Rattle.room_lock.specs.declared.view.Stage.TheVariants.{Idle, Waits, Turn, Spent}
use Rattle.room_lock.specs.declared.view.View.{View}
use Rattle.room_lock.specs.Inner.{held, has_turn, is_spent, at_stage, with_turn, FitsQueue, Agrees, Kept, AtHome, IsOut, Looked, Counted, Drew, Measured, Passed, FindsUnborn}
use Rattle.room_lock.proofs.Queue.{at_short, all_held_few, turn_first, queue_set, queue_draw, queue_pass, ticket_served}
use Rattle.room_lock.proofs.Journal.{no_both, entries_of-append, entries_of-other, begins_none, agrees_same, joined_on, journal_set, journal_same, true_same}
use Rattle.room_lock.proofs.Shelf.{none_set, shelf_set}

-- the ticket of a stage
abbrev ticket_in : Stage → ℕ
ticket_in Idle = 0
ticket_in (Waits ticket) = ticket
ticket_in Turn = 0
ticket_in Spent = 0

-- the object that is out, or else this
abbrev pub object_in : {O : Type 0} → O → List (ℕ × Option O) → O
object_in object [] = object
object_in object ((k, None) ∷ xs) = object
object_in object ((k, Some other) ∷ xs) = other

false_if : (b : Bool) → (b ≡ true → ⊥) → b ≡ false
false_if true never = absurd (never refl)
false_if false never = refl

module _ {O : Type 0} (journal_of : O → List Entry) (grown : O → O → Type 0) (first : O) (most : ℕ) where
  abbrev St : Type 0
  St = State (Option O) View

  abbrev M : Type 0
  M = Me (Option O) View

  abbrev Rule : St → Type 0
  Rule = Kept journal_of grown first most

  -- a step that changes nothing
  still : (s : St) → Rule s → (words : List ℕ) → words ≡ s.words → (id : ℕ) (v : View) → get_elem? s.views id ≡ some v → Rule (record { words = words; homes = s.homes; views = set s.views id v })
  still s r words same id v at =
      subst (λ (z : List ℕ × List View). Rule (record { words = z.0; homes = s.homes; views = z.1 })) (λ i. (sym same i, sym (set_again s.views id v at) i)) r

  -- who has the turn is the first of the queue, so only one has it
  first_in : (s : St) (r : Rule s) (id : ℕ) (v : View) → get_elem? s.views id ≡ some v → has_turn v.stage ≡ true → get_elem? r.queue 0 ≡ some id
  first_in s r id v at turn = turn_first r.serving r.queue id v.stage turn (r.queued.each id v at)

  only_one : (s : St) (r : Rule s) (id : ℕ) → get_elem? r.queue 0 ≡ some id → (seat : ℕ) (u : View) → get_elem? s.views seat ≡ some u → has_turn u.stage ≡ true → seat ≡ id
  only_one s r id mine seat u e turn = some-injective seat id (sym (first_in s r seat u e turn) ∙ mine)

  out_in : (s : St) (r : Rule s) (id : ℕ) (v : View) → get_elem? s.views id ≡ some v → has_turn v.stage ≡ true → s.homes ≡ none ∷ []
  out_in s r id v at turn = ⊎_elim (λ (h : AtHome journal_of grown first r.journal s). absurd (no_both (has_turn v.stage) turn (h.none_has id v at))) (λ (o : IsOut s). o.home) r.shelf

  pub draws : (slots id : ℕ) (me : M) → me.0.stage ≡ Idle → Allows Rule slots id me 1 (λ n. (n + 1) % 2 ^ 64) (Drew (step slots 1 1 0 none) me)
  draws slots id me is s r wide at small =
      let v : View = me.0 in
      let ticket : ℕ = r.serving + length r.queue in
      let w : View = at_stage (Waits ticket) v in
      let next : (ticket % 2 ^ 64 + 1) % 2 ^ 64 ≡ (r.serving + length (r.queue ++ id ∷ [])) % 2 ^ 64 = omega (arith, length-append r.queue (id ∷ [])) in
      let alive = ap is_spent is in
      let mine = r.journaled.each id v at alive in (
        w,
        keeps,
        tt,
        record {
          journal = r.journal;
          serving = r.serving;
          queue = r.queue ++ id ∷ [];
          words = ap (λ (l : List ℕ). slice_set l 1 ((slice_index l 1 + 1) % 2 ^ 64)) r.words ∙ ap (λ (n : ℕ). length r.journal ∷ n ∷ r.serving % 2 ^ 64 ∷ []) next;
          few = subst (λ (n : ℕ). n ≤ most) (sym (length-set s.views id w)) r.few;
          short = r.short;
          queued = queue_draw r.serving r.queue s.views id v w r.queued at (ap held is) refl;
          journaled = journal_same r.journal s.views id v w r.journaled at alive (λ _. true_same r.journal s.views id v w at alive mine refl mine.seen (λ t. absurd (true≢false (sym t))) refl refl);
          shelf = shelf_set journal_of grown first r.journal s (slice_set s.words 1 ((slice_index s.words 1 + 1) % 2 ^ 64)) id v w at (ap has_turn is) refl r.shelf;
        },
        (ticket, ap (λ (l : List ℕ). slice_index l 1) r.words, refl),
      )

  -- the object at home is taken by the first of the queue
  takes_home : (slots id : ℕ) (me : M) → me.1 ≡ [] → (ticket : ℕ) → me.0.stage ≡ Waits ticket → (s : St) (r : Rule s) → get_elem? s.views id ≡ some me.0
      → slice_index s.words 2 ≡ ticket % 2 ^ 64 → get_elem? r.queue 0 ≡ some id → (h : AtHome journal_of grown first r.journal s)
      → (w : View) × Rule (record { words = slice_set s.words 2 (slice_index s.words 2); homes = slice_set s.homes 0 none; views = set s.views id w })
      × Looked journal_of grown first (step slots 2 0 0 none) me (slice_index s.words 2) (w, (0, Some h.object) ∷ me.1)
  takes_home slots id me empty ticket is s r at hit served h =
      let v : View = me.0 in
      let w : View = with_turn (journal_of h.object) v in
      let alive = ap is_spent is in
      let mine = r.journaled.each id v at alive in (
        w,
        record {
          journal = r.journal;
          serving = r.serving;
          queue = r.queue;
          words = ap (λ (l : List ℕ). slice_set l 2 (slice_index l 2)) r.words;
          few = subst (λ (n : ℕ). n ≤ most) (sym (length-set s.views id w)) r.few;
          short = r.short;
          queued = queue_set r.serving r.queue s.views id v w r.queued at (sym (ap held is)) served;
          journaled = journal_same r.journal s.views id v w r.journaled at alive
              (λ _. true_same r.journal s.views id v w at alive mine refl (subst (Agrees r.journal id) (sym h.keeps) (agrees_same id r.journal)) (λ _. h.keeps) refl refl);
          shelf = inr (record { home = ap (λ l. slice_set l 0 none) h.home; seat = id; view = w; there = set_here s.views id w (at_short s.views id v at); turn = refl });
        },
        λ other is'. let same : ticket ≡ other = ap ticket_in (sym is ∙ is') in (
          (λ _. (
            h.object,
            ap (λ l. (w, (0, Some h.object) ∷ l)) empty,
            h.grows,
            subst (λ (z : ℕ × List Entry). Agrees z.1 z.0 v.seen) (λ i. (sym mine.caller i, sym h.keeps i)) mine.seen,
          )),
          (λ miss. absurd (miss (hit ∙ ap (λ (n : ℕ). n % 2 ^ 64) same))),
        ),
      )

  pub sees : (slots id : ℕ) (me : M) → me.1 ≡ [] → (ticket : ℕ) → me.0.stage ≡ Waits ticket → most < 2 ^ 32
      → Allows Rule slots id me 2 (λ n. n) (Looked journal_of grown first (step slots 2 0 0 none) me)
  sees slots id me empty ticket is few s r wide at small =
      let v : View = me.0 in
      let again : slice_set s.words 2 (slice_index s.words 2) ≡ s.words = ap (λ (l : List ℕ). slice_set l 2 (slice_index l 2)) r.words ∙ sym r.words in
      dite (ℕ_discrete (slice_index s.words 2) (ticket % 2 ^ 64))
      (λ hit.
      let q : FitsQueue r.serving r.queue id (Waits ticket) = subst (FitsQueue r.serving r.queue id) is (r.queued.each id v at) in
      let held_few = all_held_few s.views in
      let counted = r.queued.counted in
      let all_few = r.few in
      let served = ticket_served r.serving r.queue id ticket q.0 (omega arith) q.1 q.2 (sym (ap (λ (l : List ℕ). slice_index l 2) r.words) ∙ hit) in
      ⊎_elim
      (λ (h : AtHome journal_of grown first r.journal s).
      let t = takes_home slots id me empty ticket is s r at hit served h in
      (t.0, takes 0 (Some h.object), ap (λ l. get_elem? l 0) h.home, t.1, t.2))
      (λ (o : IsOut s).
      let same = only_one s r id served o.seat o.view o.there o.turn in
      let view_is : o.view ≡ v = some-injective o.view v (sym o.there ∙ (ap (λ (n : ℕ). get_elem? s.views n) same ∙ at)) in
      absurd (no_both (has_turn v.stage) (subst (λ (u : View). has_turn u.stage ≡ true) view_is o.turn) (ap has_turn is)))
      r.shelf)
      (λ miss. (
        v,
        keeps,
        tt,
        still s r (slice_set s.words 2 (slice_index s.words 2)) again id v at,
        λ other is'. let same : other ≡ ticket = ap ticket_in (sym is' ∙ is) in ((λ hit. absurd (miss (hit ∙ ap (λ (n : ℕ). n % 2 ^ 64) same))), (λ _. refl)),
      ))

  pub counts : (slots id : ℕ) (me : M) (object : O) → me.1 ≡ (0, Some object) ∷ [] → me.0.stage ≡ Turn → AddsEntry me.0.seen me.0.caller (journal_of object)
      → length (journal_of object) < 2 ^ 63 → Allows Rule slots id me 0 (λ n. (n + 1) % 2 ^ 64) (Counted journal_of (step slots 0 1 0 none) me)
  counts slots id me object holds is adds short s r wide at small =
      let v : View = me.0 in
      let after : List Entry = journal_of object in
      let w : View = with_turn after v in
      let alive = ap is_spent is in
      let turn = ap has_turn is in
      let mine = r.journaled.each id v at alive in
      let whole : v.seen ≡ r.journal = mine.whole turn in
      let entry : Entry = adds.0 in
      let by_id : entry.caller ≡ id = adds.2 ∙ mine.caller in
      let longer : after ≡ r.journal ++ entry ∷ [] = adds.1 ∙ ap (λ (l : List Entry). l ++ entry ∷ []) whole in
      let same : (k : ℕ) → k ≢ id → entries_of k after ≡ entries_of k r.journal =
      λ k other. ap (entries_of k) longer ∙ (entries_of-append k r.journal (entry ∷ [])
      ∙ (ap (λ (l : List Entry). entries_of k r.journal ++ l) (entries_of-other k entry (λ e. other (sym e ∙ by_id))) ∙ append-nil (entries_of k r.journal))) in
      let served = first_in s r id v at turn in
      let grows : length after ≡ length r.journal + 1 = ap length longer ∙ length-append r.journal (entry ∷ []) in
      let next : (length r.journal + 1) % 2 ^ 64 ≡ length after = omega arith in (
        w,
        keeps,
        tt,
        record {
          journal = after;
          serving = r.serving;
          queue = r.queue;
          words = ap (λ (l : List ℕ). slice_set l 0 ((slice_index l 0 + 1) % 2 ^ 64)) r.words ∙ ap (λ (n : ℕ). n ∷ (r.serving + length r.queue) % 2 ^ 64 ∷ r.serving % 2 ^ 64 ∷ []) next;
          few = subst (λ (n : ℕ). n ≤ most) (sym (length-set s.views id w)) r.few;
          short = short;
          queued = queue_set r.serving r.queue s.views id v w r.queued at (sym (ap held is)) served;
          journaled = journal_set r.journal after s.views id v w r.journaled at alive (entry ∷ [], longer) same
              (λ seat u other e has. absurd (other (only_one s r id served seat u e has)))
              (λ _. record {
                caller = mine.caller;
                seen = agrees_same id after;
                whole = λ _. refl;
                made = λ zero_seat. mine.made zero_seat ∙ sym (length-set s.views id w);
                joined = joined_on r.journal after s.views id v w at alive (entry ∷ [], longer) same v.joined mine.joined;
              });
          shelf = inr (record { home = out_in s r id v at turn; seat = id; view = w; there = set_here s.views id w (at_short s.views id v at); turn = refl });
        },
        (
          ap (λ (l : List ℕ). slice_index l 0) r.words ∙ ap length (sym whole),
          λ other e. ap (λ (o : O). (with_turn (journal_of o) v, me.1)) (ap (object_in object) (sym holds ∙ e)),
        ),
      )

  pub measures : (slots id : ℕ) (me : M) → me.0.stage ≡ Turn → Allows Rule slots id me 0 (λ n. n) (Measured (step slots 0 0 0 none) me)
  measures slots id me is s r wide at small =
      let v : View = me.0 in
      let again : slice_set s.words 0 (slice_index s.words 0) ≡ s.words = ap (λ (l : List ℕ). slice_set l 0 (slice_index l 0)) r.words ∙ sym r.words in
      let mine = r.journaled.each id v at (ap is_spent is) in (
        v,
        keeps,
        tt,
        still s r (slice_set s.words 0 (slice_index s.words 0)) again id v at,
        (ap (λ (l : List ℕ). slice_index l 0) r.words ∙ ap length (sym (mine.whole (ap has_turn is))), refl),
      )

  pub passes : (slots id : ℕ) (me : M) (object : O) → me.1 ≡ (0, Some object) ∷ [] → me.0.stage ≡ Turn → journal_of object ≡ me.0.seen → grown first object
      → Allows Rule slots id me 2 (λ n. (n + 1) % 2 ^ 64) (Passed (step slots 2 1 0 none) me)
  passes slots id me object holds is keeps_it grows s r wide at small =
      let v : View = me.0 in
      let w : View = at_stage Idle v in
      let alive = ap is_spent is in
      let turn = ap has_turn is in
      let mine = r.journaled.each id v at alive in
      let served = first_in s r id v at turn in
      let q = queue_pass r.serving r.queue s.views id v w r.queued at (ap held is) refl served in
      let len = q.1 in
      let drawn : (r.serving + length r.queue) % 2 ^ 64 ≡ (r.serving + 1 + length (drop 1 r.queue)) % 2 ^ 64 = ap (λ (n : ℕ). n % 2 ^ 64) (omega arith) in
      let next : (r.serving % 2 ^ 64 + 1) % 2 ^ 64 ≡ (r.serving + 1) % 2 ^ 64 = omega arith in (
        w,
        gives,
        tt,
        record {
          journal = r.journal;
          serving = r.serving + 1;
          queue = drop 1 r.queue;
          words = ap (λ (l : List ℕ). slice_set l 2 ((slice_index l 2 + 1) % 2 ^ 64)) r.words ∙ (λ i. length r.journal ∷ drawn i ∷ next i ∷ []);
          few = subst (λ (n : ℕ). n ≤ most) (sym (length-set s.views id w)) r.few;
          short = r.short;
          queued = q.0;
          journaled = journal_same r.journal s.views id v w r.journaled at alive (λ _. true_same r.journal s.views id v w at alive mine refl mine.seen (λ t. absurd (true≢false (sym t))) refl refl);
          shelf = inl (record {
            object = object;
            home = ap (put_back s.homes) holds ∙ ap (λ l. slice_set l 0 (some (Some object))) (out_in s r id v at turn);
            keeps = keeps_it ∙ mine.whole turn;
            grows = grows;
            none_has = none_set s.views id w refl (λ seat u other e. false_if (has_turn u.stage) (λ has. other (only_one s r id served seat u e has)));
          });
        },
        refl,
      )

  pub numbers : (slots id : ℕ) (me : M) → me.0.stage ≡ Idle → me.0.caller ≡ 0 → Allows Rule slots id me 0 (λ n. n) (FindsUnborn (step slots 0 0 0 none) me)
  numbers slots id me is front s r wide at small =
      let v : View = me.0 in
      let again : slice_set s.words 0 (slice_index s.words 0) ≡ s.words = ap (λ (l : List ℕ). slice_set l 0 (slice_index l 0)) r.words ∙ sym r.words in
      let mine = r.journaled.each id v at (ap is_spent is) in
      let made = mine.made (sym mine.caller ∙ front) in (
        v,
        keeps,
        tt,
        still s r (slice_set s.words 0 (slice_index s.words 0)) again id v at,
        (begins_none v.made v.seen r.journal mine.seen.0 (r.journaled.unborn v.made (omega arith)), refl),
      )
