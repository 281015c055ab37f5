-- A run on threads: what the front enters, who is hired, and who came back.
use Rattle.std.proofs.Common.{◌≡◌, ℕ, ◌+◌, Bool, true, false, List, [], ◌∷◌, ◌++◌, length, Option, refl, ap, sym, ◌∙◌, subst, arith}
use Rattle.std.specs.Prelude.{◌==◌, ◌&&◌}
use Rattle.std.specs.Bool.{MatchBool}
use Rattle.std.specs.List.{AllByRecursion}
use Rattle.std.proofs.lemmas.List.{append-nil}
use Rattle.std.proofs.lemmas.List.Elements.{filter-append}
use Rattle.atomic_table.specs.Seated.{TableId}
use Rattle.xi_plain.specs.declared.entry.Entry.{Entry}
use Rattle.xi_plain.specs.declared.ask.Ask.{Ask}
use Rattle.xi_plain.specs.declared.ask.Query.{Query}
use Rattle.xi_plain.specs.declared.reply.Reply.{Reply}
use Rattle.xi_plain.specs.declared.reply.Reply.TheVariants as reply
use Rattle.xi_plain.specs.declared.reply.Receipt.{Receipt}
use Rattle.xi_plain.specs.declared.reply.Answer.{Answer}
use Rattle.xi_plain.specs.Reply.{has_entry}
use Rattle.xi_plain.specs.Room.{Begins}
use Rattle.plugin_session.specs.Seat.{Begins-same}
use Rattle.xi_plain.specs.Journal.{entries_of, front_entries}
use Rattle.room_lock.specs.Room.{Known, IsSamePass, IsKnownOf, AreAll, AreAllFrom, GainsEntry, GainsNone, Tells, before_call, next_pass, own}
use Rattle.plugin_session.specs.Turn.{Turned}
use Rattle.plugin_session.specs.Visit.{IsServed}
use Rattle.plugin_session.specs.Alone.{IsReady}
use Rattle.plugin_session.specs.Hired.{Hiring}
use Rattle.plugin_session.specs.Worker.{MayWork}
use Rattle.plugin_session.proofs.ForCallers.{others_of, served_at_close}
use Rattle.plugin_crew.specs.declared.took.Took.{Took}
use Rattle.plugin_crew.specs.declared.post.Gathered.{Gathered}
use Rattle.plugin_crew.specs.Standing.{is_served}
use Rattle.plugin_crew.specs.Taker.{HasTaken, IsEnteredBy, SaysSent, TellsFaults, took_of}
use Rattle.plugin_crew.specs.Post.{HasServed}
use Rattle.plugin_crew.specs.Threads.{IsGiven, AreGiven, IsStaffed, HaveServed, AreBack, WereServed, HasEnded, all_in, passes_in}

-- the own entries of the front's pass are those of the front end
own_front : (pass : Known) → pass.caller ≡ 0 → own pass ≡ front_entries pass.seen
own_front pass is = ap (λ who. entries_of who pass.seen) is

-- the entry that a pass gained
front_gains : (receipt : Receipt) (before after : Known) → before.caller ≡ 0 → after.caller ≡ 0 → GainsEntry receipt before after
    → (entry : Entry) × (after.seen ≡ before_call receipt after.seen ++ entry ∷ []) × (front_entries after.seen ≡ front_entries before.seen ++ entry ∷ [])
front_gains receipt before after is then (entry, by, last, placed, gained) = (
  entry,
  last,
  sym (own_front after then) ∙ gained ∙ ap (λ x. x ++ entry ∷ []) (own_front before is),
)

front_stays : (receipt : Receipt) (before after : Known) → before.caller ≡ 0 → after.caller ≡ 0 → GainsNone receipt before after
    → front_entries after.seen ≡ front_entries before.seen
front_stays receipt before after is then (placed, kept) = sym (own_front after then) ∙ kept ∙ own_front before is

-- what came of it, by what the reply says of the entry
taken_as : (entered : Bool) (given : Reply) (receipt : Receipt) (before after : Known) → entered ≡ has_entry given → before.caller ≡ 0 → after.caller ≡ 0
    → MatchBool entered (GainsEntry receipt before after) (GainsNone receipt before after) → SaysSent given (before_call receipt after.seen) after.seen
    → HasTaken (front_entries before.seen) (took_of given) (front_entries after.seen)
taken_as true (reply.Taken text) receipt before after says is then gains sent =
    let (entry, last, front) = front_gains receipt before after is then gains in (entry, front, sent entry last)
taken_as true reply.SinkFault receipt before after says is then gains sent =
    let (entry, last, front) = front_gains receipt before after is then gains in (entry, front, sent entry last)
taken_as true (reply.Refused text) receipt before after says is then gains sent = absurd cc
taken_as true reply.Closed receipt before after says is then gains sent = absurd cc
taken_as true reply.NoMemory receipt before after says is then gains sent = absurd cc
taken_as false (reply.Taken text) receipt before after says is then gains sent = absurd cc
taken_as false reply.SinkFault receipt before after says is then gains sent = absurd cc
taken_as false (reply.Refused text) receipt before after says is then gains sent = front_stays receipt before after is then gains
taken_as false reply.Closed receipt before after says is then gains sent = front_stays receipt before after is then gains
taken_as false reply.NoMemory receipt before after says is then gains sent = front_stays receipt before after is then gains

module _ (serves : List Entry → ℕ → Ask → Reply → List Entry → Type 0) where
  -- what came of an ask of the front, by its receipt
  pub front_taken : (ask : Ask) (given : Reply) (receipt : Receipt) (before after : Known) → TellsFaults serves → before.caller ≡ 0
      → IsSamePass before after → receipt.entered ≡ has_entry given → Tells receipt before after
      → serves (before_call receipt after.seen) 0 ask given after.seen → HasTaken (front_entries before.seen) (took_of given) (front_entries after.seen)
  front_taken ask given receipt before after faults is same says tells served =
      taken_as receipt.entered given receipt before after says is (same.caller ∙ is) tells (faults (before_call receipt after.seen) 0 ask given after.seen served)

  -- and how it was served
  pub front_entered : (ask : Ask) (given : Reply) (receipt : Receipt) (before after : Known) (took : Took) → before.caller ≡ 0
      → IsSamePass before after → Begins before.seen after.seen → Tells receipt before after → took ≡ took_of given
      → serves (before_call receipt after.seen) 0 ask given after.seen
      → IsEnteredBy serves ask before.seen took after.seen
  front_entered ask given receipt before after took is same begins tells took_is served =
      let (others, none, there) = others_of receipt before after same.caller begins tells in
      let left : front_entries others ≡ [] = ap (λ who. entries_of who others) (sym is) ∙ none in (
        before_call receipt after.seen,
        after.seen,
        given,
        served,
        (others, there),
        Begins-same after.seen,
        ap front_entries there ∙ filter-append (λ entry. entry.caller == 0) before.seen others
            ∙ ap (λ x. front_entries before.seen ++ x) left ∙ append-nil (front_entries before.seen),
        refl,
        took_is,
      )

-- the next pass is one of a plugin that may work, and what was hired by it was given it
pub may_next : {O : Type 0} (fits : O → ℕ → Ask → Type 0) (legal : O → List Entry → Type 0) (room : TableId) (first : O) (front pass : Known) → front.room ≡ room
    → pass ≡ next_pass front → own pass ≡ [] → IsReady fits front.made first → legal first front.seen → MayWork fits legal room first pass
may_next fits legal room first front pass here is fresh ready lawful =
    record {
      here = ap (λ (p : Known). p.room) is ∙ here;
      usable =
          record {
            ready = subst (λ (p : Known). IsReady fits p.caller first) (sym is) ready;
            lawful = subst (λ (p : Known). legal first p.seen) (sym is) lawful;
          };
      fresh = fresh;
    }

pub given_next : {O P : Type 0} (room : TableId) (first : O) (front pass : Known) (hired post : Hiring O P) → front.room ≡ room
    → pass ≡ next_pass front → hired.first ≡ first → hired.pass ≡ pass → post ≡ hired → IsGiven room first front.made post
given_next room first front pass hired post here is object pass_is same =
    let known = ap (λ h. h.pass) same ∙ pass_is ∙ is in
    record {
      object = ap (λ h. h.first) same ∙ object;
      here = ap (λ (p : Known). p.room) known ∙ here;
      number = ap (λ (p : Known). p.caller) known;
    }

-- the front goes on by its pass
pub staffed_on : {O P : Type 0} (room : TableId) (first : O) (pass next : Known) (givens nexts : List (Hiring O P))
    → IsSamePass pass next → nexts ≡ givens → IsStaffed room first pass givens → IsStaffed room first next nexts
staffed_on room first pass next givens nexts same is staffed =
    subst (IsStaffed room first next) (sym is)
    (record { here = same.room ∙ staffed.here; caller = same.caller ∙ staffed.caller; made = same.made ∙ staffed.made; given = staffed.given })

-- whether memory was wanting for none, with one more
and_true : (b : Bool) → (true && b) ≡ (b && true)
and_true true = refl
and_true false = refl

and_assoc : (a b c : Bool) → (a && (b && c)) ≡ ((a && b) && c)
and_assoc true b c = refl
and_assoc false b c = refl

pub all_snoc : {P : Type 0} (cames : List (Gathered P)) (came : Gathered P) → all_in (cames ++ came ∷ []) ≡ (all_in cames && is_served came.standing)
all_snoc [] came = sym (and_true (is_served came.standing))
all_snoc (one ∷ cames) came =
    ap (λ b. is_served one.standing && b) (all_snoc cames came) ∙ and_assoc (is_served one.standing) (all_in cames) (is_served came.standing)

-- one more is hired
pub given_snoc : {O P : Type 0} (room : TableId) (first : O) (caller count : ℕ) (givens : List (Hiring O P)) (given : Hiring O P)
    → length givens ≡ count → AreGiven room first caller givens → IsGiven room first (caller + count) given → AreGiven room first caller (givens ++ given ∷ [])
given_snoc room first caller count [] given long are is = (subst (λ c. IsGiven room first c given) (omega (arith, long)) is, tt)
given_snoc room first caller count (other ∷ givens) given long (head, are) is = (
  head,
  given_snoc room first (caller + 1) (length givens) givens given refl are (subst (λ c. IsGiven room first c given) (omega (arith, long)) is),
)

module _ {O P : Type 0} (serves : O → List Entry → ℕ → Ask → Reply → List Entry → Type 0)
    (answers : O → List Entry → ℕ → Query → Answer → Type 0) (told : P → Option (List Turned)) where
  -- one more came back
  pub served_snoc : (givens : List (Hiring O P)) (cames : List (Gathered P)) (given : Hiring O P) (came : Gathered P) → HaveServed serves answers told givens cames
      → HasServed serves answers told given came
      → HaveServed serves answers told (givens ++ given ∷ []) (cames ++ came ∷ [])
  served_snoc [] [] given came have is = (is, tt)
  served_snoc [] (other ∷ cames) given came have is = absurd have
  served_snoc (one ∷ givens) [] given came have is = absurd have
  served_snoc (one ∷ givens) (other ∷ cames) given came (head, have) is = (head, served_snoc givens cames given came have is)

  -- as many passes came back as were given, of the same callers
  back_length : (givens : List (Hiring O P)) (cames : List (Gathered P)) → HaveServed serves answers told givens cames
      → length (passes_in cames) ≡ length givens
  back_length [] [] have = refl
  back_length [] (came ∷ cames) have = absurd have
  back_length (given ∷ givens) [] have = absurd have
  back_length (given ∷ givens) (came ∷ cames) (head, have) = let rest = back_length givens cames have in omega (arith, rest)

  back_from : (room : TableId) (first : O) (caller : ℕ) (givens : List (Hiring O P)) (cames : List (Gathered P))
      → AreGiven room first caller givens → HaveServed serves answers told givens cames → AreAllFrom caller room (passes_in cames)
  back_from room first caller [] [] are have = tt
  back_from room first caller [] (came ∷ cames) are have = absurd have
  back_from room first caller (given ∷ givens) [] are have = absurd have
  back_from room first caller (given ∷ givens) (came ∷ cames) (is, are) (head, have) = (
    head.same.room ∙ is.here,
    head.same.caller ∙ is.number,
    back_from room first (caller + 1) givens cames are have,
  )

  -- all passes of the room are there
  pub back_all : (room : TableId) (first : O) (entries : List Entry) (givens : List (Hiring O P)) (passes : List Known) (plugins : List P) (all : Bool)
      → AreBack serves answers told room first entries givens passes plugins all → AreAll room passes
  back_all room first entries givens passes plugins all back =
      let staffed = back.staffed in
      let count = back_length givens back.cames back.served in
      subst (AreAll room) (sym back.passes_are) (
        (staffed.here, staffed.caller, back_from room first 1 givens back.cames staffed.given back.served),
        omega (arith, staffed.made, count),
      )

  -- each is served by the journal of the closed room
  served_back : (room : TableId) (first : O) (caller : ℕ) (journal : List Entry) (givens : List (Hiring O P)) (cames : List (Gathered P))
      → AreGiven room first caller givens → HaveServed serves answers told givens cames
      → AllByRecursion (IsKnownOf journal) (passes_in cames) → WereServed told (serves first) (answers first) caller journal givens cames
  served_back room first caller journal [] [] are have known = tt
  served_back room first caller journal [] (came ∷ cames) are have known = absurd have
  served_back room first caller journal (given ∷ givens) [] are have known = absurd have
  served_back room first caller journal (given ∷ givens) (came ∷ cames) (is, are) (head, have) (knows, known) =
      let by_first = subst (λ o. IsServed (serves o) (answers o) given.pass.caller came.pass.seen head.visits) is.object head.served in
      let by_pass = subst (λ who. IsServed (serves first) (answers first) who came.pass.seen head.visits) (sym head.same.caller) by_first in
      let closed = served_at_close (serves first) (answers first) journal came.pass head.visits knows by_pass in (
        record {
          visits = head.visits;
          served = subst (λ who. IsServed (serves first) (answers first) who journal head.visits) (head.same.caller ∙ is.number) closed;
          tells = head.tells;
          stands = head.stands;
          ends = head.ends;
        },
        served_back room first (caller + 1) journal givens cames are have known,
      )

  module _ (journal : O → List Entry) (grown : O → O → Type 0) where
    -- the run ended
    pub run_ended : (room : TableId) (first object : O) (entries : List Entry) (givens : List (Hiring O P)) (passes : List Known) (plugins : List P) (all : Bool)
        → grown first object → AllByRecursion (IsKnownOf (journal object)) passes
        → AreBack serves answers told room first entries givens passes plugins all
        → HasEnded journal serves answers grown told first object entries givens plugins all
    run_ended room first object entries givens passes plugins all grows known back =
        let staffed = back.staffed in
        let (front, others) = subst (AllByRecursion (IsKnownOf (journal object))) back.passes_are known in
        record {
          object_grown = grows;
          begins = subst (λ log. Begins log (journal object)) back.saw (front.0, front.1);
          front =
              ap (λ who. entries_of who (journal object)) (sym staffed.caller) ∙ front.2 ∙ own_front back.front staffed.caller ∙ ap front_entries back.saw;
          cames = back.cames;
          served = served_back room first 1 (journal object) givens back.cames staffed.given back.served others;
          plugins_are = back.plugins_are;
          all_is = back.all_is;
        }
