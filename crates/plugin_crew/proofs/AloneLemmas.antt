-- A run in turns, from visit to visit and from line to line.
use Rattle.std.proofs.Common.{◌≡◌, ◌≤◌, ℕ, ◌+◌, ◌-◌, Bool, true, false, List, [], ◌∷◌, ◌++◌, length, take, drop, get_or, Option, refl, ap, sym, ◌∙◌, subst, arith}
use Rattle.std.specs.Prelude.{◌==◌, if◌then◌else◌, replicate}
use Rattle.std.specs.Bool.{MatchBool}
use Rattle.std.proofs.lemmas.Bool.Decides.{nat_tests}
use Rattle.std.proofs.lemmas.List.{append-nil, length-drop, take_all, take_more, drop_all, get_or-drop}
use Rattle.std.proofs.lemmas.List.Elements.{filter-append}
use Rattle.xi_plain.specs.declared.entry.Entry.{Entry}
use Rattle.xi_plain.specs.declared.ask.Ask.{Ask}
use Rattle.xi_plain.specs.declared.ask.Ask.TheVariants.{FrontLine, CloseDown}
use Rattle.xi_plain.specs.declared.ask.Query.{Query}
use Rattle.xi_plain.specs.declared.reply.Reply.{Reply}
use Rattle.xi_plain.specs.declared.reply.Answer.{Answer}
use Rattle.xi_plain.specs.declared.reply.Reply.TheVariants as reply
use Rattle.xi_plain.specs.Reply.{has_entry}
use Rattle.xi_plain.specs.Room.{AddsEntryIf, Begins}
use Rattle.plugin_session.specs.Seat.{Begins-same}
use Rattle.xi_plain.specs.Journal.{front_entries}
use Rattle.plugin_session.specs.Alone.{OnlyAdds}
use Rattle.plugin_session.specs.Call.{Went}
use Rattle.plugin_session.specs.Turn.{Turned, TellsMore}
use Rattle.plugin_session.specs.Visit.{Visit, IsVisit, after_visit}
use Rattle.plugin_session.proofs.ForCallers.{Went-on}
use Rattle.plugin_crew.specs.declared.standing.Standing.TheVariants.{Going}
use Rattle.plugin_crew.specs.declared.member.Member.{Member}
use Rattle.plugin_crew.specs.declared.took.Took.{Took}
use Rattle.plugin_crew.specs.declared.took.Took.TheVariants.{Taken, Fault, Closed, NoMemory}
use Rattle.plugin_crew.specs.Taker.{SaysSent, HasTaken, IsEnteredBy, IsTakenBy, took_of, is_sent, adds_entry}
use Rattle.plugin_crew.specs.Standing.{standing_after, is_going, is_open}
use Rattle.plugin_crew.specs.Session.{IsSession}
use Rattle.plugin_crew.specs.Round.{IsRound}
use Rattle.plugin_crew.specs.Order.{IsEntered, AreEntered, IsOrdered}
use Rattle.plugin_crew.specs.Member.{IsMember, AreMembers, AreNew}
use Rattle.plugin_crew.specs.Alone.{MayServe, IsMemberOf, AreMembersOf, HasVisit, HasRound, IsRunning, IsClosed}
use Rattle.plugin_crew.proofs.SessionLemmas.{open_as, session_further}
use Rattle.plugin_crew.proofs.RoundLemmas.{follow_alone, turn_had, turn_none, round_leaves, RoundSoFar, so_far_on}
use Rattle.plugin_crew.proofs.MemberLemmas.{members_new, members_stay, members_snoc, members_front, members_none}

-- one more of those that were taken
take_snoc : {A : Type 0} (at : ℕ) (xs rest : List A) (x : A) → drop at xs ≡ x ∷ rest → take (at + 1) xs ≡ take at xs ++ x ∷ []
take_snoc at xs rest x is =
    let long : length xs - at ≡ length (x ∷ rest) = sym (length-drop at xs) ∙ ap length is in
    let same : at + 0 ≡ at = omega arith in
    let read : get_or xs at x ≡ x = ap (λ n. get_or xs n x) (sym same) ∙ sym (get_or-drop at xs 0 x) ∙ ap (λ l. get_or l 0 x) is in
    take_more xs at x (omega (arith, long)) ∙ ap (λ y. take at xs ++ y ∷ []) read

-- one entry of a caller is an addition of its
pub adds_one : (caller : ℕ) (before after : List Entry) (entry : Entry) → after ≡ before ++ entry ∷ [] → entry.caller ≡ caller
    → OnlyAdds caller before after
adds_one caller before after entry is own = (entry ∷ [], is, (own, tt))

-- and is the last of the front end's, where it is one
pub front_gains : (before after : List Entry) (entry : Entry) → after ≡ before ++ entry ∷ [] → entry.caller ≡ 0
    → front_entries after ≡ front_entries before ++ entry ∷ []
front_gains before after entry is own =
    let by : (entry.caller == 0) ≡ true = grind (arith, nat_tests, own) in
    ap front_entries is ∙ filter-append (λ e. e.caller == 0) before (entry ∷ [])
    ∙ ap (λ b. front_entries before ++ (if b then entry ∷ [] else [])) by

-- what an ask of the front end made of the journal
abbrev pub Came : Took → List Entry → List Entry → Type 0
Came Taken before after = (entry : Entry) × (after ≡ before ++ entry ∷ []) × (entry.caller ≡ 0) × (entry.sent ≡ true)
Came Fault before after = (entry : Entry) × (after ≡ before ++ entry ∷ []) × (entry.caller ≡ 0) × (entry.sent ≡ false)
Came Closed before after = after ≡ before
Came NoMemory before after = after ≡ before

pub came_of : (given : Reply) (before after : List Entry) → AddsEntryIf (has_entry given) before 0 after → SaysSent given before after
    → Came (took_of given) before after
came_of (reply.Taken text) before after (entry, is, own) sent = (entry, is, own, sent entry is)
came_of reply.SinkFault before after (entry, is, own) unsent = (entry, is, own, unsent entry is)
came_of (reply.Refused text) before after same says = same
came_of reply.Closed before after same says = same
came_of reply.NoMemory before after same says = same

pub only_front : (entered : Bool) (before after : List Entry) → AddsEntryIf entered before 0 after → OnlyAdds 0 before after
only_front true before after (entry, is, own) = adds_one 0 before after entry is own
only_front false before after is = ([], is ∙ sym (append-nil before), tt)

-- where it was sent, where it has an entry, and where it has none
pub came_sent : (took : Took) (before after : List Entry) → is_sent took ≡ true → Came took before after → (took ≡ Taken) × Came Taken before after
came_sent Taken before after is came = (refl, came)
came_sent Fault before after is came = absurd cc
came_sent Closed before after is came = absurd cc
came_sent NoMemory before after is came = absurd cc

pub came_entry : (took : Took) (before after : List Entry) → adds_entry took ≡ true → Came took before after
    → (entry : Entry) × (after ≡ before ++ entry ∷ []) × (entry.caller ≡ 0)
came_entry Taken before after is (entry, last, own, sent) = (entry, last, own)
came_entry Fault before after is (entry, last, own, sent) = (entry, last, own)
came_entry Closed before after is came = absurd cc
came_entry NoMemory before after is came = absurd cc

pub came_none : (took : Took) (before after : List Entry) → adds_entry took ≡ false → Came took before after → after ≡ before
came_none Taken before after is came = absurd cc
came_none Fault before after is came = absurd cc
came_none Closed before after is came = came
came_none NoMemory before after is came = came

-- what came of it, by the entries of the front end
taken_came : (took : Took) (before middle : List Entry) (fronts : List Entry) → fronts ≡ front_entries middle → Came took before middle
    → HasTaken (front_entries before) took fronts
taken_came Taken before middle fronts leaves (entry, last, own, sent) = (entry, leaves ∙ front_gains before middle entry last own, sent)
taken_came Fault before middle fronts leaves (entry, last, own, sent) = (entry, leaves ∙ front_gains before middle entry last own, sent)
taken_came Closed before middle fronts leaves same = leaves ∙ ap front_entries same
taken_came NoMemory before middle fronts leaves same = leaves ∙ ap front_entries same

module _ (serves : List Entry → ℕ → Ask → Reply → List Entry → Type 0) (answers : List Entry → ℕ → Query → Answer → Type 0) where
  -- one entry more, after those that were entered
  pub entered_on : (before : List Entry) (olds : List (List Visit)) (entries : List Entry) (entry : Entry) (mids : List (List Visit)) (middle : List Entry)
      (news : List (List Visit)) (after : List Entry) → AreEntered serves answers before olds entries mids middle
      → IsEntered serves answers middle mids entry news after → AreEntered serves answers before olds (entries ++ entry ∷ []) news after
  entered_on before olds [] entry mids middle news after (same, stays) last = (
    after,
    news,
    subst (λ (z : List Entry × List (List Visit)). IsEntered serves answers z.0 z.1 entry news after) (λ i. (stays i, same i)) last,
    (refl, refl),
  )
  entered_on before olds (first ∷ entries) entry mids middle news after (next, nexts, one, rest) last =
      (next, nexts, one, entered_on next nexts entries entry mids middle news after rest last)

  -- an entry that was sent, with its round, and one that was not
  pub entered_sent : (before : List Entry) (olds : List (List Visit)) (entry : Entry) (news : List (List Visit)) (after : List Entry) → entry.sent ≡ true
      → IsRound serves answers 1 (before ++ entry ∷ []) olds news after → IsEntered serves answers before olds entry news after
  entered_sent before olds entry news after sent round =
      subst (λ b. MatchBool b (IsRound serves answers 1 (before ++ entry ∷ []) olds news after) ((news ≡ olds) × (after ≡ before ++ entry ∷ [])))
      (sym sent) round

  pub entered_unsent : (before : List Entry) (olds : List (List Visit)) (entry : Entry) → entry.sent ≡ false
      → IsEntered serves answers before olds entry olds (before ++ entry ∷ [])
  entered_unsent before olds entry unsent =
      subst (λ b. MatchBool b (IsRound serves answers 1 (before ++ entry ∷ []) olds olds (before ++ entry ∷ [])) ((olds ≡ olds) × (before ++ entry ∷ [] ≡ before ++ entry ∷ [])))
      (sym unsent) (refl, refl)

module _ {O P : Type 0} (journal : O → List Entry) (serves : O → List Entry → ℕ → Ask → Reply → List Entry → Type 0)
    (answers : O → List Entry → ℕ → Query → Answer → Type 0) (grown : O → O → Type 0) (told : P → Option (List Turned))
    (onward : (a b c : O) → grown a b → grown b c → grown a c)
    (serve : (a b : O) (log : List Entry) (who : ℕ) (ask : Ask) (reply : Reply) (done : List Entry) → grown a b → serves b log who ask reply done
    → serves a log who ask reply done)
    (answer : (a b : O) (log : List Entry) (who : ℕ) (query : Query) (found : Answer) → grown a b → answers b log who query found
    → answers a log who query found) where
  -- a visit of a session that goes on
  visit_at : (caller : ℕ) (before after : O) (member next : Member P) (visit : Visit) → member.standing ≡ Going → next.caller ≡ member.caller
      → next.began ≡ member.began → IsVisit member.port visit → next.port ≡ after_visit member.port visit → next.port.place ≤ length (journal after)
      → next.standing ≡ standing_after visit.after → TellsMore (told member.plugin) (told next.plugin) visit.turns → grown before after
      → OnlyAdds caller (journal before) (journal after)
      → Went (serves before) (answers before) caller (journal before) (journal after) visit.calls
      → HasVisit journal serves answers grown told caller before member next after
  visit_at caller before after member next visit going same began fits moved place stood tells grows adds went first old (onto, is) =
      let s = is.session in
      let now = Went-on (serves before) (serves first) (answers before) (answers first)
      (λ log who ask reply done. serve first before log who ask reply done onto) (λ log who query found. answer first before log who query found onto)
      caller (journal before) (journal after) visit.calls went in
      let further = session_further (serves first) (answers first) caller (journal before) (journal after) member.port next.port (told member.began.value)
      (told member.plugin) (told next.plugin) member.standing old visit fits moved place now tells s in
      let open_ : is_open old ≡ true = open_as member.standing old s.stands ∙ ap is_going going in (
        visit ∷ old,
        turn_had (serves first) (answers first) caller (journal before) old visit (journal after) open_
            (record {
              fits = subst (λ p. IsVisit p visit) s.moved fits;
              went = now;
              adds = adds;
              direct = follow_alone (serves first) (answers first) caller (journal before) (journal after) visit.calls now adds;
            }),
        (
          onward first before after onto grows,
          record {
            number = same ∙ is.number;
            session = subst (λ x. IsSession (serves first) (answers first) caller (journal after) next.port (told next.began.value) (told next.plugin) x (visit ∷ old))
                (sym stood)
                (subst (λ x. IsSession (serves first) (answers first) caller (journal after) next.port (told x.value) (told next.plugin) (standing_after visit.after) (visit ∷ old))
                (sym began) further);
          },
        ),
      )

  -- the same, at a door of this caller and this object
  pub visit_had : (caller who : ℕ) (before start after : O) (member next : Member P) (visit : Visit) → who ≡ caller → start ≡ before
      → member.standing ≡ Going → next.caller ≡ member.caller → next.began ≡ member.began → IsVisit member.port visit
      → next.port ≡ after_visit member.port visit → next.port.place ≤ length (journal after) → next.standing ≡ standing_after visit.after
      → TellsMore (told member.plugin) (told next.plugin) visit.turns → grown start after → OnlyAdds who (journal start) (journal after)
      → Went (serves start) (answers start) who (journal start) (journal after) visit.calls
      → HasVisit journal serves answers grown told caller before member next after
  visit_had caller who before start after member next visit own here going same began fits moved place stood tells grows adds went =
      subst (λ c. HasVisit journal serves answers grown told c before member next after) own
      (subst (λ o. HasVisit journal serves answers grown told who o member next after) here
      (visit_at who start after member next visit going same began fits moved place stood tells grows adds went))

  -- and of one that is over: none
  pub visit_none : (caller : ℕ) (object : O) (member : Member P) → is_going member.standing ≡ false
      → HasVisit journal serves answers grown told caller object member member object
  visit_none caller object member over first old (onto, is) =
      (old, turn_none (serves first) (answers first) caller (journal object) old (open_as member.standing old is.session.stands ∙ over), (onto, is))

  -- A ROUND SO FAR: those before this place had their turns, and those from it on go on as they were
  pub record HasPart (first : O) (olds : List (List Visit)) (at : ℕ) (before now : O) (members : List (Member P)) : Type 0 where
    pub onto : grown first now
    pub done : List (List Visit)
    pub left : List (List Visit)
    pub of_done : AreMembers told (serves first) (answers first) 1 (journal now) (take at members) done
    pub of_left : AreMembers told (serves first) (answers first) (at + 1) (journal now) (drop at members) left
    pub so_far : RoundSoFar (serves first) (answers first) (journal before) olds done (at + 1) (journal now) left

  abbrev pub PartOf : ℕ → O → List (Member P) → O → List (Member P) → Type 0
  PartOf at before members now next =
      (first : O) (olds : List (List Visit)) → AreMembersOf journal serves answers grown told first before members olds → HasPart first olds at before now next

  pub part_start : (object : O) (members : List (Member P)) → PartOf 0 object members object members
  part_start object members first olds (onto, are) =
      record { onto = onto; done = []; left = olds; of_done = tt; of_left = are; so_far = λ news after round. round }

  pub part_on : (at : ℕ) (before now after : O) (members nows nexts : List (Member P)) (member next : Member P) → length (take at nows) ≡ at
      → drop at nows ≡ member ∷ drop (at + 1) nows → drop at nexts ≡ next ∷ drop (at + 1) nows → take at nexts ≡ take at nows
      → drop (at + 1) nexts ≡ drop (at + 1) nows → OnlyAdds member.caller (journal now) (journal after)
      → HasVisit journal serves answers grown told member.caller now member next after → PartOf at before members now nows
      → PartOf (at + 1) before members after nexts
  part_on at before now after members nows nexts member next long old_is new_is kept rest adds had part first olds are =
      let s = serves first in
      let a = answers first in
      let p = part first olds are in
      let front = members_front told s a (at + 1) (journal now) member (drop (at + 1) nows) p.left
      (subst (λ x. AreMembers told s a (at + 1) (journal now) x p.left) old_is p.of_left) in
      let who : member.caller ≡ at + 1 = front.first.number in
      let own_adds = subst (λ c. OnlyAdds c (journal now) (journal after)) who adds in
      let (new, turn, both) = subst (λ c. HasVisit journal serves answers grown told c now member next after) who had first front.own (p.onto, front.first) in
      let one_more : take (at + 1) nexts ≡ take at nows ++ next ∷ [] = take_snoc at nexts (drop (at + 1) nows) next new_is ∙ ap (λ x. x ++ next ∷ []) kept in
      let place : at + 1 ≡ 1 + at = omega arith in
      record {
        onto = both.0;
        done = p.done ++ new ∷ [];
        left = front.rest;
        of_done = subst (λ x. AreMembers told s a 1 (journal after) x (p.done ++ new ∷ [])) (sym one_more)
            (members_snoc told s a 1 at (journal after) (take at nows) next p.done new long
            (members_stay told s a (at + 1) 1 (journal now) (journal after) (take at nows) p.done (λ k from to same. omega (arith, to, long, same)) own_adds p.of_done)
            (subst (λ c. IsMember told s a c (journal after) next new) place both.1));
        of_left = subst (λ x. AreMembers told s a (at + 1 + 1) (journal after) x front.rest) (sym rest)
            (members_stay told s a (at + 1) (at + 1 + 1) (journal now) (journal after) (drop (at + 1) nows) front.rest (λ k from to same. omega (arith, from, same)) own_adds front.others);
        so_far = so_far_on s a (journal before) olds p.done (at + 1) (journal now) (journal after) front.own new front.rest turn
            (subst (λ x. RoundSoFar s a (journal before) olds p.done (at + 1) (journal now) x) front.all p.so_far);
      }

  pub part_end : (at : ℕ) (before now : O) (members nexts : List (Member P)) → length nexts ≤ at → PartOf at before members now nexts
      → HasRound journal serves answers grown told before members nexts now
  part_end at before now members nexts all part first olds are =
      let s = serves first in
      let a = answers first in
      let p = part first olds are in
      let none : p.left ≡ [] = members_none told s a (at + 1) (journal now) p.left
      (subst (λ x. AreMembers told s a (at + 1) (journal now) x p.left) (drop_all at nexts all) p.of_left) in
      let last : IsRound s a (at + 1) (journal now) p.left [] (journal now) = subst (λ x. IsRound s a (at + 1) (journal now) x [] (journal now)) (sym none) refl in (
        p.done,
        subst (λ x. IsRound s a 1 (journal before) olds x (journal now)) (append-nil p.done) (p.so_far [] (journal now) last),
        (p.onto, subst (λ x. AreMembers told s a 1 (journal now) x p.done) (take_all at nexts all) p.of_done),
      )

  -- what may be asked of the next plugin of a round
  pub part_front : (at : ℕ) (before now : O) (members nows : List (Member P)) (member : Member P) (first : O) (olds : List (List Visit))
      → AreMembersOf journal serves answers grown told first before members olds → PartOf at before members now nows
      → drop at nows ≡ member ∷ drop (at + 1) nows
      → (member.caller ≡ at + 1) × ((visits : List Visit) × IsMemberOf journal serves answers grown told member.caller first now member visits)
  part_front at before now members nows member first olds are part is =
      let p = part first olds are in
      let front = members_front told (serves first) (answers first) (at + 1) (journal now) member (drop (at + 1) nows) p.left
      (subst (λ x. AreMembers told (serves first) (answers first) (at + 1) (journal now) x p.left) is p.of_left) in
      let who : member.caller ≡ at + 1 = front.first.number in (
        who,
        (
          front.own,
          subst (λ c. IsMemberOf journal serves answers grown told c first now member front.own) (sym who) (p.onto, front.first),
        ),
      )

  -- a crew before its first turns
  pub crew_new : (object : O) (plugins : List P) (members : List (Member P)) → grown object object → journal object ≡ [] → AreNew 1 plugins members
      → AreMembersOf journal serves answers grown told object object members (replicate (length members) [])
  crew_new object plugins members same empty new = (
    same,
    subst (λ x. AreMembers told (serves object) (answers object) 1 x members (replicate (length members) [])) (sym empty)
        (members_new told (serves object) (answers object) 1 plugins members new),
  )

  -- members past an entry of the front end
  pub members_past : (first before after : O) (members : List (Member P)) (visits : List (List Visit)) → grown before after
      → OnlyAdds 0 (journal before) (journal after) → AreMembersOf journal serves answers grown told first before members visits
      → AreMembersOf journal serves answers grown told first after members visits
  members_past first before after members visits grows adds (onto, are) = (
    onward first before after onto grows,
    members_stay told (serves first) (answers first) 0 1 (journal before) (journal after) members visits (λ k from to same. omega (arith, from, same)) adds are,
  )

  module _ (fits : O → ℕ → Ask → Type 0) where
    -- the run has begun: its first round
    pub begins : (first object : O) (plugins : List P) (members nexts : List (Member P)) → MayServe fits serves (length members) first
        → grown first first → journal first ≡ [] → AreNew 1 plugins members → length nexts ≡ length members
        → HasRound journal serves answers grown told first members nexts object → IsRunning journal serves answers grown told fits first object nexts
    begins first object plugins members nexts may same empty new long round =
        let (news, is, are) = round first (replicate (length members) []) (crew_new first plugins members same empty new) in
        let turns : IsRound (serves first) (answers first) 1 [] (replicate (length members) []) news (journal object) =
        subst (λ x. IsRound (serves first) (answers first) 1 x (replicate (length members) []) news (journal object)) empty is in
        let none : front_entries (journal object) ≡ [] = round_leaves (serves first) (answers first) 0 1 [] (replicate (length members) []) news (journal object) (omega arith) turns in
        record {
          may = subst (λ n. MayServe fits serves n first) (sym long) may;
          visits = news;
          members_are = are;
          order = (
            journal object,
            news,
            subst (λ n. IsRound (serves first) (answers first) 1 [] (replicate n []) news (journal object)) (sym long) turns,
            subst (λ x. AreEntered (serves first) (answers first) (journal object) news x news (journal object)) (sym none) (refl, refl),
          );
        }

    -- by then the front end has no entry
    pub begins_empty : (first object : O) (plugins : List P) (members nexts : List (Member P)) → grown first first → journal first ≡ []
        → AreNew 1 plugins members → HasRound journal serves answers grown told first members nexts object → front_entries (journal object) ≡ []
    begins_empty first object plugins members nexts same empty new round =
        let (news, is, are) = round first (replicate (length members) []) (crew_new first plugins members same empty new) in
        round_leaves (serves first) (answers first) 0 1 [] (replicate (length members) []) news (journal object) (omega arith)
        (subst (λ x. IsRound (serves first) (answers first) 1 x (replicate (length members) []) news (journal object)) empty is)

    -- the run goes on where an entry was made and not sent
    pub goes_unsent : (first before after : O) (members : List (Member P)) (entry : Entry) → grown before after
        → journal after ≡ journal before ++ entry ∷ [] → entry.caller ≡ 0 → entry.sent ≡ false
        → IsRunning journal serves answers grown told fits first before members → IsRunning journal serves answers grown told fits first after members
    goes_unsent first before after members entry grows is own unsent run =
        let s = serves first in
        let a = answers first in
        let (opened, firsts, start, entered) = run.order in
        record {
          may = run.may;
          visits = run.visits;
          members_are = members_past first before after members run.visits grows (adds_one 0 (journal before) (journal after) entry is own) run.members_are;
          order = (
            opened,
            firsts,
            start,
            subst (λ x. AreEntered s a opened firsts x run.visits (journal after)) (sym (front_gains (journal before) (journal after) entry is own))
                (entered_on s a opened firsts (front_entries (journal before)) entry run.visits (journal before) run.visits (journal after) entered
                (subst (IsEntered s a (journal before) run.visits entry run.visits) (sym is) (entered_unsent s a (journal before) run.visits entry unsent))),
          );
        }

    -- and where none was made
    pub goes_same : (first before after : O) (members : List (Member P)) → grown before after → journal after ≡ journal before
        → IsRunning journal serves answers grown told fits first before members → IsRunning journal serves answers grown told fits first after members
    goes_same first before after members grows same run =
        record {
          may = run.may;
          visits = run.visits;
          members_are = (
            onward first before after run.members_are.0 grows,
            subst (λ x. AreMembers told (serves first) (answers first) 1 x members run.visits) (sym same) run.members_are.1,
          );
          order = subst (λ x. IsOrdered (serves first) (answers first) (length members) (front_entries x) run.visits x) (sym same) run.order;
        }

    -- a line that was taken without a round after it
    pub goes_on : (took : Took) (first before after : O) (members : List (Member P)) → is_sent took ≡ false → grown before after
        → Came took (journal before) (journal after) → IsRunning journal serves answers grown told fits first before members
        → IsRunning journal serves answers grown told fits first after members × HasTaken (front_entries (journal before)) took (front_entries (journal after))
    goes_on Taken first before after members is grows came run = absurd cc
    goes_on Fault first before after members is grows (entry, last, own, unsent) run =
        (goes_unsent first before after members entry grows last own unsent run, (entry, front_gains (journal before) (journal after) entry last own, unsent))
    goes_on Closed first before after members is grows same run = (goes_same first before after members grows same run, ap front_entries same)
    goes_on NoMemory first before after members is grows same run = (goes_same first before after members grows same run, ap front_entries same)

    -- and where it was sent, after its round
    pub goes_sent : (first before middle after : O) (members nexts : List (Member P)) (entry : Entry) → grown before middle
        → journal middle ≡ journal before ++ entry ∷ [] → entry.caller ≡ 0 → entry.sent ≡ true → length nexts ≡ length members
        → HasRound journal serves answers grown told middle members nexts after
        → IsRunning journal serves answers grown told fits first before members
        → IsRunning journal serves answers grown told fits first after nexts × (front_entries (journal after) ≡ front_entries (journal before) ++ entry ∷ [])
    goes_sent first before middle after members nexts entry grows is own sent long round run =
        let s = serves first in
        let a = answers first in
        let past = members_past first before middle members run.visits grows (adds_one 0 (journal before) (journal middle) entry is own) run.members_are in
        let (news, turns, are) = round first run.visits past in
        let (opened, firsts, start, entered) = run.order in
        let leaves : front_entries (journal after) ≡ front_entries (journal middle) =
        round_leaves s a 0 1 (journal middle) run.visits news (journal after) (omega arith) turns in
        let gains = leaves ∙ front_gains (journal before) (journal middle) entry is own in (
          record {
            may = subst (λ n. MayServe fits serves n first) (sym long) run.may;
            visits = news;
            members_are = are;
            order = (
              opened,
              firsts,
              subst (λ n. IsRound s a 1 [] (replicate n []) firsts opened) (sym long) start,
              subst (λ x. AreEntered s a opened firsts x news (journal after)) (sym gains)
                  (entered_on s a opened firsts (front_entries (journal before)) entry run.visits (journal before) news (journal after) entered
                  (entered_sent s a (journal before) run.visits entry news (journal after) sent
                  (subst (λ x. IsRound s a 1 x run.visits news (journal after)) is turns))),
            );
          },
          gains,
        )

    -- the run was closed by this entry, and the last round
    pub closes : (first before middle after : O) (members nexts : List (Member P)) (entry : Entry) → grown before middle
        → journal middle ≡ journal before ++ entry ∷ [] → entry.caller ≡ 0 → length nexts ≡ length members
        → HasRound journal serves answers grown told middle members nexts after
        → IsRunning journal serves answers grown told fits first before members
        → IsClosed journal serves answers grown told first after nexts (front_entries (journal before))
    closes first before middle after members nexts entry grows is own long round run =
        let s = serves first in
        let a = answers first in
        let past = members_past first before middle members run.visits grows (adds_one 0 (journal before) (journal middle) entry is own) run.members_are in
        let (news, turns, are) = round first run.visits past in
        let leaves : front_entries (journal after) ≡ front_entries (journal middle) =
        round_leaves s a 0 1 (journal middle) run.visits news (journal after) (omega arith) turns in
        record {
          visits = news;
          members_are = are;
          closing = entry;
          front = leaves ∙ front_gains (journal before) (journal middle) entry is own;
          order = (
            journal before,
            run.visits,
            subst (λ n. IsOrdered s a n (front_entries (journal before)) run.visits (journal before)) (sym long) run.order,
            subst (λ x. IsRound s a 1 x run.visits news (journal after)) is turns,
          );
        }

    -- what an ask of the front end made, as the object that the run began with tells it
    came_by : (first before after : O) (members : List (Member P)) (ask : Ask) (given : Reply) (took : Took) → took ≡ took_of given
        → AddsEntryIf (has_entry given) (journal before) 0 (journal after) → serves before (journal before) 0 ask given (journal after)
        → IsRunning journal serves answers grown told fits first before members → Came took (journal before) (journal after)
    came_by first before after members ask given took is adds served run =
        subst (λ t. Came t (journal before) (journal after)) (sym is)
        (came_of given (journal before) (journal after) adds
        (run.may.faults (journal before) 0 ask given (journal after) (serve first before (journal before) 0 ask given (journal after) run.members_are.0 served)))

    -- a line, with a round after it
    pub line_sent : (first before middle after : O) (members nexts : List (Member P)) (line : List ℕ) (given : Reply) (took : Took) → took ≡ took_of given
        → is_sent took ≡ true → grown before middle → AddsEntryIf (has_entry given) (journal before) 0 (journal middle)
        → serves before (journal before) 0 (FrontLine line) given (journal middle) → length nexts ≡ length members
        → Begins (journal middle) (journal after) → HasRound journal serves answers grown told middle members nexts after
        → IsRunning journal serves answers grown told fits first before members
        → IsRunning journal serves answers grown told fits first after nexts
        × HasTaken (front_entries (journal before)) took (front_entries (journal after))
        × IsTakenBy (serves first) line (journal before) took (journal after)
    line_sent first before middle after members nexts line given took is sent_is grows adds served long further round run =
        let came = came_by first before middle members (FrontLine line) given took is adds served run in
        let (same, made) = came_sent took (journal before) (journal middle) sent_is came in
        let (entry, last, own, sent) = made in
        let (runs, gains) = goes_sent first before middle after members nexts entry grows last own sent long round run in (
          runs,
          subst (λ t. HasTaken (front_entries (journal before)) t (front_entries (journal after))) (sym same) (entry, gains, sent),
          (
            journal before,
            journal middle,
            given,
            serve first before (journal before) 0 (FrontLine line) given (journal middle) run.members_are.0 served,
            Begins-same (journal before),
            further,
            refl,
            front_gains (journal before) (journal middle) entry last own ∙ sym gains,
            is,
          ),
        )

    -- and without
    pub line_unsent : (first before after : O) (members : List (Member P)) (line : List ℕ) (given : Reply) (took : Took) → took ≡ took_of given
        → is_sent took ≡ false → grown before after → AddsEntryIf (has_entry given) (journal before) 0 (journal after)
        → serves before (journal before) 0 (FrontLine line) given (journal after) → IsRunning journal serves answers grown told fits first before members
        → IsRunning journal serves answers grown told fits first after members
        × HasTaken (front_entries (journal before)) took (front_entries (journal after))
        × IsTakenBy (serves first) line (journal before) took (journal after)
    line_unsent first before after members line given took is unsent grows adds served run =
        let came = came_by first before after members (FrontLine line) given took is adds served run in
        let (runs, taken) = goes_on took first before after members unsent grows came run in (
          runs,
          taken,
          (
            journal before,
            journal after,
            given,
            serve first before (journal before) 0 (FrontLine line) given (journal after) run.members_are.0 served,
            Begins-same (journal before),
            Begins-same (journal after),
            refl,
            refl,
            is,
          ),
        )

    -- the closing entry, and what follows it; or none
    pub closing_made : (first before middle after : O) (members nexts : List (Member P)) (given : Reply) (took : Took) → took ≡ took_of given
        → adds_entry took ≡ true → grown before middle → AddsEntryIf (has_entry given) (journal before) 0 (journal middle)
        → serves before (journal before) 0 CloseDown given (journal middle) → length nexts ≡ length members
        → Begins (journal middle) (journal after) → HasRound journal serves answers grown told middle members nexts after
        → IsRunning journal serves answers grown told fits first before members
        → MatchBool (adds_entry took) (IsClosed journal serves answers grown told first after nexts (front_entries (journal before)))
        (IsRunning journal serves answers grown told fits first after nexts)
        × HasTaken (front_entries (journal before)) took (front_entries (journal after))
        × IsEnteredBy (serves first) CloseDown (journal before) took (journal after)
    unfolding closes came_entry
    closing_made first before middle after members nexts given took is made grows adds served long further round run =
        let came = came_by first before middle members CloseDown given took is adds served run in
        let (entry, last, own) = came_entry took (journal before) (journal middle) made came in
        let closed = closes first before middle after members nexts entry grows last own long round run in
        let leaves : front_entries (journal after) ≡ front_entries (journal middle) =
        closed.front ∙ sym (front_gains (journal before) (journal middle) entry last own) in (
          subst (λ b. MatchBool b (IsClosed journal serves answers grown told first after nexts (front_entries (journal before)))
              (IsRunning journal serves answers grown told fits first after nexts)) (sym made) closed,
          taken_came took (journal before) (journal middle) (front_entries (journal after)) leaves came,
          (
            journal before,
            journal middle,
            given,
            serve first before (journal before) 0 CloseDown given (journal middle) run.members_are.0 served,
            Begins-same (journal before),
            further,
            refl,
            sym leaves,
            is,
          ),
        )

    pub closing_none : (first before after : O) (members : List (Member P)) (given : Reply) (took : Took) → took ≡ took_of given
        → adds_entry took ≡ false → grown before after → AddsEntryIf (has_entry given) (journal before) 0 (journal after)
        → serves before (journal before) 0 CloseDown given (journal after) → IsRunning journal serves answers grown told fits first before members
        → MatchBool (adds_entry took) (IsClosed journal serves answers grown told first after members (front_entries (journal before)))
        (IsRunning journal serves answers grown told fits first after members)
        × HasTaken (front_entries (journal before)) took (front_entries (journal after))
        × IsEnteredBy (serves first) CloseDown (journal before) took (journal after)
    closing_none first before after members given took is none grows adds served run =
        let came = came_by first before after members CloseDown given took is adds served run in (
          subst (λ b. MatchBool b (IsClosed journal serves answers grown told first after members (front_entries (journal before)))
              (IsRunning journal serves answers grown told fits first after members)) (sym none)
              (goes_same first before after members grows (came_none took (journal before) (journal after) none came) run),
          taken_came took (journal before) (journal after) (front_entries (journal after)) refl came,
          (
            journal before,
            journal after,
            given,
            serve first before (journal before) 0 CloseDown given (journal after) run.members_are.0 served,
            Begins-same (journal before),
            Begins-same (journal after),
            refl,
            refl,
            is,
          ),
        )
