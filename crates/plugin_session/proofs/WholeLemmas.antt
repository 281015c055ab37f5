-- Turns that ended of themselves, and lacked nothing.
use Rattle.std.proofs.Common.{◌≡◌, ℕ, Bool, true, false, not, List, [], ◌∷◌, ◌++◌, ◌⊎◌, inl, inr, refl, ap, sym, subst}
use Rattle.std.specs.List.{AllByRecursion}
use Rattle.std.specs.Bool.{MatchBool}
use Rattle.xi_plain.specs.declared.reply.Reply.TheVariants as reply
use Rattle.xi_plain.specs.declared.reply.Answer.{Answer}
use Rattle.xi_plain.specs.declared.reply.Answer.TheVariants as answer
use Rattle.xi_plain.specs.declared.ask.Query.TheVariants as query
use Rattle.plugin_session.specs.declared.noted.Noted.TheVariants.{Looked}
use Rattle.plugin_session.specs.declared.after.After.{After}
use Rattle.plugin_session.specs.declared.after.After.TheVariants as after
use Rattle.plugin_session.specs.Turn.{Turned}
use Rattle.plugin_session.specs.Call.{Call}
use Rattle.plugin_session.specs.Visit.{Visit, goes_on, after_end, IsEnd, EndsShort, AreAsked, HasTurn, WasGiven, Finds, IsFirst, IsLater, AreVisits, IsWhole, lacks_memory, says_over, SaysOver, IsDone, port_of, calls_of}

-- memory was wanting for none
abbrev LacksNone : List Call → Type 0
LacksNone calls = AllByRecursion (λ call. lacks_memory call.noted ≡ false) calls

lacks_append : (calls rest : List Call) → LacksNone calls → LacksNone rest → LacksNone (calls ++ rest)
lacks_append [] rest all each = each
lacks_append (call ∷ calls) rest all each = (all.0, lacks_append calls rest all.1 each)

-- the session did not end for want of memory
abbrev is_fair : After → Bool
is_fair after.Turned = true
is_fair after.Idle = true
is_fair after.Over = true
is_fair after.NoMemory = false

short_is_unfair : (calls : List Call) (ended : After) → EndsShort calls ended → is_fair ended ≡ true → ⊥
short_is_unfair calls ended (at, given, is, why) fair = cc (ap is_fair why, fair)

end_lacks_none : (calls : List Call) (ended : After) → IsEnd calls (λ given. ended ≡ after_end given) → is_fair ended ≡ true → LacksNone calls
end_lacks_none calls ended (at, reply.Taken text, is, why) fair = subst LacksNone (sym is) (refl, tt)
end_lacks_none calls ended (at, reply.Refused text, is, why) fair = subst LacksNone (sym is) (refl, tt)
end_lacks_none calls ended (at, reply.SinkFault, is, why) fair = subst LacksNone (sym is) (refl, tt)
end_lacks_none calls ended (at, reply.Closed, is, why) fair = subst LacksNone (sym is) (refl, tt)
end_lacks_none calls ended (at, reply.NoMemory, is, why) fair = absurd (cc (ap is_fair why, fair))

asked_lack_none : (back : List (List ℕ)) (done : Bool) (calls : List Call) (ended : After) → AreAsked back done calls ended
    → is_fair ended ≡ true → LacksNone calls
asked_lack_none [] true calls ended asked fair = end_lacks_none calls ended asked fair
asked_lack_none [] false calls ended (is, why) fair = subst LacksNone (sym is) tt
asked_lack_none (line ∷ back) done [] ended asked fair = absurd asked
asked_lack_none (line ∷ back) done (call ∷ calls) ended (reply.Taken text, noted, rest) fair =
    (ap lacks_memory noted, asked_lack_none back done calls ended rest fair)
asked_lack_none (line ∷ back) done (call ∷ calls) ended (reply.Refused text, noted, rest) fair =
    (ap lacks_memory noted, asked_lack_none back done calls ended rest fair)
asked_lack_none (line ∷ back) done (call ∷ calls) ended (reply.SinkFault, noted, rest) fair =
    (ap lacks_memory noted, asked_lack_none back done calls ended rest fair)
asked_lack_none (line ∷ back) done (call ∷ calls) ended (reply.Closed, noted, rest) fair =
    (ap lacks_memory noted, subst LacksNone (sym rest.0) tt)
asked_lack_none (line ∷ back) done (call ∷ calls) ended (reply.NoMemory, noted, rest) fair = absurd (short_is_unfair calls ended rest fair)

or_later : (call : Call) (calls : List Call) (done : Bool) → (done ≡ true) ⊎ SaysOver calls → (done ≡ true) ⊎ SaysOver (call ∷ calls)
or_later call calls done (inl is) = inl is
or_later call calls done (inr says) = inr (inr says)

-- where the session is over, the plugin was done, or the journal was closed
asked_over : (back : List (List ℕ)) (done : Bool) (calls : List Call) (ended : After) → AreAsked back done calls ended → ended ≡ after.Over
    → (done ≡ true) ⊎ SaysOver calls
asked_over [] true calls ended asked is = inl refl
asked_over [] false calls ended (none, why) is = absurd cc
asked_over (line ∷ back) done [] ended asked is = absurd asked
asked_over (line ∷ back) done (call ∷ calls) ended (reply.Taken text, noted, rest) is = or_later call calls done (asked_over back done calls ended rest is)
asked_over (line ∷ back) done (call ∷ calls) ended (reply.Refused text, noted, rest) is = or_later call calls done (asked_over back done calls ended rest is)
asked_over (line ∷ back) done (call ∷ calls) ended (reply.SinkFault, noted, rest) is = or_later call calls done (asked_over back done calls ended rest is)
asked_over (line ∷ back) done (call ∷ calls) ended (reply.Closed, noted, rest) is = inr (inl (ap says_over noted))
asked_over (line ∷ back) done (call ∷ calls) ended (reply.NoMemory, noted, rest) is = absurd (cc (rest.3, is))

-- a turn, with its asks
turn_lacks_none : (lines : List (List ℕ)) (over : Bool) (calls : List Call) (turns : List Turned) (ended : After) → HasTurn lines over calls turns ended
    → is_fair ended ≡ true → LacksNone calls
turn_lacks_none lines true calls turns ended (back, done, told, (none, why)) fair = subst LacksNone (sym none) tt
turn_lacks_none lines false calls turns ended (back, done, told, asked) fair = asked_lack_none back done calls ended asked fair

given_lacks_none : (lines : List (List ℕ)) (over : Bool) (calls : List Call) (turns : List Turned) (ended : After) → WasGiven lines over calls turns ended
    → is_fair ended ≡ true → LacksNone calls
given_lacks_none [] over calls turns ended (told, none, why) fair = subst LacksNone (sym none) tt
given_lacks_none (line ∷ lines) over calls turns ended (inl turn) fair = turn_lacks_none (line ∷ lines) over calls turns ended turn fair
given_lacks_none (line ∷ lines) over calls turns ended (inr (told, short)) fair = absurd (short_is_unfair calls ended short fair)

-- how it ended: it was told that all is over, or it was done, or the journal was closed
abbrev Ended : Bool → List Turned → List Call → Type 0
Ended over turns calls = (over ≡ true) ⊎ (IsDone turns ⊎ SaysOver calls)

turn_asked : (over done : Bool) (turns : List Turned) (calls : List Call) → (done ≡ true → IsDone turns) → (done ≡ true) ⊎ SaysOver calls
    → Ended over turns calls
turn_asked over done turns calls does (inl is) = inr (inl (does is))
turn_asked over done turns calls does (inr says) = inr (inr says)

not_told : (turns : List Turned) (calls : List Call) → Ended false turns calls → IsDone turns ⊎ SaysOver calls
not_told turns calls (inl is) = absurd cc
not_told turns calls (inr ended) = ended

turn_over : (lines : List (List ℕ)) (over : Bool) (calls : List Call) (turns : List Turned) (ended : After) → HasTurn lines over calls turns ended
    → ended ≡ after.Over → Ended over turns calls
turn_over lines true calls turns ended (back, done, told, (none, why)) is = inl refl
turn_over lines false calls turns ended (back, done, told, asked) is =
    turn_asked false done turns calls (λ d. subst IsDone (sym told) d) (asked_over back done calls ended asked is)

given_over : (lines : List (List ℕ)) (over : Bool) (calls : List Call) (turns : List Turned) (ended : After) → WasGiven lines over calls turns ended
    → ended ≡ after.Over → Ended over turns calls
given_over [] over calls turns ended (told, none, why) is = absurd (cc (why, is))
given_over (line ∷ lines) over calls turns ended (inl turn) is = turn_over (line ∷ lines) over calls turns ended turn is
given_over (line ∷ lines) over calls turns ended (inr (told, short)) is = absurd (cc (short.3, is))

-- a look, and what follows it
find_lacks_none : (place : ℕ) (answers : List (List ℕ)) (found : Answer) (calls : List Call) (turns : List Turned) (ended : After) → Finds answers found calls turns ended
    → is_fair ended ≡ true → (lacks_memory (Looked (query.Notices place) found) ≡ false) × LacksNone calls
find_lacks_none place answers (answer.Notices lines next over) calls turns ended finds fair = (refl, given_lacks_none (answers ++ lines) over calls turns ended finds fair)
find_lacks_none place answers (answer.Nothing len) calls turns ended finds fair = (refl, given_lacks_none answers false calls turns ended finds fair)
find_lacks_none place answers answer.NoMemory calls turns ended (told, short) fair = absurd (short_is_unfair calls ended short fair)

look_over : (over : Bool) (call : Call) (calls : List Call) (turns : List Turned) → (over ≡ true → says_over call.noted ≡ true)
    → Ended over turns calls → IsDone turns ⊎ SaysOver (call ∷ calls)
look_over over call calls turns says (inl is) = inr (inl (says is))
look_over over call calls turns says (inr (inl done)) = inl done
look_over over call calls turns says (inr (inr later)) = inr (inr later)

find_over : (at place : ℕ) (answers : List (List ℕ)) (found : Answer) (calls : List Call) (turns : List Turned) (ended : After) → Finds answers found calls turns ended
    → ended ≡ after.Over → IsDone turns ⊎ SaysOver (record { at = at; noted = Looked (query.Notices place) found } ∷ calls)
find_over at place answers (answer.Notices lines next over) calls turns ended finds is =
    look_over over (record { at = at; noted = Looked (query.Notices place) (answer.Notices lines next over) }) calls turns (λ o. o)
    (given_over (answers ++ lines) over calls turns ended finds is)
find_over at place answers (answer.Nothing len) calls turns ended finds is =
    look_over false (record { at = at; noted = Looked (query.Notices place) (answer.Nothing len) }) calls turns (λ o. absurd cc)
    (given_over answers false calls turns ended finds is)
find_over at place answers answer.NoMemory calls turns ended (told, short) is = absurd (cc (short.3, is))

-- a visit
first_lacks_none : (caller : ℕ) (calls : List Call) (turns : List Turned) (ended : After) → IsFirst caller calls turns ended
    → is_fair ended ≡ true → LacksNone calls
first_lacks_none caller calls turns ended (inl (start, starts, turn)) fair = turn_lacks_none (start ∷ []) false calls turns ended turn fair
first_lacks_none caller calls turns ended (inr (told, short)) fair = absurd (short_is_unfair calls ended short fair)

first_over : (caller : ℕ) (calls : List Call) (turns : List Turned) (ended : After) → IsFirst caller calls turns ended
    → ended ≡ after.Over → IsDone turns ⊎ SaysOver calls
first_over caller calls turns ended (inl (start, starts, turn)) is = not_told turns calls (turn_over (start ∷ []) false calls turns ended turn is)
first_over caller calls turns ended (inr (told, short)) is = absurd (cc (short.3, is))

visit_lacks_none : (begun : Bool) (caller place : ℕ) (answers : List (List ℕ)) (calls : List Call) (turns : List Turned) (ended : After)
    → MatchBool begun (IsLater place answers calls turns ended) (IsFirst caller calls turns ended) → is_fair ended ≡ true → LacksNone calls
visit_lacks_none true caller place answers calls turns ended (at, found, rest, is, finds) fair =
    subst LacksNone (sym is) (find_lacks_none place answers found rest turns ended finds fair)
visit_lacks_none false caller place answers calls turns ended first fair = first_lacks_none caller calls turns ended first fair

visit_over : (begun : Bool) (caller place : ℕ) (answers : List (List ℕ)) (calls : List Call) (turns : List Turned) (ended : After)
    → MatchBool begun (IsLater place answers calls turns ended) (IsFirst caller calls turns ended) → ended ≡ after.Over
    → IsDone turns ⊎ SaysOver calls
visit_over true caller place answers calls turns ended (at, found, rest, is, finds) over =
    subst (λ x. IsDone turns ⊎ SaysOver x) (sym is) (find_over at place answers found rest turns ended finds over)
visit_over false caller place answers calls turns ended first over = first_over caller calls turns ended first over

-- all of a session that goes on
going_is_fair : (ended : After) → not (goes_on ended) ≡ false → is_fair ended ≡ true
going_is_fair after.Turned is = refl
going_is_fair after.Idle is = refl
going_is_fair after.Over is = absurd cc
going_is_fair after.NoMemory is = absurd cc

visits_lack_none : (caller : ℕ) (visits : List Visit) → AreVisits caller visits → (port_of caller visits).ended ≡ false
    → LacksNone (calls_of visits)
visits_lack_none caller [] are open_ = tt
visits_lack_none caller (visit ∷ visits) (is, are) open_ =
    let port = port_of caller visits in
    lacks_append (calls_of visits) visit.calls (visits_lack_none caller visits are is.0)
    (visit_lacks_none port.begun port.caller port.place port.answers visit.calls visit.turns visit.after is.1 (going_is_fair visit.after open_))

-- a session that is over is whole
pub over_is_whole : (caller : ℕ) (visit : Visit) (visits : List Visit) → AreVisits caller (visit ∷ visits) → visit.after ≡ after.Over
    → IsWhole (visit ∷ visits)
over_is_whole caller visit visits (is, are) over =
    let port = port_of caller visits in (
      lacks_append (calls_of visits) visit.calls (visits_lack_none caller visits are is.0)
          (visit_lacks_none port.begun port.caller port.place port.answers visit.calls visit.turns visit.after is.1 (ap is_fair over)),
      over,
      visit_over port.begun port.caller port.place port.answers visit.calls visit.turns visit.after is.1 over,
    )
