-- A visit, put together from its look, its turn and its asks.
use Rattle.std.proofs.Common.{◌≡◌, ◌≢◌, ℕ, Bool, true, false, List, [], ◌∷◌, ◌++◌, inl, inr, refl, ap, sym, ◌∙◌, subst}
use Rattle.xi_plain.specs.declared.ask.Query.{Query}
use Rattle.xi_plain.specs.declared.reply.Answer.{Answer}
use Rattle.plugin_session.specs.declared.noted.Noted.TheVariants.{Looked}
use Rattle.xi_plain.specs.declared.reply.Reply.TheVariants as reply
use Rattle.plugin_session.specs.declared.after.After.{After}
use Rattle.plugin_session.specs.declared.after.After.TheVariants.{Over, Idle}
use Rattle.plugin_session.specs.Turn.{Turned}
use Rattle.plugin_session.specs.Call.{Call, answers_of}
use Rattle.plugin_session.specs.Visit.{AreAsked, EndsShort, HasTurn, WasGiven, answers_after, place_after, place_seen}

-- the ask of an end is no look
pub place_short : (place : ℕ) (calls : List Call) (ended : After) → EndsShort calls ended → place_after place calls ≡ place
place_short place calls ended (at, given, is, why) = ap (place_after place) is

-- nor are the asks of a turn
pub place_asked : (place : ℕ) (back : List (List ℕ)) (done : Bool) (calls : List Call) (ended : After) → AreAsked back done calls ended
    → place_after place calls ≡ place
place_asked place [] true calls ended (at, given, is, why) = ap (place_after place) is
place_asked place [] false calls ended (is, why) = ap (place_after place) is
place_asked place (line ∷ back) done [] ended asked = absurd asked
place_asked place (line ∷ back) done (call ∷ calls) ended (reply.Taken text, noted, rest) =
    ap (λ n. place_after (place_seen place call.at n) calls) noted ∙ place_asked place back done calls ended rest
place_asked place (line ∷ back) done (call ∷ calls) ended (reply.Refused text, noted, rest) =
    ap (λ n. place_after (place_seen place call.at n) calls) noted ∙ place_asked place back done calls ended rest
place_asked place (line ∷ back) done (call ∷ calls) ended (reply.SinkFault, noted, rest) =
    ap (λ n. place_after (place_seen place call.at n) calls) noted ∙ place_asked place back done calls ended rest
place_asked place (line ∷ back) done (call ∷ calls) ended (reply.Closed, noted, rest) =
    ap (λ n. place_after (place_seen place call.at n) calls) noted ∙ ap (place_after place) rest.0
place_asked place (line ∷ back) done (call ∷ calls) ended (reply.NoMemory, noted, rest) =
    ap (λ n. place_after (place_seen place call.at n) calls) noted ∙ place_short place calls ended rest

pub place_turn : (place : ℕ) (lines : List (List ℕ)) (over : Bool) (calls : List Call) (turns : List Turned) (ended : After)
    → HasTurn lines over calls turns ended → place_after place calls ≡ place
place_turn place lines true calls turns ended (back, done, told, (none, why)) = ap (place_after place) none
place_turn place lines false calls turns ended (back, done, told, asked) = place_asked place back done calls ended asked

pub place_given : (place : ℕ) (lines : List (List ℕ)) (over : Bool) (calls : List Call) (turns : List Turned) (ended : After)
    → WasGiven lines over calls turns ended → place_after place calls ≡ place
place_given place [] over calls turns ended (told, none, why) = ap (place_after place) none
place_given place (line ∷ lines) over calls turns ended (inl turn) = place_turn place (line ∷ lines) over calls turns ended turn
place_given place (line ∷ lines) over calls turns ended (inr (told, short)) = place_short place calls ended short

-- a turn that was told that all is over asks for nothing
pub turn_told : (lines back : List (List ℕ)) (done over : Bool) → over ≡ true
    → HasTurn lines over [] (record { given = lines; back = back; done = done } ∷ []) Over
turn_told lines back done over is =
    subst (λ b. HasTurn lines b [] (record { given = lines; back = back; done = done } ∷ []) Over) (sym is) (back, done, refl, (refl, refl))

-- nothing to give, and want of memory
pub given_none : (lines : List (List ℕ)) (over : Bool) → lines ≡ [] → WasGiven lines over [] [] Idle
given_none lines over is = subst (λ x. WasGiven x over [] [] Idle) (sym is) (refl, refl, refl)

pub given_short : (answers found : List (List ℕ)) (over : Bool) (calls : List Call) (ended : After) → answers ≢ []
    → EndsShort calls ended → WasGiven (answers ++ found) over calls [] ended
given_short [] found over calls ended some short = absurd (some refl)
given_short (answer ∷ answers) found over calls ended some short = inr (refl, short)

pub nil_front : (answers found : List (List ℕ)) → answers ++ found ≡ [] → answers ≡ []
nil_front [] found is = refl
nil_front (answer ∷ answers) found is = absurd cc

-- a look is no answer to a line
pub answers_looked : (at : ℕ) (asked : Query) (found : Answer) (answers : List (List ℕ)) (turns : List Turned) (calls : List Call)
    → answers_after answers turns calls ≡ answers_after answers turns (record { at = at; noted = Looked asked found } ∷ calls)
answers_looked at asked found answers [] calls = refl
answers_looked at asked found answers (turn ∷ turns) calls = refl

-- the answers to a turn are kept
pub answers_turn : (answers lines : List (List ℕ)) (over : Bool) (calls : List Call) (turns : List Turned) (ended : After)
    → HasTurn lines over calls turns ended → answers_of calls ≡ answers_after answers turns calls
answers_turn answers lines over calls turns ended (back, done, told, asked) = sym (ap (λ t. answers_after answers t calls) told)
