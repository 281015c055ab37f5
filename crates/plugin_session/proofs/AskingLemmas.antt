-- The lines of a turn, asked one by one.
use Rattle.std.proofs.Common.{◌≡◌, ◌≢◌, ℕ, ◌+◌, ◌≤◌, Bool, List, [], ◌∷◌, ◌++◌, length, refl, ap, sym, ◌∙◌, subst, arith}
use Rattle.std.specs.Prelude.{take}
use Rattle.std.proofs.lemmas.List.{append_assoc, append-nil, take-take}
use Rattle.xi_plain.specs.declared.reply.Reply.{Reply}
use Rattle.xi_plain.specs.declared.reply.Reply.TheVariants as reply
use Rattle.plugin_session.specs.declared.after.After.{After}
use Rattle.plugin_session.specs.declared.asking.Met.{Met}
use Rattle.plugin_session.specs.declared.asking.Met.TheVariants.{All, Closed, NoMemory}
use Rattle.plugin_session.specs.declared.asking.Step.{Step}
use Rattle.plugin_session.specs.declared.asking.Step.TheVariants.{Goes, Stops}
use Rattle.plugin_session.specs.declared.noted.Noted.TheVariants.{Asked}
use Rattle.plugin_session.specs.Call.{Call, answer_in, answer_of, answers_of, line_ask}
use Rattle.plugin_session.specs.Visit.{AreAsked}
use Rattle.plugin_session.specs.Asking.{step_after, MetsEnd, WereAsked}
use Rattle.plugin_session.proofs.CallLemmas.{answers_of-append}

-- the call that asked a line
abbrev pub line_call : ℕ → List ℕ → Reply → Call
line_call at line given = record { at = at; noted = Asked (line_ask line) given }

-- a text with something in it is one answer, and an empty one none
pub in_some : (text : List ℕ) → text ≢ [] → answer_in text ≡ text ∷ []
in_some [] some = absurd (some refl)
in_some (char ∷ text) some = refl

pub in_none : (text : List ℕ) → text ≡ [] → answer_in text ≡ []
in_none text is = ap answer_in is

-- the end that a step has
abbrev met_in : Step → Met
met_in (Goes kept) = All
met_in (Stops met) = met

met_is : (a b : Met) → Stops a ≡ Stops b → a ≡ b
met_is a b is = ap met_in is

-- a line after which the next may be asked
goes : (kept next at : ℕ) (line : List ℕ) (lines : List (List ℕ)) (done : Bool) (given : Reply) (rest : List Call) (ended : After)
    → step_after kept given ≡ Goes next → AreAsked lines done rest ended → AreAsked (line ∷ lines) done (line_call at line given ∷ rest) ended
goes kept next at line lines done (reply.Taken text) rest ended is asked = (reply.Taken text, refl, asked)
goes kept next at line lines done (reply.Refused text) rest ended is asked = (reply.Refused text, refl, asked)
goes kept next at line lines done reply.SinkFault rest ended is asked = (reply.SinkFault, refl, asked)
goes kept next at line lines done reply.Closed rest ended is asked = absurd cc
goes kept next at line lines done reply.NoMemory rest ended is asked = absurd cc

-- a line that is the last
stops : (kept at : ℕ) (line : List ℕ) (lines : List (List ℕ)) (done : Bool) (given : Reply) (met : Met) (rest : List Call) (ended : After)
    → step_after kept given ≡ Stops met → MetsEnd met done rest ended → AreAsked (line ∷ lines) done (line_call at line given ∷ rest) ended
stops kept at line lines done (reply.Taken text) met rest ended is last = absurd cc
stops kept at line lines done (reply.Refused text) met rest ended is last = absurd cc
stops kept at line lines done reply.SinkFault met rest ended is last = absurd cc
stops kept at line lines done reply.Closed met rest ended is last =
    (reply.Closed, refl, subst (λ m. MetsEnd m done rest ended) (sym (met_is Closed met is)) last)
stops kept at line lines done reply.NoMemory met rest ended is last =
    (reply.NoMemory, refl, subst (λ m. MetsEnd m done rest ended) (sym (met_is NoMemory met is)) last)

-- LINES SO FAR: whatever asks the rest from here on, with these calls before it asks all
abbrev pub SoFar : List (List ℕ) → List (List ℕ) → List Call → Type 0
SoFar lines rest calls =
    (done : Bool) (more : List Call) (ended : After) → AreAsked rest done more ended → AreAsked lines done (calls ++ more) ended

pub so_far_on : (lines rest : List (List ℕ)) (calls : List Call) (kept next at : ℕ) (line : List ℕ) (given : Reply) → SoFar lines (line ∷ rest) calls
    → step_after kept given ≡ Goes next → SoFar lines rest (calls ++ line_call at line given ∷ [])
so_far_on lines rest calls kept next at line given so_far is done more ended asked =
    subst (λ x. AreAsked lines done x ended) (sym (append_assoc calls (line_call at line given ∷ []) more))
    (so_far done (line_call at line given ∷ more) ended (goes kept next at line rest done given more ended is asked))

pub so_far_ends : (lines rest : List (List ℕ)) (calls : List Call) (kept at : ℕ) (line : List ℕ) (given : Reply) (met : Met)
    → SoFar lines (line ∷ rest) calls → step_after kept given ≡ Stops met → WereAsked lines met (calls ++ line_call at line given ∷ [])
so_far_ends lines rest calls kept at line given met so_far is done more ended last =
    subst (λ x. AreAsked lines done x ended) (sym (append_assoc calls (line_call at line given ∷ []) more))
    (so_far done (line_call at line given ∷ more) ended (stops kept at line rest done given met more ended is last))

-- so many answers are kept
pub next_kept : (kept next : ℕ) (line : List ℕ) (given : Reply) → step_after kept given ≡ Goes next
    → next ≡ kept + length (answer_of (Asked (line_ask line) given))
next_kept kept next line (reply.Taken text) is = cc
next_kept kept next line (reply.Refused text) is = cc
next_kept kept next line reply.SinkFault is = let same : kept ≡ next = cc in omega (arith, same)
next_kept kept next line reply.Closed is = absurd cc
next_kept kept next line reply.NoMemory is = absurd cc

-- which are one more at most
in_small : (text : List ℕ) → length (answer_in text) ≤ 1
in_small [] = omega arith
in_small (char ∷ text) = omega arith

pub next_small : (kept next : ℕ) (given : Reply) → step_after kept given ≡ Goes next → next ≤ kept + 1
next_small kept next (reply.Taken text) is = let same : kept + length (answer_in text) ≡ next = cc in omega (arith, same, in_small text)
next_small kept next (reply.Refused text) is = let same : kept + length (answer_in text) ≡ next = cc in omega (arith, same, in_small text)
next_small kept next reply.SinkFault is = let same : kept ≡ next = cc in omega (arith, same)
next_small kept next reply.Closed is = absurd cc
next_small kept next reply.NoMemory is = absurd cc

pub stop_kept : (kept : ℕ) (line : List ℕ) (given : Reply) (met : Met) → step_after kept given ≡ Stops met
    → kept ≡ kept + length (answer_of (Asked (line_ask line) given))
stop_kept kept line (reply.Taken text) met is = absurd cc
stop_kept kept line (reply.Refused text) met is = absurd cc
stop_kept kept line reply.SinkFault met is = absurd cc
stop_kept kept line reply.Closed met is = omega arith
stop_kept kept line reply.NoMemory met is = omega arith

-- one answer more stands behind those so far
pub kept_on : (calls : List Call) (kept next at n : ℕ) (line : List ℕ) (given : Reply) (before asked after : List (List ℕ)) → kept ≤ at
    → take kept before ≡ answers_of calls → take at asked ≡ take at before
    → take (kept + length (answer_of (Asked (line_ask line) given))) after ≡ take kept asked ++ answer_of (Asked (line_ask line) given)
    → next ≡ kept + length (answer_of (Asked (line_ask line) given))
    → take next after ≡ answers_of (calls ++ line_call n line given ∷ [])
kept_on calls kept next at n line given before asked after le so_far same put count =
    let answer = answer_of (Asked (line_ask line) given) in
    ap (λ k. take k after) count ∙ put
    ∙ ap (λ x. x ++ answer) (sym (take-take kept at asked le) ∙ ap (take kept) same ∙ take-take kept at before le ∙ so_far)
    ∙ ap (λ x. answers_of calls ++ x) (sym (append-nil answer)) ∙ sym (answers_of-append calls (line_call n line given ∷ []))
