-- Turns of plugins are as they are said exactly where nothing is wrong with them.
use Rattle.std.proofs.Common.{◌≡◌, ℕ, ◌+◌, Bool, true, false, List, [], ◌∷◌, None, Some, refl, ap, ap₂, sym, subst}
use Rattle.std.specs.Prelude.{◌↔◌, ◌&&◌, if◌then◌else◌, ⊤}
use Rattle.std.specs.Str.{bytes_eq}
use Rattle.std.proofs.lemmas.Slice.Eq.{bytes_eq-Decides}
use Rattle.case_scripts.specs.declared.turns.TurnSaid.{TurnSaid}
use Rattle.protocol_cases.specs.declared.verdict.Fault.{Fault}
use Rattle.protocol_cases.specs.declared.verdict.Fault.TheVariants.{Gave}
use Rattle.protocol_cases.specs.declared.verdict.Place.TheVariants.{Turn}
use Rattle.protocol_cases.specs.Played.{Played}
use Rattle.case_scripts.specs.Shelf.{same_truth}
use Rattle.protocol_cases.specs.TurnFault.{gave_fault, given_fault, one_fault, plugins_fault, turns_fault}
use Rattle.case_scripts.specs.Turns.{turns_of}
use Rattle.protocol_cases.specs.Turns.{HadAll, HadTurns, TurnLines, joined, lines_in}
use Rattle.protocol_cases.proofs.VerdictLemmas.{IsExact, IsNone, bytes_fault-exact, first_of-exact}

IsTrue : Bool → Type 0
IsTrue true = ⊤
IsTrue false = ⊥

truth-exact : (said had : Bool) → IsTrue (same_truth said had) ↔ (had ≡ said)
unfolding IsTrue
truth-exact true true = (λ is. refl, λ same. tt)
truth-exact true false = (λ is. absurd is, λ same. subst IsTrue (sym same) tt)
truth-exact false true = (λ is. absurd is, λ same. subst IsTrue same tt)
truth-exact false false = (λ is. refl, λ same. tt)

gave_by : (same done : Bool) (fault : Fault) → IsExact (if same && done then None else Some fault) (IsTrue same × IsTrue done)
unfolding IsNone IsExact IsTrue
gave_by true true fault = (λ none. (tt, tt), λ both. tt)
gave_by true false fault = (λ none. absurd none, λ both. both.1)
gave_by false done fault = (λ none. absurd none, λ both. both.0)

bytes-exact : (said had : List ℕ) → IsTrue (bytes_eq said had) ↔ (had ≡ said)
unfolding IsTrue
bytes-exact said had = (
  λ is. sym ((bytes_eq-Decides said had).0 (truly (bytes_eq said had) is)),
  λ same. subst IsTrue (sym ((bytes_eq-Decides said had).1 (sym same))) tt,
)
  where
    truly : (b : Bool) → IsTrue b → b ≡ true
    truly true is = refl
    truly false is = absurd is

-- one turn
pub record SameTurn (said had : TurnSaid) : Type 0 where
  pub given : joined had.given ≡ joined said.given
  pub gives : joined had.gives ≡ joined said.gives
  pub done : had.done ≡ said.done

one-exact : (plugin turn : ℕ) (said had : TurnSaid) → IsExact (one_fault plugin turn said had) (SameTurn said had)
unfolding IsExact
one-exact plugin turn said had =
    let same = bytes_eq (joined said.gives) (joined had.gives) in
    let done = same_truth said.done had.done in
    let exact = first_of-exact (given_fault plugin turn said had) (gave_fault plugin turn said had) (joined had.given ≡ joined said.given)
    (IsTrue same × IsTrue done) (bytes_fault-exact (Turn plugin turn) (joined said.given) (joined had.given)) (gave_by same done (Gave plugin turn)) in
    let gives = bytes-exact (joined said.gives) (joined had.gives) in
    let ends = truth-exact said.done had.done in (
      λ none. record { given = (exact.0 none).0; gives = gives.0 (exact.0 none).1.0; done = ends.0 (exact.0 none).1.1 },
      λ is. exact.1 (is.given, (gives.1 is.gives, ends.1 is.done)),
    )

-- the same turn, by its lines
same_told : (said had : TurnSaid) → SameTurn said had → lines_in had ≡ lines_in said
same_told said had same = λ t. record { given = same.given t; back = same.gives t; done = same.done t }

told_same : (said had : TurnSaid) → lines_in had ≡ lines_in said → SameTurn said had
told_same said had is = record {
  given = ap (λ (turn : TurnLines). turn.given) is;
  gives = ap (λ (turn : TurnLines). turn.back) is;
  done = ap (λ (turn : TurnLines). turn.done) is;
}

-- ---- lists of turns

first_or : {A : Type 0} → A → List A → A
first_or x [] = x
first_or x (y ∷ ys) = y

rest_of : {A : Type 0} → List A → List A
rest_of [] = []
rest_of (x ∷ xs) = xs

IsCons : {A : Type 0} → List A → Type 0
IsCons [] = ⊥
IsCons (x ∷ xs) = ⊤

turns-exact : (plugin turn : ℕ) (said had : List TurnSaid) → IsExact (turns_fault plugin turn said had) (HadTurns said had)
unfolding IsNone IsExact first_or rest_of IsCons
turns-exact plugin turn [] [] = (λ none. refl, λ same. tt)
turns-exact plugin turn (said ∷ more) [] = (λ none. absurd none, λ same. absurd (subst IsCons (sym same) tt))
turns-exact plugin turn [] (had ∷ others) = (λ none. absurd none, λ same. absurd (subst IsCons same tt))
turns-exact plugin turn (said ∷ more) (had ∷ others) =
    let exact = first_of-exact (one_fault plugin turn said had) (turns_fault plugin (turn + 1) more others) (SameTurn said had) (HadTurns more others)
    (one-exact plugin turn said had) (turns-exact plugin (turn + 1) more others) in (
      λ none. ap₂ (λ told rest. told ∷ rest) (same_told said had (exact.0 none).0) (exact.0 none).1,
      λ same. exact.1 (told_same said had (ap (first_or (lines_in had)) same), ap rest_of same),
    )

-- ---- all plugins

pub plugins-exact : (turns : List TurnSaid) (plugin : ℕ) (players : List Played) → IsExact (plugins_fault turns plugin players) (HadAll turns plugin players)
unfolding IsNone IsExact
plugins-exact turns plugin [] = (λ none. tt, λ all. tt)
plugins-exact turns plugin (player ∷ players) =
    first_of-exact (turns_fault plugin 1 (turns_of turns plugin) player.had) (plugins_fault turns (plugin + 1) players)
    (HadTurns (turns_of turns plugin) player.had) (HadAll turns (plugin + 1) players) (turns-exact plugin 1 (turns_of turns plugin) player.had)
    (plugins-exact turns (plugin + 1) players)
