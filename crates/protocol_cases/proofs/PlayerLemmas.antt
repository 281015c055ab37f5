-- One plugin more.
use Rattle.std.proofs.Common.{◌≡◌, ℕ, suc, ◌+◌, ◌-◌, ◌<◌, false, List, [], ◌∷◌, ◌++◌, ap, sym, ◌∙◌, append_assoc, arith}
use Rattle.case_scripts.specs.declared.turns.TurnSaid.{TurnSaid}
use Rattle.protocol_cases.specs.Played.{Played}
use Rattle.protocol_cases.specs.Player.{player_of, players_of}
use Rattle.case_scripts.specs.Turns.{turns_of}

players_more : (turns : List TurnSaid) (at count : ℕ) → at < count →
    players_of turns (at + 1) (count - at) ≡ player_of turns (at + 1) ∷ players_of turns (at + 1 + 1) (count - (at + 1))
players_more turns at count less =
    let one : count - at ≡ suc (count - (at + 1)) = omega (arith, less) in
    ap (players_of turns (at + 1)) one

-- a plugin that had no turn yet
abbrev pub fresh : ℕ → List TurnSaid → Played
fresh caller said = record { caller = caller; turns = said; had = []; lost = false }

pub players_put : (turns : List TurnSaid) (at count : ℕ) (before after : List Played) (player : Played) (said : List TurnSaid) → at < count →
    after ≡ before ++ player ∷ [] → player ≡ fresh (at + 1) said → said ≡ turns_of turns (at + 1) →
    before ++ players_of turns (at + 1) (count - at) ≡ players_of turns 1 count →
    after ++ players_of turns (at + 1 + 1) (count - (at + 1)) ≡ players_of turns 1 count
players_put turns at count before after player said less put made same so_far =
    let rest = players_of turns (at + 1 + 1) (count - (at + 1)) in
    ap (λ players. players ++ rest) put ∙ append_assoc before (player ∷ []) rest ∙
    ap (λ next. before ++ next ∷ rest) (made ∙ ap (fresh (at + 1)) same) ∙
    ap (λ players. before ++ players) (sym (players_more turns at count less)) ∙ so_far
