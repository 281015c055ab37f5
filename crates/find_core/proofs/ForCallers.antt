-- What other crates may cite of the matches of a text.
use Rattle.std.proofs.Common.{◌≡◌, ℕ, ◌+◌, ◌-◌, ◌<◌, ◌≤◌, Bool, true, false, List, [], ◌∷◌, length, drop, refl, ap, subst, arith, length-drop}
use Rattle.std.proofs.lemmas.List.{length-map, length-take}
use Rattle.std.specs.List.{AllByRecursion}
use Rattle.std.specs.Char.{to_ascii_lowercase}
use Rattle.plain_text.specs.declared.run.Run.{Run}
use Rattle.find_core.specs.Matches.{folded, matches_of}
use Rattle.find_core.specs.Laws.{IsNextMatch, AreMatchesFrom}
use Rattle.find_core.proofs.MatchLemmas.{matches_of-are}
pub use Rattle.find_core.proofs.MatchLemmas.{matches_of-are, matches_of-after, AreMatchesFrom-same}

-- a match has characters, and they are characters of the text
ends-inside : (chars text : List ℕ) (from : ℕ) (run : Run) → 0 < length chars → IsNextMatch chars text from run → (run.start < run.end) × (run.end ≤ length text)
ends-inside chars text from run some next =
    let long = ap length next.is in
    let part = length-take (run.start + length chars - run.start) (drop run.start text) in
    let left = length-drop run.start text in
    (omega (arith, next.end), omega (arith, next.end, long, part, left))

each-inside : (chars text : List ℕ) (from : ℕ) (runs : List Run) → 0 < length chars → AreMatchesFrom chars text from runs →
    AllByRecursion (λ run. (run.start < run.end) × (run.end ≤ length text)) runs
each-inside chars text from [] some are = tt
each-inside chars text from (run ∷ runs) some are = (ends-inside chars text from run some are.0, each-inside chars text run.end runs some are.1)

folded-len : (fold : Bool) (text : List ℕ) → length (folded fold text) ≡ length text
folded-len true text = length-map text to_ascii_lowercase
folded-len false text = refl

-- the matches of a text stand inside it, and none is empty
pub matches_of-inside : (text chars : List ℕ) (fold : Bool) → AllByRecursion (λ run. (run.start < run.end) × (run.end ≤ length text)) (matches_of text chars fold)
matches_of-inside text [] fold = tt
matches_of-inside text (c ∷ chars) fold =
    subst (λ n. AllByRecursion (λ run. (run.start < run.end) × (run.end ≤ n)) (matches_of text (c ∷ chars) fold)) (folded-len fold text)
    (each-inside (folded fold (c ∷ chars)) (folded fold text) 0 (matches_of text (c ∷ chars) fold) (omega (arith, folded-len fold (c ∷ chars)))
    (matches_of-are text (c ∷ chars) fold (omega arith)))
