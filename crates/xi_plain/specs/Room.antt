-- What an object does to its journal.
use Rattle.std.specs.Prelude.{◌≡◌, ℕ, Bool, List, [], ◌∷◌, ◌++◌}
use Rattle.std.specs.Bool.{MatchBool}
use Rattle.xi_plain.specs.declared.ask.Query.{Query}
use Rattle.xi_plain.specs.declared.ask.Query.TheVariants.{Notices}
use Rattle.xi_plain.specs.declared.entry.Entry.{Entry}

-- the place from which a query asks
abbrev pub asked_from : Query → ℕ
asked_from (Notices from) = from

-- the journal begins with these entries
abbrev pub Begins : List Entry → List Entry → Type 0
Begins first journal = (more : List Entry) × (journal ≡ first ++ more)

-- one entry of the caller is added
abbrev pub AddsEntry : List Entry → ℕ → List Entry → Type 0
AddsEntry before caller after = (entry : Entry) × (after ≡ before ++ entry ∷ []) × (entry.caller ≡ caller)

-- where an entry was made, it is one of the caller, at the end; else none was
abbrev pub AddsEntryIf : Bool → List Entry → ℕ → List Entry → Type 0
AddsEntryIf made before caller after = MatchBool made (AddsEntry before caller after) (after ≡ before)
