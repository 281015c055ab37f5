-- HOW A SESSION STANDS.
use Rattle.std.specs.Prelude.{◌≡◌, Bool, true, false, List, [], ◌∷◌}
use Rattle.plugin_session.specs.declared.after.After.{After}
use Rattle.plugin_session.specs.declared.after.After.TheVariants as after
use Rattle.plugin_session.specs.Visit.{Visit, IsWhole, goes_on}
use Rattle.plugin_crew.specs.declared.standing.Standing.{Standing}
use Rattle.plugin_crew.specs.declared.standing.Standing.TheVariants.{Going, Over, Short}

-- how it stands after a visit that came to this
abbrev pub standing_after : After → Standing
standing_after after.Turned = Going
standing_after after.Idle = Going
standing_after after.Over = Over
standing_after after.NoMemory = Short

-- whether it goes on
abbrev pub is_going : Standing → Bool
is_going Going = true
is_going Over = false
is_going Short = false

-- whether memory was wanting for none of it
abbrev pub is_served : Standing → Bool
is_served Going = true
is_served Over = true
is_served Short = false

-- whether a session goes on that had these visits, the latest first
abbrev pub is_open : List Visit → Bool
is_open [] = true
is_open (visit ∷ visits) = goes_on visit.after

-- a session that had these visits stands so: it goes on; or it is over, and whole; or memory was wanting for it
abbrev pub HasStanding : Standing → List Visit → Type 0
HasStanding Going visits = is_open visits ≡ true
HasStanding Over visits = IsWhole visits
HasStanding Short [] = ⊥
HasStanding Short (visit ∷ visits) = visit.after ≡ after.NoMemory
