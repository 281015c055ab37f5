-- How bytes are pushed.
use Rattle.std.specs.Prelude.{◌≡◌, ◌≢◌, ℕ, List, [], ◌++◌, Result, Ok, Err}
use Rattle.outside.specs.Faults.{Rose}
use Rattle.plugin_link.specs.Link.{LinkTold, Pushes}

-- a beginning of the bytes was pushed, and not all: a push failed
pub record IsPartly (old new : LinkTold) (whole : List ℕ) : Type 0 where
  pub put : List ℕ
  pub missing : List ℕ
  pub pushes : Pushes old new put
  pub parts : whole ≡ put ++ missing
  pub some : missing ≢ []
  pub rose : Rose old.faults new.faults

-- all of the bytes were pushed, or a beginning where that failed
abbrev pub PutsBy : {E : Type 0} → Result (Unit {0}) E → LinkTold → LinkTold → List ℕ → Type 0
PutsBy (Ok one) old new whole = Pushes old new whole
PutsBy (Err fault) old new whole = IsPartly old new whole
