-- WHERE A FILE STANDS: the folder that its path names, and the new file that is made there.
use Rattle.std.specs.Prelude.{◌≡◌, ◌≢◌, ℕ, zero, suc, ◌==◌, List, [], ◌∷◌, ◌++◌, length, take, drop, codes, ◌⊎◌}
use Rattle.std.specs.Fmt.{decimal}
use Rattle.std.specs.Str.{NoCharPasses}
use Rattle.std.specs.Str.Pattern.{HasCharAt}

-- the front of a path goes up to its last slash, with it; it is empty where the path has none
pub record IsFront (path front : List ℕ) : Type 0 where
  pub first : front ≡ take (length front) path
  pub ends : (front ≡ []) ⊎ ((at : ℕ) × HasCharAt 47 path at (length front))
  pub none_behind : NoCharPasses (λ c. c == 47) (drop (length front) path)

-- the folder of a path is its front, or the one where the program was started
abbrev pub IsFolder : List ℕ → List ℕ → Type 0
IsFolder path folder = (IsFront path folder × (folder ≢ [])) ⊎ (IsFront path [] × (folder ≡ codes "."))

-- what stands before a link's name where it is followed: nothing where the name begins with a slash, else the link's front
abbrev pub StandsBefore : List ℕ → List ℕ → List ℕ → Type 0
StandsBefore link [] front = IsFront link front
StandsBefore link (first ∷ name) front = ((first ≡ 47) × (front ≡ [])) ⊎ ((first ≢ 47) × IsFront link front)

-- a link has a name that leads to this path
abbrev pub LinksTo : List ℕ → List ℕ → Type 0
LinksTo link path = (name front : List ℕ) × StandsBefore link name front × (path ≡ front ++ name)

-- so many links, followed from a path on, lead to this one: none leads to the path itself
abbrev pub LeadsTo : ℕ → List ℕ → List ℕ → Type 0
LeadsTo zero path target = target ≡ path
LeadsTo (suc links) path target = (link : List ℕ) × LeadsTo links path link × LinksTo link target

-- a new file's path: in the folder of the other, by a name of its own with a number
pub record StandsBeside (path new : List ℕ) : Type 0 where
  pub front : List ℕ
  pub is_front : IsFront path front
  pub number : ℕ
  pub is : new ≡ front ++ codes ".xi-save-" ++ decimal number
