-- A RUN ON THREADS: a room, whose front takes lines, and plugins that have their turns at it.
use Rattle.std.specs.Prelude.{◌≡◌, ℕ, ◌+◌, Bool, true, false, ◌&&◌, List, [], ◌∷◌, map, Option, length}
use Rattle.atomic_table.specs.Seated.{TableId}
use Rattle.xi_plain.specs.declared.entry.Entry.{Entry}
use Rattle.xi_plain.specs.declared.ask.Ask.{Ask}
use Rattle.xi_plain.specs.declared.ask.Query.{Query}
use Rattle.xi_plain.specs.declared.reply.Reply.{Reply}
use Rattle.xi_plain.specs.declared.reply.Answer.{Answer}
use Rattle.xi_plain.specs.Journal.{front_entries}
use Rattle.room_lock.specs.Room.{Known}
use Rattle.xi_plain.specs.Room.{Begins}
use Rattle.plugin_session.specs.Turn.{Turned, TellsMore}
use Rattle.plugin_session.specs.Visit.{Visit, IsServed, turns_of}
use Rattle.plugin_session.specs.Hired.{Hiring}
use Rattle.plugin_crew.specs.declared.post.Gathered.{Gathered}
use Rattle.plugin_crew.specs.Standing.{HasStanding, is_going, is_served}
use Rattle.plugin_crew.specs.Alone.{MayServe}
use Rattle.plugin_crew.specs.Place.{Posted, givens_of}
use Rattle.plugin_crew.specs.Post.{HasServed}

-- the plugin of this number was given a pass of the room
pub record IsGiven {O P : Type 0} (room : TableId) (first : O) (caller : ℕ) (given : Hiring O P) : Type 0 where
  pub object : given.first ≡ first
  pub here : given.pass.room ≡ room
  pub number : given.pass.caller ≡ caller

-- so was each, from this number on
abbrev pub AreGiven : {O P : Type 0} → TableId → O → ℕ → List (Hiring O P) → Type 0
AreGiven room first caller [] = Unit {0}
AreGiven room first caller (given ∷ givens) = IsGiven room first caller given × AreGiven room first (caller + 1) givens

-- the plugins as they were given
abbrev pub begun_in : {O P : Type 0} → List (Hiring O P) → List P
begun_in givens = map (λ given. given.plugin) givens

-- THE FRONT of a run on threads: its pass is that of caller 0 in this room, and each plugin was given one of the others, in order
pub record IsStaffed {O P : Type 0} (room : TableId) (first : O) (pass : Known) (givens : List (Hiring O P)) : Type 0 where
  pub here : pass.room ≡ room
  pub caller : pass.caller ≡ 0
  pub made : pass.made ≡ length givens + 1
  pub given : AreGiven room first 1 givens

-- the front may take lines: the object lets it and these plugins ask
abbrev pub MayTake : {O P : Type 0} → (O → ℕ → Ask → Type 0) → (O → List Entry → ℕ → Ask → Reply → List Entry → Type 0)
    → TableId → O → Known → List (Posted O P) → Type 0
MayTake fits serves room first pass posts = IsStaffed room first pass (givens_of posts) × MayServe fits serves (length posts) first

-- the plugins that came back, in their order
abbrev pub plugins_in : {P : Type 0} → List (Gathered P) → List P
plugins_in cames = map (λ came. came.plugin) cames

-- their passes
abbrev pub passes_in : {P : Type 0} → List (Gathered P) → List Known
passes_in cames = map (λ came. came.pass) cames

-- whether memory was wanting for none of them
abbrev pub all_in : {P : Type 0} → List (Gathered P) → Bool
all_in [] = true
all_in (came ∷ cames) = is_served came.standing && all_in cames

module _ {O P : Type 0} (serves : O → List Entry → ℕ → Ask → Reply → List Entry → Type 0)
    (answers : O → List Entry → ℕ → Query → Answer → Type 0) (told : P → Option (List Turned)) where
  -- each plugin had its turns by the pass that it was given
  abbrev pub HaveServed : List (Hiring O P) → List (Gathered P) → Type 0
  HaveServed [] [] = Unit {0}
  HaveServed [] (came ∷ cames) = ⊥
  HaveServed (given ∷ givens) [] = ⊥
  HaveServed (given ∷ givens) (came ∷ cames) =
      HasServed serves answers told given came × HaveServed givens cames

  -- ALL CAME BACK: the pass of the front, which has seen this of the journal, and then each plugin's, in order; so came the plugins
  pub record AreBack (room : TableId) (first : O) (seen : List Entry) (givens : List (Hiring O P)) (passes : List Known) (plugins : List P)
      (all : Bool) : Type 0 where
    pub front : Known
    pub cames : List (Gathered P)
    pub staffed : IsStaffed room first front givens
    pub saw : front.seen ≡ seen
    pub served : HaveServed givens cames
    pub passes_are : passes ≡ front ∷ passes_in cames
    pub plugins_are : plugins ≡ plugins_in cames
    pub all_is : all ≡ all_in cames

module _ {O P : Type 0} (told : P → Option (List Turned)) (serves : List Entry → ℕ → Ask → Reply → List Entry → Type 0)
    (answers : List Entry → ℕ → Query → Answer → Type 0) where
  -- the plugin was served by the journal: by these visits, whose turns it tells more than at first; its session stands so, and goes on no more
  pub record WasServed (caller : ℕ) (journal : List Entry) (given : Hiring O P) (came : Gathered P) : Type 0 where
    pub visits : List Visit
    pub served : IsServed serves answers caller journal visits
    pub tells : TellsMore (told given.plugin) (told came.plugin) (turns_of visits)
    pub stands : HasStanding came.standing visits
    pub ends : is_going came.standing ≡ false

  -- so was each, from this number on
  abbrev pub WereServed : ℕ → List Entry → List (Hiring O P) → List (Gathered P) → Type 0
  WereServed caller journal [] [] = Unit {0}
  WereServed caller journal [] (came ∷ cames) = ⊥
  WereServed caller journal (given ∷ givens) [] = ⊥
  WereServed caller journal (given ∷ givens) (came ∷ cames) = WasServed caller journal given came × WereServed (caller + 1) journal givens cames

module _ {O P : Type 0} (journal : O → List Entry) (serves : O → List Entry → ℕ → Ask → Reply → List Entry → Type 0)
    (answers : O → List Entry → ℕ → Query → Answer → Type 0) (grown : O → O → Type 0) (told : P → Option (List Turned)) where
  -- A RUN ON THREADS THAT ENDED: the object is grown from the one that the room was made with; its journal begins with what the front had seen,
  -- which has all entries of the front end; and every plugin was served by the journal, and came back, in order
  pub record HasEnded (first object : O) (seen : List Entry) (givens : List (Hiring O P)) (plugins : List P) (all : Bool) : Type 0 where
    pub object_grown : grown first object
    pub begins : Begins seen (journal object)
    pub front : front_entries (journal object) ≡ front_entries seen
    pub cames : List (Gathered P)
    pub served : WereServed told (serves first) (answers first) 1 (journal object) givens cames
    pub plugins_are : plugins ≡ plugins_in cames
    pub all_is : all ≡ all_in cames
