-- THE PLACE of a plugin that has its turns on the calling thread, in a run on threads.
use Rattle.std.specs.Prelude.{◌≡◌, ℕ, Bool, List, [], ◌∷◌, map, Option, Some, None}
use Rattle.std.specs.Bool.{MatchBool}
use Rattle.xi_plain.specs.declared.entry.Entry.{Entry}
use Rattle.xi_plain.specs.declared.ask.Ask.{Ask}
use Rattle.xi_plain.specs.declared.ask.Query.{Query}
use Rattle.xi_plain.specs.declared.reply.Reply.{Reply}
use Rattle.xi_plain.specs.declared.reply.Answer.{Answer}
use Rattle.room_lock.specs.Room.{Known}
use Rattle.plugin_session.specs.declared.errand.Errand.{Errand}
use Rattle.plugin_session.specs.declared.errand.Errand.TheVariants.{Serve, Leave}
use Rattle.plugin_session.specs.Call.{Went}
use Rattle.plugin_session.specs.Visit.{Visit, PortState, IsVisit, after_visit, new_port}
use Rattle.plugin_session.specs.Seat.{Seated}
use Rattle.plugin_session.specs.Hired.{Hiring}
use Rattle.plugin_crew.specs.declared.standing.Standing.{Standing}
use Rattle.plugin_crew.specs.declared.standing.Standing.TheVariants.{Going}
use Rattle.plugin_crew.specs.declared.member.Member.{Member}
use Rattle.plugin_crew.specs.declared.post.Work.{Work}
use Rattle.plugin_crew.specs.declared.post.Work.TheVariants.{Runs, Stays}
use Rattle.plugin_crew.specs.Standing.{is_going, standing_after}

-- a place: the port, how its session stands, and what its pass has seen
pub record Place : Type 0 where
  pub port : PortState
  pub standing : Standing
  pub seen : List Entry

-- that of a plugin at a door of its pass
abbrev pub place_at : {O P : Type 0} → Member P → Seated O → Place
place_at member door = record { port = member.port; standing = member.standing; seen = door.pass.seen }

-- the one before the first turn
abbrev pub first_place : Known → Place
first_place pass = record { port = new_port pass.caller; standing = Going; seen = pass.seen }

-- the place of a plugin, by its work: on a thread it has none here
abbrev pub place_by : {O R P : Type 0} → Work O R P → Option Place
place_by (Runs hired) = None
place_by (Stays member door) = Some (place_at member door)

-- the same where there is work
abbrev pub place_in : {O R P : Type 0} → Option (Work O R P) → Option Place
place_in None = None
place_in (Some work) = place_by work

-- A POST: what a plugin was given, and its place
pub record Posted (O P : Type 0) : Type 0 where
  pub given : Hiring O P
  pub here : Option Place

-- what each was given
abbrev pub givens_of : {O P : Type 0} → List (Posted O P) → List (Hiring O P)
givens_of posts = map (λ post. post.given) posts

module _ (serves : List Entry → ℕ → Ask → Reply → List Entry → Type 0) (answers : List Entry → ℕ → Query → Answer → Type 0) where
  -- one visit of the port, whose calls were served by what the pass has seen then
  pub record IsVisitHere (old new : Place) : Type 0 where
    pub visit : Visit
    pub fits : IsVisit old.port visit
    pub moved : new.port ≡ after_visit old.port visit
    pub stands : new.standing ≡ standing_after visit.after
    pub went : Went serves answers old.port.caller old.seen new.seen visit.calls

  -- A TURN HERE: one visit where the session goes on, and nothing where it does not
  abbrev pub HasTurnHere : Place → Place → Type 0
  HasTurnHere old new = MatchBool (is_going old.standing) (IsVisitHere old new) (new ≡ old)

  -- the same where there is a place
  abbrev pub HasTurnAt : Option Place → Option Place → Type 0
  HasTurnAt None new = new ≡ None
  HasTurnAt (Some old) None = ⊥
  HasTurnAt (Some old) (Some new) = HasTurnHere old new

module _ {O P : Type 0} (serves : O → List Entry → ℕ → Ask → Reply → List Entry → Type 0)
    (answers : O → List Entry → ℕ → Query → Answer → Type 0) where
  -- a post had its turn, where its plugin has its turns here; what it was given stays
  abbrev pub IsVisited : Posted O P → Posted O P → Type 0
  IsVisited old new = (new.given ≡ old.given) × HasTurnAt (serves old.given.first) (answers old.given.first) old.here new.here

  -- so had each
  abbrev pub AreVisited : List (Posted O P) → List (Posted O P) → Type 0
  AreVisited [] [] = Unit {0}
  AreVisited [] (new ∷ news) = ⊥
  AreVisited (old ∷ olds) [] = ⊥
  AreVisited (old ∷ olds) (new ∷ news) = IsVisited old new × AreVisited olds news

  -- A ROUND HERE, where this is so: each had its turn
  abbrev pub AreVisitedIf : Bool → List (Posted O P) → List (Posted O P) → Type 0
  AreVisitedIf goes olds news = MatchBool goes (AreVisited olds news) (news ≡ olds)

-- the place of a plugin by its errand: none, where a worker serves it; else it is before its first turn
abbrev pub place_for : Errand → Known → Option Place
place_for Serve pass = None
place_for Leave pass = Some (first_place pass)

-- THE PLACE of a plugin that was hired
abbrev pub IsPlaced : {O P : Type 0} → Posted O P → Type 0
IsPlaced post = post.here ≡ place_for post.given.errand post.given.pass
