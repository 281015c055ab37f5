-- A PLUGIN OF A RUN ON THREADS: what it was given, and what became of it.
use Rattle.std.specs.Prelude.{◌≡◌, ℕ, Bool, true, false, List, Option}
use Rattle.xi_plain.specs.declared.entry.Entry.{Entry}
use Rattle.xi_plain.specs.declared.ask.Ask.{Ask}
use Rattle.xi_plain.specs.declared.ask.Query.{Query}
use Rattle.xi_plain.specs.declared.reply.Reply.{Reply}
use Rattle.xi_plain.specs.declared.reply.Answer.{Answer}
use Rattle.xi_plain.specs.Room.{Begins}
use Rattle.room_lock.specs.Room.{IsSamePass}
use Rattle.plugin_session.specs.declared.errand.Errand.TheVariants.{Serve, Leave}
use Rattle.plugin_session.specs.declared.worker.Worked.{Worked}
use Rattle.plugin_session.specs.Turn.{Turned, TellsMore}
use Rattle.plugin_session.specs.Visit.{Visit, IsServed, turns_of}
use Rattle.plugin_session.specs.Seat.{Seated, IsUsable}
use Rattle.plugin_session.specs.Hired.{Hiring}
use Rattle.plugin_crew.specs.declared.standing.Standing.{Standing}
use Rattle.plugin_crew.specs.declared.standing.Standing.TheVariants.{Over, Short}
use Rattle.plugin_crew.specs.declared.member.Member.{Member}
use Rattle.plugin_crew.specs.declared.post.Gathered.{Gathered}
use Rattle.plugin_crew.specs.declared.post.Work.{Work}
use Rattle.plugin_crew.specs.declared.post.Work.TheVariants.{Runs, Stays}
use Rattle.plugin_crew.specs.Standing.{HasStanding, is_going}
use Rattle.plugin_crew.specs.Session.{IsSession}

-- how a session stands that a worker brought to its end
abbrev pub standing_of : Bool → Standing
standing_of true = Over
standing_of false = Short

-- what a worker came to
abbrev pub gathered_of : {P : Type 0} → Worked P → Gathered P
gathered_of worked = record { pass = worked.pass; plugin = worked.plugin; standing = standing_of worked.over }

module _ {O P : Type 0} (serves : O → List Entry → ℕ → Ask → Reply → List Entry → Type 0)
    (answers : O → List Entry → ℕ → Query → Answer → Type 0) (told : P → Option (List Turned)) where
  -- WHAT BECAME of a plugin: the pass that it was given may have seen more, and this serves the visits whose turns it tells more; its session
  -- stands so, and goes on no more
  pub record HasServed (given : Hiring O P) (came : Gathered P) : Type 0 where
    pub same : IsSamePass given.pass came.pass
    pub seen : Begins given.pass.seen came.pass.seen
    pub visits : List Visit
    pub served : IsServed (serves given.first) (answers given.first) given.pass.caller came.pass.seen visits
    pub tells : TellsMore (told given.plugin) (told came.plugin) (turns_of visits)
    pub stands : HasStanding came.standing visits
    pub ends : is_going came.standing ≡ false

module _ {O P : Type 0} (fits : O → ℕ → Ask → Type 0) (legal : O → List Entry → Type 0)
    (serves : O → List Entry → ℕ → Ask → Reply → List Entry → Type 0) (answers : O → List Entry → ℕ → Query → Answer → Type 0)
    (told : P → Option (List Turned)) where
  -- a plugin has its turns on the calling thread, at a door of the pass that it was given
  pub record IsStay (given : Hiring O P) (member : Member P) (door : Seated O) : Type 0 where
    pub leaves : given.errand ≡ Leave
    pub object : door.first ≡ given.first
    pub same : IsSamePass given.pass door.pass
    pub seen : Begins given.pass.seen door.pass.seen
    pub usable : IsUsable fits legal given.first door.pass
    pub visits : List Visit
    pub session : IsSession (serves given.first) (answers given.first) given.pass.caller door.pass.seen member.port (told given.plugin)
        (told member.plugin) member.standing visits

  -- what is so of a plugin's work, by what it was given: a worker serves it; or it is here
  abbrev pub IsWork : {R : Type 0} → Hiring O P → Work O R P → Type 0
  IsWork given (Runs hired) = (hired ≡ given) × (given.errand ≡ Serve)
  IsWork given (Stays member door) = IsStay given member door
