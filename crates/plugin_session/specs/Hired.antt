-- WORKERS ON THREADS: what one is given, and what is handed back of it.
use Rattle.std.specs.Prelude.{◌≡◌, ℕ, List, Option, Result, Ok, Err}
use Rattle.xi_plain.specs.declared.entry.Entry.{Entry}
use Rattle.xi_plain.specs.declared.ask.Ask.{Ask}
use Rattle.xi_plain.specs.declared.ask.Query.{Query}
use Rattle.xi_plain.specs.declared.reply.Reply.{Reply}
use Rattle.xi_plain.specs.declared.reply.Answer.{Answer}
use Rattle.room_lock.specs.Room.{Known}
use Rattle.plugin_session.specs.declared.errand.Errand.{Errand}
use Rattle.plugin_session.specs.declared.errand.Errand.TheVariants.{Serve, Leave}
use Rattle.plugin_session.specs.declared.worker.Worked.{Worked}
use Rattle.plugin_session.specs.Turn.{Turned}
use Rattle.plugin_session.specs.Worker.{HasWorked}

-- what a worker is given: the object that its room was made with, a pass, and a plugin; and its errand
pub record Hiring (O P : Type 0) : Type 0 where
  pub first : O
  pub pass : Known
  pub plugin : P
  pub errand : Errand

-- WHAT IS HANDED BACK, by the errand: to serve, the worker has worked; to leave, pass and plugin are as they were
abbrev pub IsHandedBack : {P : Type 0} → (List Entry → ℕ → Ask → Reply → List Entry → Type 0) → (List Entry → ℕ → Query → Answer → Type 0)
    → (P → Option (List Turned)) → Known → P → Errand → Result (Worked P) (Known × P) → Type 0
IsHandedBack serves answers told pass plugin Serve (Ok worked) =
    HasWorked serves answers pass worked.pass (told plugin) (told worked.plugin) worked.over
IsHandedBack serves answers told pass plugin Serve (Err back) = ⊥
IsHandedBack serves answers told pass plugin Leave (Ok worked) = ⊥
IsHandedBack serves answers told pass plugin Leave (Err back) = (back.0 ≡ pass) × (back.1 ≡ plugin)
