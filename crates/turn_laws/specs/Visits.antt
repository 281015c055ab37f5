-- THE LAW OF SERVED TURNS over a session: what one visit of a plugin comes to there.
use Rattle.std.specs.Prelude.{◌≡◌, ◌≤◌, ℕ, List, ◌∷◌}
use Rattle.xi_plain.specs.declared.entry.Entry.{Entry}
use Rattle.plugin_session.specs.declared.after.After.{After}
use Rattle.plugin_session.specs.declared.after.After.TheVariants.{Over}
use Rattle.plugin_session.specs.Visit.{IsServed, IsVisit, IsWhole, PortState, Visit, after_visit, port_of}
use Rattle.session_step.specs.declared.terms.Terms.{Terms}
use Rattle.core_session.specs.Answers.{Answers}
use Rattle.core_session.specs.Serves.{Serves}

-- the visits of a plugin are served by the journal of a session with these terms: each call did what one call of the session does, and each
-- look was answered what a look is
abbrev pub IsServedBy : Terms → ℕ → List Entry → List Visit → Type 0
IsServedBy terms caller journal visits = IsServed (Serves terms) (λ log number query answer. Answers terms log query answer) caller journal visits

-- ONE VISIT, where the journal was the first before it and is the second after it: it is the next one of the port; and where the visits so far
-- were served they are served with this one too, and are whole where all is over
pub record IsNextVisit (terms : Terms) (caller : ℕ) (port port_after : PortState) (before after : List Entry) (ended : After) : Type 0 where
  pub visit : Visit
  pub fits : IsVisit port visit
  pub moved : port_after ≡ after_visit port visit
  pub ended_is : visit.after ≡ ended
  pub served : (visits : List Visit) → port ≡ port_of caller visits → IsServedBy terms caller before visits →
      IsServedBy terms caller after (visit ∷ visits) × (visit.after ≡ Over → IsWhole (visit ∷ visits))

-- the number is that of one of so many plugins
abbrev pub IsPluginOf : ℕ → ℕ → Type 0
IsPluginOf plugins caller = (1 ≤ caller) × (caller ≤ plugins)
