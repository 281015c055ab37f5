-- THE PLUGINS OF A RUN IN TURNS.
use Rattle.std.specs.Prelude.{◌≡◌, ℕ, ◌+◌, Bool, true, ◌&&◌, List, [], ◌∷◌, map, Option}
use Rattle.xi_plain.specs.declared.entry.Entry.{Entry}
use Rattle.xi_plain.specs.declared.ask.Ask.{Ask}
use Rattle.xi_plain.specs.declared.ask.Query.{Query}
use Rattle.xi_plain.specs.declared.reply.Reply.{Reply}
use Rattle.xi_plain.specs.declared.reply.Answer.{Answer}
use Rattle.plugin_session.specs.Turn.{Turned}
use Rattle.plugin_session.specs.Visit.{Visit, new_port}
use Rattle.plugin_crew.specs.declared.standing.Standing.TheVariants.{Going}
use Rattle.plugin_crew.specs.declared.member.Member.{Member}
use Rattle.plugin_crew.specs.Standing.{is_served}
use Rattle.plugin_crew.specs.Session.{IsSession}

-- a plugin before its first turn
pub record IsNew {P : Type 0} (caller : ℕ) (plugin : P) (member : Member P) : Type 0 where
  pub number : member.caller ≡ caller
  pub port : member.port ≡ new_port caller
  pub now : member.plugin ≡ plugin
  pub began : member.began.value ≡ plugin
  pub going : member.standing ≡ Going

-- plugins before their first turn, from this caller on
abbrev pub AreNew : {P : Type 0} → ℕ → List P → List (Member P) → Type 0
AreNew caller [] [] = Unit {0}
AreNew caller [] (member ∷ members) = ⊥
AreNew caller (plugin ∷ plugins) [] = ⊥
AreNew caller (plugin ∷ plugins) (member ∷ members) = IsNew caller plugin member × AreNew (caller + 1) plugins members

-- the plugins as they were at first
abbrev pub begun_of : {P : Type 0} → List (Member P) → List P
begun_of members = map (λ member. member.began.value) members

-- and as they are
abbrev pub plugins_of : {P : Type 0} → List (Member P) → List P
plugins_of members = map (λ member. member.plugin) members

-- whether memory was wanting for none
abbrev pub are_served : {P : Type 0} → List (Member P) → Bool
are_served [] = true
are_served (member ∷ members) = is_served member.standing && are_served members

module _ {P : Type 0} (told : P → Option (List Turned)) (serves : List Entry → ℕ → Ask → Reply → List Entry → Type 0)
    (answers : List Entry → ℕ → Query → Answer → Type 0) where
  -- the plugin has this number, and is served
  pub record IsMember (caller : ℕ) (journal : List Entry) (member : Member P) (visits : List Visit) : Type 0 where
    pub number : member.caller ≡ caller
    pub session : IsSession serves answers caller journal member.port (told member.began.value) (told member.plugin) member.standing visits

  -- EVERY PLUGIN IS SERVED, from this caller on, each by its visits
  abbrev pub AreMembers : ℕ → List Entry → List (Member P) → List (List Visit) → Type 0
  AreMembers caller journal [] [] = Unit {0}
  AreMembers caller journal [] (visits ∷ rest) = ⊥
  AreMembers caller journal (member ∷ members) [] = ⊥
  AreMembers caller journal (member ∷ members) (visits ∷ rest) =
      IsMember caller journal member visits × AreMembers (caller + 1) journal members rest
