-- Which entries follow, by who asks and what.
use Rattle.std.proofs.Common.{◌≡◌, ℕ, ◌≤◌, arith, Bool, true, false, List, [], ◌∷◌, refl, ap, sym, ◌∙◌, subst, inl, inr}
use Rattle.std.specs.Prelude.{◌⊎◌, ◌&&◌}
use Rattle.xi_plain.specs.declared.command.Act.{Act}
use Rattle.xi_plain.specs.declared.command.Act.TheVariants as act
use Rattle.xi_plain.specs.declared.command.Command.{Command}
use Rattle.xi_plain.specs.declared.command.Id.TheVariants.{NoId}
use Rattle.xi_plain.specs.declared.entry.Entry.{Entry}
use Rattle.xi_plain.specs.declared.entry.ShelfNote.{ShelfNote}
use Rattle.xi_plain.specs.declared.entry.ShelfNote.TheVariants.{Absent, Done, Failed, Held, NoCall}
use Rattle.xi_plain.specs.Journal.{closes, is_closing, is_no_call, may_have_note}
use Rattle.front_wire.proofs.ForCallers.{closes-command_of}
use Rattle.plugin_side.specs.Asking.{IsAsk}
use Rattle.session_step.specs.declared.terms.Terms.{Terms}
use Rattle.session_step.specs.Session.{session_of}
use Rattle.core_session.specs.Kept.{ending}
use Rattle.journal_replay.specs.Follow.{FollowsAt, IsNextLine, IsByPlugin, IsTaken, IsTheClosing, NextAsks}
use Rattle.journal_replay.specs.Inner.{has_fitting_note, point_at}

pub first_of : (a b : Bool) → a && b ≡ true → a ≡ true
first_of true b is = refl
first_of false b is = absurd cc

pub second_of : (a b : Bool) → a && b ≡ true → b ≡ true
second_of true b is = is
second_of false b is = absurd cc

both_of : (a b : Bool) → a ≡ true → b ≡ true → a && b ≡ true
both_of a b first second = rw first second

-- what is so is not so as well
pub not_both : {A : Type 0} (b : Bool) → b ≡ true → b ≡ false → A
not_both true is other = absurd cc
not_both false is other = absurd cc

-- ---- the closing entry

act_closes : (what : Act) → closes what ≡ true → what ≡ act.Closing
act_closes act.Closing is = refl
act_closes (act.Bad fault) is = absurd cc
act_closes act.Nothing is = absurd cc
act_closes (act.Configure changes) is = absurd cc
act_closes (act.NewView path) is = absurd cc
act_closes (act.CloseView view) is = absurd cc
act_closes (act.Save view path) is = absurd cc
act_closes (act.Edit view edit) is = absurd cc
act_closes (act.PluginEdit view rev delta priority after_cursor author named) is = absurd cc
act_closes (act.GetData view rev start max) is = absurd cc
act_closes (act.UpdateSpans view rev start len spans) is = absurd cc
act_closes (act.LineCount view) is = absurd cc
act_closes (act.Alert msg) is = absurd cc
act_closes (act.Ack view rev) is = absurd cc
act_closes act.Ended is = absurd cc

no_call : (note : ShelfNote) → is_no_call note ≡ true → note ≡ NoCall
no_call NoCall is = refl
no_call (Held bytes) is = absurd cc
no_call Absent is = absurd cc
no_call Failed is = absurd cc
no_call Done is = absurd cc

-- a command without id that closes
pub closing_command : (command : Command) → command.id ≡ NoId → closes command.act ≡ true → command ≡ record { id = NoId; act = act.Closing }
closing_command command none is =
    ap (λ i. record { id = i; act = command.act }) none ∙ ap (λ a. record { id = NoId; act = a }) (act_closes command.act is)

pub ending_command : (command : Command) → command.id ≡ NoId → command.act ≡ act.Ended → command ≡ ending
ending_command command none is =
    ap (λ i. record { id = i; act = command.act }) none ∙ ap (λ a. record { id = NoId; act = a }) is

closing_is : (entry : Entry) → entry.caller ≡ 0 → entry.command ≡ record { id = NoId; act = act.Closing } → entry.shelf ≡ NoCall → IsTheClosing entry
closing_is entry front asks note =
    ap (λ c. record { caller = c; command = entry.command; shelf = entry.shelf; sent = true }) front ∙
    ap (λ (c : Command). record { caller = 0; command = c; shelf = entry.shelf; sent = true }) asks ∙
    ap (λ n. record { caller = 0; command = record { id = NoId; act = act.Closing }; shelf = n; sent = true }) note

-- no line asks for the closing
no_line_closes : (lines : List (List ℕ)) (command : Command) → NextAsks lines command → closes command.act ≡ false
no_line_closes [] command asks = absurd asks
no_line_closes (line ∷ lines) command asks = ap (λ (c : Command). closes c.act) (sym asks) ∙ closes-command_of line

never_front : {A : Type 0} (n : ℕ) → n ≡ 0 → 1 ≤ n → A
never_front n none some = absurd (omega (arith, none, some))

-- ---- entries at a point that no entry closed

module _ (plugins : ℕ) (terms : Terms) (journal : List Entry) (lines : List (List ℕ)) (entry : Entry) where
  follows_by : has_fitting_note terms journal entry ≡ true →
      IsNextLine (point_at terms journal lines) entry ⊎ (IsTheClosing entry ⊎ IsByPlugin plugins (point_at terms journal lines) entry) →
      FollowsAt plugins (point_at terms journal lines) entry
  follows_by note asks = record {
    unclosed = refl;
    note = first_of (may_have_note entry.command.act entry.shelf) _ note;
    asked = second_of (may_have_note entry.command.act entry.shelf) _ note;
    asks = asks;
  }

  pub follows_line : has_fitting_note terms journal entry ≡ true → entry.caller ≡ 0 → NextAsks lines entry.command →
      FollowsAt plugins (point_at terms journal lines) entry
  follows_line note front asks = follows_by note (inl (record { front = front; asks = asks }))

  pub follows_closing : has_fitting_note terms journal entry ≡ true → entry.caller ≡ 0 → entry.command ≡ record { id = NoId; act = act.Closing } →
      FollowsAt plugins (point_at terms journal lines) entry
  follows_closing note front asks =
      let kind : may_have_note act.Closing entry.shelf ≡ true =
      subst (λ (c : Command). may_have_note c.act entry.shelf ≡ true) asks (first_of (may_have_note entry.command.act entry.shelf) _ note) in
      follows_by note (inr (inl (closing_is entry front asks (no_call entry.shelf kind))))

  pub follows_plugin : has_fitting_note terms journal entry ≡ true → 1 ≤ entry.caller → entry.caller ≤ plugins →
      (entry.command ≡ ending) ⊎ IsTaken (session_of terms journal) entry → FollowsAt plugins (point_at terms journal lines) entry
  follows_plugin note from to asks = follows_by note (inr (inr (record { from = from; to = to; asks = asks })))

  -- what is there where it follows
  pub own_note_of : FollowsAt plugins (point_at terms journal lines) entry → has_fitting_note terms journal entry ≡ true
  own_note_of follows = both_of (may_have_note entry.command.act entry.shelf) _ follows.note follows.asked

  pub line_of_front : FollowsAt plugins (point_at terms journal lines) entry → entry.caller ≡ 0 → is_closing entry ≡ false →
      NextAsks lines entry.command
  line_of_front follows front goes = by follows.asks
    where
      by : IsNextLine (point_at terms journal lines) entry ⊎ (IsTheClosing entry ⊎ IsByPlugin plugins (point_at terms journal lines) entry) →
          NextAsks lines entry.command
      by (inl next) = next.asks
      by (inr (inl closing)) = not_both (is_closing entry) (ap (λ (e : Entry). closes e.command.act) closing) goes
      by (inr (inr plugin)) = never_front entry.caller front plugin.from

  pub closing_of : FollowsAt plugins (point_at terms journal lines) entry → entry.caller ≡ 0 → is_closing entry ≡ true → IsTheClosing entry
  closing_of follows front closing = by follows.asks
    where
      by : IsNextLine (point_at terms journal lines) entry ⊎ (IsTheClosing entry ⊎ IsByPlugin plugins (point_at terms journal lines) entry) →
          IsTheClosing entry
      by (inl next) = not_both (is_closing entry) closing (no_line_closes lines entry.command next.asks)
      by (inr (inl is)) = is
      by (inr (inr plugin)) = never_front entry.caller front plugin.from

  pub plugin_of : FollowsAt plugins (point_at terms journal lines) entry → 1 ≤ entry.caller → IsByPlugin plugins (point_at terms journal lines) entry
  plugin_of follows from = by follows.asks
    where
      by : IsNextLine (point_at terms journal lines) entry ⊎ (IsTheClosing entry ⊎ IsByPlugin plugins (point_at terms journal lines) entry) →
          IsByPlugin plugins (point_at terms journal lines) entry
      by (inl next) = never_front entry.caller next.front from
      by (inr (inl closing)) = never_front entry.caller (ap (λ (e : Entry). e.caller) closing) from
      by (inr (inr plugin)) = plugin

  -- no command but the end of a session, where that is none
  pub taken_of : FollowsAt plugins (point_at terms journal lines) entry → 1 ≤ entry.caller → (entry.command.act ≡ act.Ended → ⊥) →
      IsTaken (session_of terms journal) entry
  taken_of follows from goes = by (plugin_of follows from).asks
    where
      by : (entry.command ≡ ending) ⊎ IsTaken (session_of terms journal) entry → IsTaken (session_of terms journal) entry
      by (inl ends) = absurd (goes (ap (λ (c : Command). c.act) ends))
      by (inr taken) = taken

  pub ending_of : FollowsAt plugins (point_at terms journal lines) entry → 1 ≤ entry.caller → entry.command.act ≡ act.Ended → entry.command ≡ ending
  ending_of follows from ends = by (plugin_of follows from).asks
    where
      by : (entry.command ≡ ending) ⊎ IsTaken (session_of terms journal) entry → entry.command ≡ ending
      by (inl is) = is
      by (inr taken) = absurd (subst IsAsk ends taken.asks)
