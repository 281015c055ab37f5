-- What is known of a shelf's answer inside a truncation is known.
use Rattle.std.proofs.Common.{◌≡◌, ℕ, ◌≤◌, arith, Bool, true, false, List, Option, Some, None, inl, inr, refl}
use Rattle.std.specs.Prelude.{IfSome, ◌^◌, ◌-◌, nat_lt}
use Rattle.std.specs.Coded.{Coded-set, Unit-prop, coded_list, coded_option, coded_ℕ, coded×, le_prop}
use Rattle.std.proofs.Math.Bool.{Bool-set}
use Rattle.std.proofs.Math.Logic.{∥∥₁_elim, ∥∥₁_map}
use Rattle.std.proofs.lemmas.Bool.Decides.{nat_tests}
use Rattle.outside.specs.Faults.{Rose}
use Rattle.xi_plain.specs.declared.command.Act.{Act}
use Rattle.xi_plain.specs.declared.command.Act.TheVariants as act
use Rattle.xi_plain.specs.declared.entry.ShelfNote.{ShelfNote}
use Rattle.xi_plain.specs.declared.entry.ShelfNote.TheVariants.{Absent, Done, Failed, Held, NoCall}
use Rattle.session_step.specs.Session.{OpenView}
use Rattle.core_session.specs.Shelves.{Files, IsNoted, NoteTells, ShelfState}

-- a count rose, or stands at its last value, by its numbers alone
pub Rose-known : (old new : ℕ) → ∥ Rose old new ∥₁ → Rose old new
Rose-known old new known = by (nat_lt old new) refl
  where
    at_end : nat_lt old new ≡ false → Rose old new → 2 ^ 64 - 1 ≤ new
    at_end is (inl above) = absurd (grind (arith, nat_tests, is, above))
    at_end is (inr end) = end

    by : (b : Bool) → nat_lt old new ≡ b → Rose old new
    by true is = inl (grind (arith, nat_tests, is))
    by false is = inr (∥∥₁_elim known le_prop (λ rose. at_end is rose))

had_prop : (a b : Option (List ℕ)) → IsProp (a ≡ b)
had_prop a b = Coded-set (coded_option (coded_list coded_ℕ)) a b

files_prop : (a b : Option Files) → IsProp (a ≡ b)
files_prop a b = Coded-set (coded_option (coded_list (coded× (coded_list coded_ℕ) (coded_list coded_ℕ)))) a b

NoteTells-prop : (files : Files) (act : Act) (note : ShelfNote) → IsProp (NoteTells files act note)
NoteTells-prop files (act.NewView (Some path)) (Held bytes) = had_prop _ _
NoteTells-prop files (act.NewView (Some path)) Absent = had_prop _ _
NoteTells-prop files (act.NewView (Some path)) NoCall = Unit-prop
NoteTells-prop files (act.NewView (Some path)) Failed = Unit-prop
NoteTells-prop files (act.NewView (Some path)) Done = Unit-prop
NoteTells-prop files (act.NewView None) note = Unit-prop
NoteTells-prop files (act.Bad fault) note = Unit-prop
NoteTells-prop files act.Nothing note = Unit-prop
NoteTells-prop files (act.Configure changes) note = Unit-prop
NoteTells-prop files (act.CloseView view) note = Unit-prop
NoteTells-prop files (act.Save view path) note = Unit-prop
NoteTells-prop files (act.Edit view edit) note = Unit-prop
NoteTells-prop files (act.PluginEdit view rev delta priority after_cursor author named) note = Unit-prop
NoteTells-prop files (act.GetData view rev start max) note = Unit-prop
NoteTells-prop files (act.UpdateSpans view rev start len spans) note = Unit-prop
NoteTells-prop files (act.LineCount view) note = Unit-prop
NoteTells-prop files (act.Alert msg) note = Unit-prop
NoteTells-prop files (act.Ack view rev) note = Unit-prop
NoteTells-prop files act.Ended note = Unit-prop
NoteTells-prop files act.Closing note = Unit-prop

tells_prop : (had : Option Files) (act : Act) (note : ShelfNote) → IsProp (IfSome had (λ files. NoteTells files act note))
tells_prop None act note = Unit-prop
tells_prop (Some files) act note = NoteTells-prop files act note

pub IsNoted-known : (before after : ShelfState) (views : List OpenView) (act : Act) (note : ShelfNote) → ∥ IsNoted before after views act note ∥₁ →
    IsNoted before after views act note
IsNoted-known before after views act note known = record {
  kind = ∥∥₁_elim known (Bool-set _ _) (λ noted. noted.kind);
  asked = ∥∥₁_elim known (Bool-set _ _) (λ noted. noted.asked);
  files = ∥∥₁_elim known (files_prop _ _) (λ noted. noted.files);
  tells = ∥∥₁_elim known (tells_prop before.files act note) (λ noted. noted.tells);
  stays = ∥∥₁_elim known le_prop (λ noted. noted.stays);
  failed = λ is. Rose-known before.faults after.faults (∥∥₁_map known (λ noted. noted.failed is));
}
