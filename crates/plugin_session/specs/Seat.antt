-- A DOOR TO A ROOM: what a pass has seen there.
use Rattle.std.proofs.Common.{ap, refl, sym, ◌∙◌, subst}
use Rattle.std.proofs.lemmas.List.{append_assoc, append-nil}
use Rattle.std.specs.Prelude.{◌≡◌, ℕ, List, [], ◌++◌}
use Rattle.xi_plain.specs.declared.entry.Entry.{Entry}
use Rattle.xi_plain.specs.declared.ask.Ask.{Ask}
use Rattle.xi_plain.specs.Room.{Begins}
use Rattle.room_lock.specs.Room.{Known, IsSamePass, own}
use Rattle.plugin_session.specs.Alone.{IsReady}

-- a room's door: the object that the room was made with, and the pass
pub record Seated (O : Type 0) : Type 0 where
  pub first : O
  pub pass : Known

-- the caller of the pass is one of plugins, which may ask what plugins ask, and what the pass has seen is a legal journal
pub record IsUsable {O : Type 0} (fits : O → ℕ → Ask → Type 0) (legal : O → List Entry → Type 0) (first : O) (pass : Known) : Type 0 where
  pub ready : IsReady fits pass.caller first
  pub lawful : legal first pass.seen

-- the door after some calls: object, room and caller are the same, and what was seen, and the caller's own, have grown
pub record IsFurther {O : Type 0} (before after : Seated O) : Type 0 where
  pub object : after.first ≡ before.first
  pub same : IsSamePass before.pass after.pass
  pub seen : Begins before.pass.seen after.pass.seen
  pub own : Begins (own before.pass) (own after.pass)

-- laws of this: it is so after no call, and after calls that follow calls
pub Begins-same : (a : List Entry) → Begins a a
Begins-same a = ([], sym (append-nil a))

pub Begins-trans : (a b c : List Entry) → Begins a b → Begins b c → Begins a c
Begins-trans a b c (more, is) (further, then) = (more ++ further, then ∙ ap (λ x. x ++ further) is ∙ append_assoc a more further)

pub IsFurther-same : {O : Type 0} (a : Seated O) → IsFurther a a
IsFurther-same a =
    record {
      object = refl;
      same = record { room = refl; caller = refl; made = refl };
      seen = Begins-same a.pass.seen;
      own = Begins-same (own a.pass);
    }

pub IsFurther-trans : {O : Type 0} (a b c : Seated O) → IsFurther a b → IsFurther b c → IsFurther a c
IsFurther-trans a b c one two =
    record {
      object = two.object ∙ one.object;
      same = record { room = two.same.room ∙ one.same.room; caller = two.same.caller ∙ one.same.caller; made = two.same.made ∙ one.same.made };
      seen = Begins-trans a.pass.seen b.pass.seen c.pass.seen one.seen two.seen;
      own = Begins-trans (own a.pass) (own b.pass) (own c.pass) one.own two.own;
    }

-- what is so of the object of a later door is so of the former's
pub object_on : {O : Type 0} (P : O → Type 0) (before after : Seated O) → IsFurther before after → P after.first → P before.first
object_on P before after further is = subst P further.object is
