-- Plugins that get their passes in order.
use Rattle.std.proofs.Common.{◌≡◌, ℕ, ◌+◌, List, [], ◌∷◌, ◌++◌, length, refl, ap, sym, ◌∙◌, subst, arith}
use Rattle.atomic_table.specs.Seated.{TableId}
use Rattle.xi_plain.specs.declared.entry.Entry.{Entry}
use Rattle.xi_plain.specs.declared.ask.Ask.{Ask}
use Rattle.room_lock.specs.Room.{Known, next_pass, own}
use Rattle.plugin_session.specs.Alone.{IsReady}
use Rattle.plugin_session.specs.Hired.{Hiring}
use Rattle.plugin_session.specs.Worker.{MayWork}
use Rattle.plugin_crew.specs.Threads.{AreGiven, IsGiven}

-- the next pass is one of a plugin that may work
pub may_next : {O : Type 0} (fits : O → ℕ → Ask → Type 0) (legal : O → List Entry → Type 0) (room : TableId) (first : O) (front pass : Known) →
    front.room ≡ room → pass ≡ next_pass front → own pass ≡ [] → IsReady fits front.made first → legal first front.seen →
    MayWork fits legal room first pass
may_next fits legal room first front pass here is fresh ready lawful =
    record {
      here = ap (λ (p : Known). p.room) is ∙ here;
      usable = record {
        ready = subst (λ (p : Known). IsReady fits p.caller first) (sym is) ready;
        lawful = subst (λ (p : Known). legal first p.seen) (sym is) lawful;
      };
      fresh = fresh;
    }

-- and its plugin was given it
pub given_next : {O P : Type 0} (room : TableId) (first : O) (front pass : Known) (hired post : Hiring O P) → front.room ≡ room →
    pass ≡ next_pass front → hired.first ≡ first → hired.pass ≡ pass → post ≡ hired → IsGiven room first front.made post
given_next room first front pass hired post here is object pass_is same =
    let known = ap (λ h. h.pass) same ∙ pass_is ∙ is in
    record {
      object = ap (λ h. h.first) same ∙ object;
      here = ap (λ (p : Known). p.room) known ∙ here;
      number = ap (λ (p : Known). p.caller) known;
    }

-- one more is given
pub given_snoc : {O P : Type 0} (room : TableId) (first : O) (caller count : ℕ) (givens : List (Hiring O P)) (given : Hiring O P) →
    length givens ≡ count → AreGiven room first caller givens → IsGiven room first (caller + count) given →
    AreGiven room first caller (givens ++ given ∷ [])
given_snoc room first caller count [] given long are is = (subst (λ c. IsGiven room first c given) (omega (arith, long)) is, tt)
given_snoc room first caller count (other ∷ givens) given long (head, are) is = (
  head,
  given_snoc room first (caller + 1) (length givens) givens given refl are (subst (λ c. IsGiven room first c given) (omega (arith, long)) is),
)
