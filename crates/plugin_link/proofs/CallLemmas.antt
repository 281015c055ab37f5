-- Lemmas on several calls of a link, and on turns one after the other.
use Rattle.std.proofs.Common.{◌≡◌, ℕ, inl, inr, false, List, [], ◌∷◌, ◌++◌, Option, Some, None, refl, ap, sym, subst, ◌∙◌, append_assoc, arith}
use Rattle.std.specs.Prelude.{is_some}
use Rattle.std.specs.List.{flat_map}
use Rattle.std.specs.Option.{option_map}
use Rattle.outside.specs.Source.{Gives}
use Rattle.outside.specs.Sink.{Gains}
use Rattle.outside.proofs.ForCallers.{Gains-append, Gains-none, Gives-append, Rose-earlier}
use Rattle.std.specs.List.{AllByRecursion}
use Rattle.plugin_link.specs.Turns.{IsLine, lined, framed, turns}
use Rattle.plugin_link.specs.Link.{LinkTold, Pulls, Pushes}
use Rattle.plugin_link.specs.Pulling.{IsShortLine}
use Rattle.plugin_link.specs.Pushing.{IsPartly}
use Rattle.plugin_link.specs.Turning.{LinkStanding, HasTurned, HasTurnedBy, IsAnswered, Trades, to_come}
use Rattle.plugin_link.specs.Laws.{ManyTurns}
use Rattle.plugin_link.specs.declared.link_end.LinkEnd.{LinkEnd}
use Rattle.plugin_link.proofs.TurnLemmas.{turns-first}

-- ---- calls

pub Pulls-append : (a b c : LinkTold) (xs ys : List ℕ) → Pulls a b xs → Pulls b c ys → Pulls a c (xs ++ ys)
Pulls-append a b c xs ys p q =
    record { gives = Gives-append a.left b.left c.left xs ys p.gives q.gives; held = q.held ∙ p.held; faults = omega (arith, p.faults, q.faults) }

pub Pushes-append : (a b c : LinkTold) (xs ys : List ℕ) → Pushes a b xs → Pushes b c ys → Pushes a c (xs ++ ys)
Pushes-append a b c xs ys p q =
    record { gains = Gains-append a.held b.held c.held xs ys p.gains q.gains; left = q.left ∙ p.left; faults = omega (arith, p.faults, q.faults) }

-- a beginning of the second of two pieces, after the first
pub partly_later : (a b c : LinkTold) (whole xs ys : List ℕ) → whole ≡ xs ++ ys → Pushes a b xs → IsPartly b c ys → IsPartly a c whole
partly_later a b c whole xs ys is p q =
    record {
      put = xs ++ q.put;
      missing = q.missing;
      pushes = Pushes-append a b c xs q.put p q.pushes;
      parts = is ∙ ap (λ rest. xs ++ rest) q.parts ∙ sym (append_assoc xs q.put q.missing);
      some = q.some;
      rose = Rose-earlier a.faults b.faults c.faults p.faults q.rose;
    }

-- ---- turns one after the other

abbrev bytes_in : Option (List ℕ) → List ℕ
bytes_in None = []
bytes_in (Some bytes) = bytes

-- what was to come is a turn and what is to come
came : (l m : Option (List ℕ)) (kept after got bytes : List ℕ) (given : List (List ℕ)) → Gives l m got →
    option_map (λ left. kept ++ left) l ≡ Some bytes → kept ++ got ≡ framed given ++ after →
    (rest : List ℕ) × (option_map (λ left. after ++ left) m ≡ Some rest) × (bytes ≡ framed given ++ rest)
came None m kept after got bytes given gives at parts = absurd cc
came (Some x) None kept after got bytes given gives at parts = absurd gives
came (Some x) (Some y) kept after got bytes given gives at parts = (
  after ++ y,
  refl,
  sym (ap bytes_in at) ∙ ap (λ left. kept ++ left) gives ∙ sym (append_assoc kept got y) ∙ ap (λ first. first ++ y) parts ∙
      append_assoc (framed given) after y,
)

each_line : (lines : List (List ℕ)) → AllByRecursion IsShortLine lines → AllByRecursion IsLine lines
each_line [] each = tt
each_line (line ∷ lines) each = (each.0.0, each_line lines each.1)

none_from : (end : Option LinkEnd) → false ≡ is_some end → end ≡ None
none_from None is = refl
none_from (Some end) is = absurd cc

-- what a turn that is not done did
abbrev Went : LinkStanding → LinkStanding → List (List ℕ) → List (List ℕ) → Type 0
Went old next handed given = IsAnswered old.told next.told old.kept next.kept (framed handed) given None

went_by : (old next : LinkStanding) (handed given : List (List ℕ)) → Trades old.told next.told old.kept next.kept handed given None → Went old next handed given
went_by old next handed given (inl short) = let never = short.0 in absurd cc
went_by old next handed given (inr answered) = answered

went : (old next : LinkStanding) (handed given : List (List ℕ)) → old.end ≡ None → HasTurned old next handed given false → (next.end ≡ None) × Went old next handed given
went old next handed given none turned =
    let At : Option LinkEnd → Type 0 = λ end. HasTurnedBy end old next handed given false in
    let here = subst At none turned in
    let open_still = none_from next.end here.1 in
    let By : Option LinkEnd → Type 0 = λ end. Trades old.told next.told old.kept next.kept handed given end in
    (open_still, went_by old next handed given (subst By open_still here.0))

pub many_turns : ManyTurns
many_turns old new [] bytes none had at =
    let At : LinkStanding → Type 0 = λ standing. Gains old.told.held standing.told.held [] in
    ((bytes, ap to_come had ∙ at, refl), subst At (sym had) (Gains-none old.told.held))
many_turns old new (turn ∷ more) bytes none (next, turned, later) at =
    let (still, did) = went old next turn.0 turn.1 none turned in
    let has = did.reads.has in
    let gives : Gives old.told.left next.told.left has.got =
    subst (λ left. Gives left next.told.left has.got) did.pushes.left has.pulls.gives in
    let parts : old.kept ++ has.got ≡ framed turn.1 ++ next.kept =
    has.parts ∙ ap (λ rest. lined turn.1 ++ rest) did.reads.by.0 ∙ sym (append_assoc (lined turn.1) (10 ∷ []) next.kept) in
    let (rest, to, is) = came old.told.left next.told.left old.kept next.kept has.got bytes turn.1 gives at parts in
    let ((last, end, turned_all), gained) = many_turns next new more rest still later to in
    let first : Gains old.told.held next.told.held (framed turn.0) =
    subst (λ held. Gains old.told.held held (framed turn.0)) (sym has.pulls.held) did.pushes.gains in (
      (last, end, ap turns is ∙ turns-first turn.1 rest (each_line turn.1 has.lines) ∙ ap (λ all. turn.1 ∷ all) turned_all),
      Gains-append old.told.held next.told.held new.told.held (framed turn.0) (flat_map (λ one. framed one.0) more) first gained,
    )
