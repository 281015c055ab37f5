-- An edit that is walked part by part, with its first change and its last so far.
use Rattle.std.proofs.Common.{◌≡◌, ◌≢◌, inl, inr, ℕ, zero, suc, ◌+◌, ◌<◌, false, List, [], ◌∷◌, ◌++◌, length, map, replicate, Option, Some, None, refl, ap, ap₂, sym, subst, ◌∙◌, arith, append-nil, append_assoc}
use Rattle.std.proofs.lemmas.List.{length-replicate, replicate-append-replicate}
use Rattle.plain_text.specs.declared.run.Run.{Run}
use Rattle.plain_edits.specs.declared.delta.UnitDelta.{UnitDelta}
use Rattle.delta_core.specs.UnitStep.{UnitStep, Kept, Dropped, New, steps_of}
use Rattle.delta_core.specs.Inner.{base_count}
use Rattle.delta_core.proofs.ForCallers.{IsMaking-start}
use Rattle.line_index.specs.Index.{is_kept}
use Rattle.line_index.specs.Inner.{start_or, AreChanges, IsChange, IsChangedTo, IsSeen, IsSeenUpTo, IsTouched}
use Rattle.line_index.proofs.ChangedLemmas.{base_count-append, base_count-kept}

-- ---- parts that change

pub changes-dropped : (n : ℕ) → AreChanges (replicate n Dropped)
changes-dropped zero = tt
changes-dropped (suc n) = (refl, changes-dropped n)

pub changes-added : (text : List ℕ) → AreChanges (map New text)
changes-added [] = tt
changes-added (c ∷ text) = (refl, changes-added text)

pub base_count-dropped : (n : ℕ) → base_count (replicate n Dropped) ≡ n
base_count-dropped zero = refl
base_count-dropped (suc n) = omega (arith, base_count-dropped n)

pub base_count-added : (text : List ℕ) → base_count (map New text) ≡ 0
base_count-added [] = refl
base_count-added (c ∷ text) = base_count-added text

last-change : (step : UnitStep) (steps : List UnitStep) → AreChanges (step ∷ steps) →
    (earlier : List UnitStep) × (last : UnitStep) × (step ∷ steps ≡ earlier ++ last ∷ []) × (is_kept last ≡ false)
last-change step [] are = ([], step, refl, are.0)
last-change step (next ∷ steps) are =
    let more = last-change next steps are.1 in (step ∷ more.0, more.1, ap (λ (xs : List UnitStep). step ∷ xs) more.2, more.3)

IsChange-part : (part : List UnitStep) → part ≢ [] → AreChanges part → IsChange part
IsChange-part [] some are = absurd (some refl)
IsChange-part (step ∷ steps) some are =
    let last = last-change step steps are in
    record { first = step; later = steps; begins = refl; changes = are.0; earlier = last.0; last = last.1; ends = last.2; too = last.3 }

-- ---- what is seen with one part more

pub seen-kept : (done : List UnitStep) (changed : Option Run) (at n : ℕ) → IsSeen done changed at → IsSeen (done ++ replicate n Kept) changed (at + n)
seen-kept done None at n seen = ap (λ (xs : List UnitStep). xs ++ replicate n Kept) seen ∙ replicate-append-replicate at n Kept
seen-kept done (Some run) at n seen =
    let front : List UnitStep = replicate run.start Kept in
    let tail : List UnitStep = replicate seen.right Kept in
    record {
      middle = seen.middle;
      right = seen.right + n;
      around = record {
        is =
            ap (λ (xs : List UnitStep). xs ++ replicate n Kept) seen.around.is ∙ append_assoc front (seen.middle ++ tail) (replicate n Kept) ∙
            ap (λ (xs : List UnitStep). front ++ xs)
            (append_assoc seen.middle tail (replicate n Kept) ∙
            ap (λ (xs : List UnitStep). seen.middle ++ xs) (replicate-append-replicate seen.right n Kept));
        to = seen.around.to;
      };
      change = seen.change;
      reaches = omega (arith, seen.reaches);
    }

pub seen-changed : (done part : List UnitStep) (changed : Option Run) (at to start : ℕ) → part ≢ [] → AreChanges part → at + base_count part ≡ to →
    start ≡ start_or changed at → IsSeen done changed at → IsChangedTo (done ++ part) (record { start = start; end = to }) to
seen-changed done part None at to start some are count from seen = record {
  middle = part;
  right = 0;
  around = record {
    is =
        ap₂ (λ (xs ys : List UnitStep). xs ++ ys) seen (sym (append-nil part)) ∙
        ap (λ (n : ℕ). replicate n Kept ++ (part ++ [])) (sym from);
    to = omega (arith, count, from);
  };
  change = IsChange-part part some are;
  reaches = omega arith;
}
seen-changed done part (Some run) at to start some are count from seen = record {
  middle = seen.middle ++ more;
  right = 0;
  around = record {
    is =
        ap (λ (xs : List UnitStep). xs ++ part) seen.around.is ∙ append_assoc front (seen.middle ++ tail) part ∙
        ap (λ (xs : List UnitStep). front ++ xs) (append_assoc seen.middle tail part ∙ sym (append-nil (seen.middle ++ more))) ∙
        ap (λ (n : ℕ). replicate n Kept ++ ((seen.middle ++ more) ++ [])) (sym from);
    to =
        omega (
          arith,
          from,
          count,
          seen.around.to,
          seen.reaches,
          base_count-append seen.middle more,
          base_count-append tail part,
          base_count-kept seen.right,
        );
  };
  change =
      let ended = IsChange-part part some are in
      record {
        first = seen.change.first;
        later = seen.change.later ++ more;
        begins = ap (λ (xs : List UnitStep). xs ++ more) seen.change.begins;
        changes = seen.change.changes;
        earlier = seen.middle ++ (tail ++ ended.earlier);
        last = ended.last;
        ends =
            ap (λ (xs : List UnitStep). seen.middle ++ (tail ++ xs)) ended.ends ∙
            ap (λ (xs : List UnitStep). seen.middle ++ xs) (sym (append_assoc tail ended.earlier (ended.last ∷ []))) ∙
            sym (append_assoc seen.middle (tail ++ ended.earlier) (ended.last ∷ []));
        too = ended.too;
      };
  reaches = omega arith;
}
  where
    front : List UnitStep
    front = replicate run.start Kept

    tail : List UnitStep
    tail = replicate seen.right Kept

    more : List UnitStep
    more = tail ++ part

-- the run of what is seen
pub touched-none : (done : List UnitStep) (at : ℕ) → IsSeen done None at → IsTouched done (record { start = 0; end = 0 })
touched-none done at seen = record { middle = []; right = at; around = record { is = seen; to = refl }; which = inl refl }

pub touched-some : (done : List UnitStep) (run : Run) (at : ℕ) → IsSeen done (Some run) at → IsTouched done run
touched-some done run at seen = record { middle = seen.middle; right = seen.right; around = seen.around; which = inr seen.change }

-- ---- the walk

pub count-steps : (units : UnitDelta) → base_count (steps_of units) ≡ units.base
count-steps units =
    let text : List ℕ = replicate units.base 0 in
    let making = IsMaking-start units (steps_of units) text text (sym (length-replicate units.base 0)) refl refl in
    making.room ∙ length-replicate units.base 0

pub room-next : (all rest part more : List UnitStep) (changed : Option Run) (at : ℕ) → IsSeenUpTo all rest changed at → rest ≡ part ++ more →
    at + base_count part + base_count more ≡ base_count all
room-next all rest part more changed at seen next =
    omega (
      arith,
      seen.count,
      ap base_count seen.cut,
      base_count-append seen.done rest,
      ap base_count next,
      base_count-append part more,
    )

pub seen-next : (all rest part more : List UnitStep) (changed then : Option Run) (at to : ℕ) → IsSeenUpTo all rest changed at → rest ≡ part ++ more →
    to ≡ at + base_count part → ((done : List UnitStep) → IsSeen done changed at → IsSeen (done ++ part) then to) → IsSeenUpTo all more then to
seen-next all rest part more changed then at to seen next count goes = record {
  done = seen.done ++ part;
  cut = append_assoc seen.done part more ∙ ap (λ (xs : List UnitStep). seen.done ++ xs) (sym next) ∙ seen.cut;
  count = omega (arith, base_count-append seen.done part, seen.count, count);
  seen = goes seen.done seen.seen;
}

pub seen-all : (all rest : List UnitStep) (changed : Option Run) (at : ℕ) (run : Run) → IsSeenUpTo all rest changed at → rest ≡ [] →
    ((done : List UnitStep) → IsSeen done changed at → IsTouched done run) → IsTouched all run
seen-all all rest changed at run seen none goes =
    let whole : seen.done ≡ all = sym (append-nil seen.done) ∙ ap (λ (xs : List UnitStep). seen.done ++ xs) (sym none) ∙ seen.cut in
    subst (λ (steps : List UnitStep). IsTouched steps run) whole (goes seen.done seen.seen)

pub some-steps : (part : List UnitStep) → 0 < length part → part ≢ []
some-steps [] some none = omega arith
some-steps (step ∷ part) some none = cc
