use Rattle.std.proofs.Common.{◌++◌, ◌∷◌, [], refl, sym, ap, subst, ◌∙◌, arith, append_assoc, append-nil}
use Rattle.std.specs.Str.{chars}
use Rattle.line_break.specs.Test.{AreBreaksFrom}
use Rattle.line_break.proofs.LookLemmas.{StandsAt-le}
use Rattle.line_break.proofs.TestLemmas.{AreBreaksFrom-more}
use Rattle.line_break.proofs.wrap.wrapped.Goals as goal

pub loop-next-smaller : goal.loop-next-smaller
loop-next-smaller c =
    let line = c.args.line.now in
    let ahead = c.in-Some.ensures.ahead in
    let moved = c.in_ok-at.ensures in
    omega (arith, ahead.past, moved.order, StandsAt-le line.tab (chars line.text.now) c.in_ok-at.at line.scalars moved.stands)

pub loop-next-preserved : goal.loop-next-preserved
loop-next-preserved c =
    let line = c.args.line.now in
    let text = chars line.text.now in
    let ahead = c.in-Some.ensures.ahead in
    let end = c.in-Some.next.end in
    let le = StandsAt-le line.tab text c.in-Some.next line.scalars ahead.stands in
    let adds = c.in_ok-at.ensures.pieces in
    record {
      stands = c.in_ok-at.ensures.stands;
      so_far = λ rest are.
          subst (AreBreaksFrom line.width line.tab text 0)
          (sym (ap (λ items. items ++ rest) adds.is ∙ append_assoc _ adds.more rest ∙ ap (λ items. items ++ (adds.more ++ rest)) c.in_ok-push.ensures.items ∙
          append_assoc c.loop-next.ends.items (end ∷ []) (adds.more ++ rest)))
          (c.loop-next.invariant.so_far (end ∷ adds.more ++ rest)
          (AreBreaksFrom-more line.width line.tab text c.loop-next.at.end end (adds.more ++ rest) line.scalars ahead.past le c.in-Some.ensures.end
          (adds.breaks rest are)));
    }

pub returns : goal.returns
returns c =
    let line = c.args.line.now in
    subst (AreBreaksFrom line.width line.tab (chars line.text.now) 0) (append-nil c.loop-next.ends.items ∙ sym c.from_vec.ensures)
    (c.loop-next.invariant.so_far [] (c.in_default.ensures.none.0 refl))
