use Rattle.std.proofs.Common.{◌≡◌, ◌+◌, ap, arith, ◌∙◌, refl}
use Rattle.std.specs.Prelude.{max}
use Rattle.match_index.specs.Found.{Found}
use Rattle.match_index.specs.Inner.{strides_under}
use Rattle.match_index.specs.Strides.{span, span-append}
use Rattle.match_index.proofs.WindowLemmas.{last-by, look-goes, look-rises, looked-fits, looked-is}
use Rattle.match_index.proofs.search.Search.look.Goals as goal

pub last-requires : goal.last-requires
last-requires c = omega (arith, last-by c.args.self.now c.args.walked.now c.requires.walked, c.requires.ahead, c.ranges.to.fits)

pub overflow_sub-walked : goal.overflow_sub-walked
overflow_sub-walked c = omega (arith, last-by c.args.self.now c.args.walked.now c.requires.walked, c.last.ensures)

pub numbers_of-requires : goal.numbers_of-requires
numbers_of-requires c =
    let own : Found = record { text = c.self.inside.rope.now; chars = c.self.inside.chars.now; fold = c.self.inside.fold } in
    let walked = rw (← c.self.view_is) at c.requires.walked in
    let some = rw (← c.self.view_is) at c.requires.some in
    let inside = rw (← c.self.view_is) at c.requires.inside in
    let end = rw (← c.self.view_is) at c.window_end.ensures in
    look-rises own c.args.walked.now c.args.to c.last.result c.window_end.result c.in_ok-window.window c.as_slice.result.now walked some c.requires.ahead inside
    c.last.ensures end c.in_ok-window.ensures (c.as_slice.ensures ∙ c.in_ok-runs.ensures) (omega (arith, c.len-count.ensures.count, c.len-count.type_inv))

pub put-requires : goal.put-requires
put-requires c =
    let own : Found = record { text = c.self.inside.rope.now; chars = c.self.inside.chars.now; fold = c.self.inside.fold } in
    let walked = rw (← c.self.view_is) at c.requires.walked in
    let some = rw (← c.self.view_is) at c.requires.some in
    let inside = rw (← c.self.view_is) at c.requires.inside in
    let end = rw (← c.self.view_is) at c.window_end.ensures in
    let goes =
    look-goes own c.args.walked.now c.args.to c.last.result c.window_end.result c.in_ok-window.window c.as_slice.result.now walked some c.requires.ahead inside
    c.last.ensures end c.in_ok-window.ensures (c.as_slice.ensures ∙ c.in_ok-runs.ensures) c.deref.result.now (c.deref.ensures.value ∙ c.in_ok-numbers.ensures) in
    looked-fits own c.args.walked.now c.args.to c.last.result c.deref.result.now goes some (omega (arith, c.len-count.ensures.count, c.len-count.type_inv))

pub last-requires-2 : goal.last-requires-2
last-requires-2 c =
    let own : Found = record { text = c.self.inside.rope.now; chars = c.self.inside.chars.now; fold = c.self.inside.fold } in
    let walked = rw (← c.self.view_is) at c.requires.walked in
    let some = rw (← c.self.view_is) at c.requires.some in
    let inside = rw (← c.self.view_is) at c.requires.inside in
    let end = rw (← c.self.view_is) at c.window_end.ensures in
    let goes =
    look-goes own c.args.walked.now c.args.to c.last.result c.window_end.result c.in_ok-window.window c.as_slice.result.now walked some c.requires.ahead inside
    c.last.ensures end c.in_ok-window.ensures (c.as_slice.ensures ∙ c.in_ok-runs.ensures) c.deref.result.now (c.deref.ensures.value ∙ c.in_ok-numbers.ensures) in
    let within = goes.inside in
    omega (
      arith,
      within,
      c.last.ensures,
      ap span c.in_ok-put.ensures,
      span-append (strides_under c.args.walked.now.strides) c.deref.result.now,
      c.len-count.ensures.count,
      c.len-count.type_inv,
    )

pub returns-clause-walked : goal.returns-clause-walked
returns-clause-walked c =
    let own : Found = record { text = c.self.inside.rope.now; chars = c.self.inside.chars.now; fold = c.self.inside.fold } in
    let walked = rw (← c.self.view_is) at c.requires.walked in
    let some = rw (← c.self.view_is) at c.requires.some in
    let inside = rw (← c.self.view_is) at c.requires.inside in
    let end = rw (← c.self.view_is) at c.window_end.ensures in
    let goes =
    look-goes own c.args.walked.now c.args.to c.last.result c.window_end.result c.in_ok-window.window c.as_slice.result.now walked some c.requires.ahead inside
    c.last.ensures end c.in_ok-window.ensures (c.as_slice.ensures ∙ c.in_ok-runs.ensures) c.deref.result.now (c.deref.ensures.value ∙ c.in_ok-numbers.ensures) in
    let stop : c.max-walked.result ≡ max c.args.to (c.last.result + span c.deref.result.now) =
    omega (
      arith,
      c.max-walked.ensures,
      c.last-2.ensures,
      c.last.ensures,
      ap span c.in_ok-put.ensures,
      span-append (strides_under c.args.walked.now.strides) c.deref.result.now,
    ) in
    rw (← c.self.view_is) (looked-is own c.args.walked.now _ c.args.to c.last.result c.deref.result.now goes c.in_ok-put.ensures refl refl stop)
