use Rattle.std.proofs.Common.{refl, subst, ap₂, ◌∙◌}
use Rattle.std.specs.Str.{chars}
use Rattle.cluster_core.specs.Walk.{counted_anew, placed_view, walk_left}
use Rattle.line_break.specs.Inner.{Looked}
use Rattle.line_break.proofs.LookLemmas.{Looked-begin, IsThrough-end, IsThrough-stop}
use Rattle.line_break.proofs.line.Line.look_through.Goals as goal

pub loop-cluster-init : goal.loop-cluster-init
loop-cluster-init c =
    let tab_is = c.copy-ahead.ensures.tab ∙ c.requires.tab_width in
    record {
      looked =
          Looked-begin c.args.self.now.width c.args.self.now.tab (chars c.args.self.now.text.now) c.args.from.now _ (walk_left c.begin_piece.new.self)
          c.args.self.now.scalars c.requires (c.begin_piece.ensures.left ∙ ap₂ (λ t w. counted_anew t 0 w) tab_is c.copy-ahead.ensures.left) refl refl refl refl;
      tab = c.begin_piece.ensures.tab ∙ tab_is;
    }

pub returns-then-look-self : goal.returns-then-look-self
returns-then-look-self c =
    let self = c.args.self.now in
    let look = c.loop-cluster.look in
    IsThrough-stop self.width self.tab (chars self.text.now) c.args.from.now.end look (placed_view c.in-Some.cluster) (walk_left c.next.new.self)
    c.tail_of-tail.result self.scalars c.tail_of-tail.ensures c.if-tail-gt0.true c.if-look-self.true
    (subst (Looked self.width self.tab (chars self.text.now) c.args.from.now.end look) c.in-Some.ensures.steps.0 c.loop-cluster.invariant.looked)

pub returns : goal.returns
returns c =
    let self = c.args.self.now in
    IsThrough-end self.width self.tab (chars self.text.now) c.args.from.now.end c.loop-cluster.look (walk_left c.loop-cluster.ahead)
    self.scalars c.in_default.ensures.steps.0.0 c.loop-cluster.invariant.looked
