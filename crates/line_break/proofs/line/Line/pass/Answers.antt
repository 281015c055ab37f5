use Rattle.std.proofs.Common.{◌&&◌, ◌||◌, ◌==◌, nat_le, refl, ap, subst, ◌∙◌, arith}
use Rattle.std.specs.Str.{chars}
use Rattle.cluster_core.specs.Walk.{placed_view}
use Rattle.line_break.specs.Inner.{IsLater}
use Rattle.line_break.proofs.LookLemmas.{Looked-step}
use Rattle.line_break.proofs.line.Line.pass.Goals as goal

pub shown_columns-columns-requires-clause-reached : goal.shown_columns-columns-requires-clause-reached
shown_columns-columns-requires-clause-reached c = λ shown. omega (arith, c.requires.reached shown)

pub returns : goal.returns
returns c = λ start s.
    let self = c.args.self.now in
    let look = c.args.look.now in
    let item = placed_view c.args.cluster in
    let columns = c.shown_columns-columns.result in
    let tail = c.args.tail in
    let rest = c.args.rest.now in
    Looked-step self.width self.tab (chars self.text.now) start look _ item tail rest columns self.scalars c.requires.tail c.requires.tab
    c.shown_columns-columns.ensures.none c.shown_columns-columns.ensures.some refl c.solid_columns-look.ensures
    (subst (λ b. IsLater look.candidate b item.end rest c.take_later.new.place)
    (c.is_candidate-ends.ensures ∙ ap (λ n. nat_le columns self.width && (item.end == n || tail.breaks)) self.counted) c.take_later.ensures)
    (subst (λ b. IsLater look.fitting b item.end rest c.take_later-2.new.place) c.is_first_or-takes.ensures c.take_later-2.ensures) s
