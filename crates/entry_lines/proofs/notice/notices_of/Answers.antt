use Rattle.std.proofs.Common.{◌+◌, sym, subst, arith}
use Rattle.entry_lines.proofs.Texts.{EndsInLf-line, IsNoticeText-cut, IsTellingTo, IsTellingTo-none, IsTellingTo-next, IsTellingTo-all}
use Rattle.entry_lines.proofs.notice.notices_of.Goals as goal

pub without_lf-requires : goal.without_lf-requires
without_lf-requires c = EndsInLf-line _ _ c.in_ok-notice_of.ensures.written

pub loop-told-init : goal.loop-told-init
loop-told-init c = subst (IsTellingTo c.args.news.now 0) (sym c.new-texts.ensures) (IsTellingTo-none c.args.news.now)

pub loop-told-preserved : goal.loop-told-preserved
loop-told-preserved c =
    let told = c.told-item.result in
    subst (IsTellingTo c.args.news.now (c.loop-told.told-index + 1)) (sym c.in_ok-push.ensures.pushed)
    (IsTellingTo-next c.args.news.now c.loop-told.told-index c.loop-told.texts _ told c.without_lf.result c.loop-told.invariant
    c.loop-told-test.true c.told-item.is (IsNoticeText-cut _ _ _ c.in_ok-notice_of.ensures c.without_lf.ensures))

pub returns : goal.returns
returns c =
    IsTellingTo-all c.args.news.now c.loop-told.told-index c.loop-told.texts c.loop-told.invariant (omega (arith, c.loop-told-test.false))
