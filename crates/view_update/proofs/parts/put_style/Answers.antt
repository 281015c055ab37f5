use Rattle.std.proofs.Common.{codes}
use Rattle.view_update.proofs.Made.{OnOk-gives}
use Rattle.view_update.proofs.Joined.{count_given, style_tokens}
use Rattle.view_update.proofs.parts.put_style.Goals as goal

pub returns-clause-added : goal.returns-clause-added
returns-clause-added c =
    let bg = count_given (codes "bg_color") c.wide.result c.args.style.bg_color c.begin_object.new.self c.put_count.new.out c.wide.ensures c.in_ok-put_count.ensures.added in
    let fg = count_given (codes "fg_color") c.wide-2.result c.args.style.fg_color c.put_count.new.out c.put_count-2.new.out c.wide-2.ensures c.in_ok-put_count-2.ensures.added in
    let weight = count_given (codes "weight") c.wide-3.result c.args.style.weight c.put_truth-2.new.out c.put_count-4.new.out c.wide-3.ensures c.in_ok-put_count-4.ensures.added in
    OnOk-gives _ _ c.end_object.result
    (style_tokens c.args.id c.args.style c.args.out.now c.begin_object.new.self c.put_count.new.out c.put_count-2.new.out c.put_count-3.new.out c.put_truth.new.out c.put_truth-2.new.out c.put_count-4.new.out
    c.end_object.new.self c.in_ok-begin_object.ensures.added bg fg c.in_ok-put_count-3.ensures.added c.in_ok-put_truth.ensures c.in_ok-put_truth-2.ensures weight)
    c.end_object.ensures.added
