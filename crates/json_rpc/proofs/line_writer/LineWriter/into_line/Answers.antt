use Rattle.std.proofs.Common.{IsUtf8, sym, ◌∙◌, subst}
use Rattle.std.proofs.lemmas.Bool.{false≢true}
use Rattle.json_rpc.proofs.Tokens.{IsUtf8-ended, IsLineOf-value_then, ended_after}
use Rattle.json_rpc.proofs.line_writer.LineWriter.into_line.Goals as goal

pub unreachable-requires : goal.unreachable-requires
unreachable-requires c =
    let bytes = ended_after _ _ _ _ c.self.invariant c.into_inner-bytes.ensures.items c.in_ok-push.ensures.items in
    false≢true (c.in-Err.ensures.utf8.1 (subst IsUtf8 (sym bytes) (IsUtf8-ended _ c.into_inner-bytes.ensures.utf8)))

pub returns : goal.returns
returns c = λ d is proper whole shallow.
    let bytes = ended_after _ _ _ _ c.self.invariant c.into_inner-bytes.ensures.items c.in_ok-push.ensures.items in
    IsLineOf-value_then d c.self.inside.out.tokens _ (c.self.view_is ∙ is) proper whole shallow c.into_inner-bytes.ensures.utf8 (c.in-Ok.ensures.made ∙ bytes)
