use Rattle.std.proofs.Common.{arith, ap, length}
use Rattle.plain_text.proofs.callers.TextLemmas.{length-encodes}
use Rattle.plugin_mirror.proofs.LeafLemmas.{byte_len-append}
use Rattle.plugin_mirror.proofs.leaf.joined_len.Goals as goal

pub returns : goal.returns
returns c =
    let first = c.args.first.now in
    let second = c.args.second.now in
    omega (arith, length-encodes first, length-encodes second, ap length c.as_str.ensures.utf8, ap length c.as_str-2.ensures.utf8, byte_len-append first second)
