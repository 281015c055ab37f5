use Rattle.std.proofs.Common.{◌≡◌, ◌-◌, take, drop, sym, subst, arith}
use Rattle.cluster_core.specs.Plain.{BeginsAlone, ComesApart}
use Rattle.cluster_core.proofs.FirstLemmas.{BeginsAlone-but_last, BeginsAlone-take_printable, IsPast-alone}
use Rattle.cluster_core.proofs.first.first_alone.Goals as goal

pub returns-then-is_joined-clause-begins : goal.returns-then-is_joined-clause-begins
returns-then-is_joined-clause-begins c =
    let bytes = c.as_bytes-bytes.result.now in
    let n = c.printable_len.result in
    let less = c.saturating_sub.result in
    let is : less ≡ n - 1 = omega (arith, c.saturating_sub.ensures, c.split_at.ensures.front_len) in
    subst (BeginsAlone c.args.line.now) (sym c.split_at-then-is_joined.ensures.front)
    (subst (λ line. BeginsAlone line (take less bytes)) c.as_bytes-bytes.ensures.value
    (BeginsAlone-but_last bytes n less c.printable_len.ensures.inside c.printable_len.ensures.printable is))

pub returns-then-is_joined-clause-clusters : goal.returns-then-is_joined-clause-clusters
returns-then-is_joined-clause-clusters c =
    (IsPast-alone c.args.line.now c.split_at-then-is_joined.result.0.now c.utf8.line (returns-then-is_joined-clause-begins c)).clusters

pub returns-else-is_joined-clause-begins : goal.returns-else-is_joined-clause-begins
returns-else-is_joined-clause-begins c =
    let bytes = c.as_bytes-bytes.result.now in
    let n = c.printable_len.result in
    let apart : ComesApart (drop n bytes) = subst ComesApart c.split_at.ensures.back (c.is_joined.ensures c.if-is_joined.false) in
    subst (BeginsAlone c.args.line.now) (sym c.split_at.ensures.front)
    (subst (λ line. BeginsAlone line (take n bytes)) c.as_bytes-bytes.ensures.value
    (BeginsAlone-take_printable bytes n c.printable_len.ensures.inside c.printable_len.ensures.printable apart))

pub returns-else-is_joined-clause-clusters : goal.returns-else-is_joined-clause-clusters
returns-else-is_joined-clause-clusters c =
    (IsPast-alone c.args.line.now c.split_at.result.0.now c.utf8.line (returns-else-is_joined-clause-begins c)).clusters
