use Rattle.std.proofs.Common.{arith}
use Rattle.subset_runs.proofs.MemberLaws.{flags_from_members, length-members_from, members_rise, member_within}
use Rattle.subset_runs.proofs.FlagLemmas.{member_iff}
use Rattle.subset_runs.proofs.laws.members_and_length.Goals as goal

pub returns-clause-same : goal.returns-clause-same
returns-clause-same c = λ xs ys same e. flags_from_members 0 xs ys same e

pub returns-clause-rise : goal.returns-clause-rise
returns-clause-rise c = λ xs. members_rise xs

pub returns-clause-within : goal.returns-clause-within
returns-clause-within c = λ xs k h. omega (arith, member_within 0 k xs h)

pub returns-clause-member : goal.returns-clause-member
returns-clause-member c = λ xs i. member_iff xs i

pub returns-clause-counted : goal.returns-clause-counted
returns-clause-counted c = λ xs. length-members_from 0 xs
