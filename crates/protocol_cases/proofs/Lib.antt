mod CaseLemmas
mod JudgeLemmas
mod PlayerLemmas
mod TurnLemmas
mod VerdictLemmas
