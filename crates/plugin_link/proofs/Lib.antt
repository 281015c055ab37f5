mod TurnLemmas
mod CallLemmas
mod PullLemmas
