mod RangeLemmas
mod StepLemmas
mod StayLemmas
mod AheadLemmas
mod PlanLemmas
mod TurnLemmas
mod FewLemmas
mod TakenLemmas
mod LawLemmas
mod NearLemmas
mod OpsLemmas
mod ToldLemmas
mod NextLemmas
mod ScreenLemmas
pub mod ForCallers
