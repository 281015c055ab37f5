mod PointLemmas
mod EnterLemmas
mod FollowLemmas
mod PlayLemmas
mod ReplayLemmas
mod ShowLemmas
mod LawLemmas
