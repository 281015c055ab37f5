-- What other crates may cite of screens, plans and views.
pub mod ScreenLemmas
pub mod SameLemmas
pub mod PlanLemmas
pub mod TouchedLemmas
pub mod ViewLemmas
pub mod OwnLemmas
