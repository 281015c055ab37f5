pub mod SeatLemmas
pub mod FrontLemmas
pub mod EndLemmas
mod PieceLemmas
mod ScreenLemmas
mod StormLemmas
mod SummaryLemmas
