pub mod ViewSteps
pub mod PluginStep
pub mod PluginEffects
pub mod Session
pub mod News
pub mod Accepted
pub mod Views
pub mod InnerStep
