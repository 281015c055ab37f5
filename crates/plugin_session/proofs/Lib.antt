mod AloneLemmas
mod AskingLemmas
mod CallLemmas
mod DoorLemmas
pub mod ForCallers
mod PortLemmas
mod SessionLemmas
mod ShortLemmas
mod StartLemmas
mod SeatLemmas
mod VisitLemmas
mod WholeLemmas
mod WorkerLemmas
