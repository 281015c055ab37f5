mod CutLemmas
pub mod ForCallers
mod ScriptLemmas
mod TextLemmas
