mod LoadLemmas
mod TableLemmas
