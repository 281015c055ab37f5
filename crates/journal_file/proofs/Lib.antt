mod FileLemmas
mod LinedLemmas
