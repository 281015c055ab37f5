mod SessionLemmas
mod RoundLemmas
mod MemberLemmas
mod AloneLemmas
mod PostLemmas
mod ThreadLemmas
mod PlaceLemmas
