mod CauseLemmas
mod LoadLemmas
mod ReplayLemmas
mod RunLemmas
