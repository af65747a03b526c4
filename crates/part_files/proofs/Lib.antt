mod FileLemmas
mod StoreLemmas
