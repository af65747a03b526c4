mod TickingLemmas
