use Rattle.std.proofs.Common.{ℕ}
use Rattle.event_engine.specs.Starts.{AreFirstSeats}
use Rattle.event_engine.proofs.start.start_tasks.Given as goal

abbrev pub invariant-loop-n : goal.invariant-loop-n
invariant-loop-n g l = record {
  first : AreFirstSeats (g.N.IdMaker.tells l.fn.ids) g.N.I.Ids.tells l.plan l.n l.tasks.items;
  kept : (words : ℕ → ℕ → ℕ) → g.N.IdMaker.tells l.fn.ids words → g.N.IdMaker.tells l.ids words;
}
