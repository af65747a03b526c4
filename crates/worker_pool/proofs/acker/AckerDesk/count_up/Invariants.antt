use Rattle.worker_pool.proofs.Acking.{Rotates}
use Rattle.worker_pool.proofs.acker.AckerDesk.count_up.Given as goal

abbrev pub invariant-loop-done : goal.invariant-loop-done
invariant-loop-done l = record {
  rotates : Rotates l.fn.self l.self l._done;
}
