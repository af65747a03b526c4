use Rattle.std.proofs.Common.{◌≡◌, ℕ, ◌+◌, ◌-◌, not}
use Rattle.std.specs.List.{find, range_with_len}
use Rattle.commit_turns.specs.Desks.{has_txid}
use Rattle.commit_turns.specs.Turns.{free_txid}
use Rattle.commit_order.proofs.office.Office.free_txid.Given as goal

abbrev pub invariant-loop-before : goal.invariant-loop-before
invariant-loop-before l =
    free_txid l.fn.self.topology l.fn.self.cut l.fn.self.desk
    ≡ find (λ (txid : ℕ). not (has_txid txid l.fn.self.desk.pending)) (range_with_len (l.before + 1) (l.before-end - l.before))
