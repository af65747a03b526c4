use Rattle.std.proofs.Common.{◌≡◌, ◌+◌, ◌≤◌, ◌++◌, filter, length, not}
use Rattle.std.specs.Prelude.{vec_len, vec_capacity}
use Rattle.replay_pending.specs.InFlight.{is_late}
use Rattle.replay_pending.proofs.places.move_late.Given as goal

abbrev pub invariant-loop-place : goal.invariant-loop-place
invariant-loop-place g l = record {
  told :
      l.told.items ++ filter (is_late l.fn.buckets l.fn.tick) l.entries.items
      ≡ l.fn.told.items ++ filter (is_late l.fn.buckets l.fn.tick) l.fn.entries.items;
  kept :
      filter (λ e. not (is_late l.fn.buckets l.fn.tick e)) l.entries.items
      ≡ filter (λ e. not (is_late l.fn.buckets l.fn.tick e)) l.fn.entries.items;
  room : vec_len l.told + length (filter (is_late l.fn.buckets l.fn.tick) l.entries.items) ≤ vec_capacity l.told;
}

abbrev pub decreases-loop-place : goal.decreases-loop-place
decreases-loop-place g l = vec_len l.entries
