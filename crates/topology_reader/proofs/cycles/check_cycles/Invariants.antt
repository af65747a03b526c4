use Rattle.std.proofs.Common.{◌≡◌, ◌-◌, length, slice_index}
use Rattle.std.specs.List.{find}
use Rattle.topology_reader.proofs.Common.{range_with_len, has}
use Rattle.topology_reader.proofs.cycles.check_cycles.Given as goal

abbrev pub invariant-loop-c : goal.invariant-loop-c
invariant-loop-c l = find (λ c. has (slice_index l.set-items c) c) (range_with_len l.c (length l.set-items - l.c)) ≡ find (λ c. has (slice_index l.set-items c) c) (range_with_len 0 (length l.set-items))
