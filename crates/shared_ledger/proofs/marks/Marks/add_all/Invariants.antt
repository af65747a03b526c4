use Rattle.std.proofs.Common.{◌≡◌, ◌<◌, ◌≤◌, ℕ, bit_or, slice_index}
use Rattle.shared_ledger.proofs.marks.Marks.add_all.Given as goal

abbrev pub invariant-loop-place : goal.invariant-loop-place
invariant-loop-place l =
    ((i : ℕ) → i < l.place → slice_index l.self.words i ≡ bit_or (slice_index l.initial.self.words i) (slice_index l.others.words i))
    × ((i : ℕ) → l.place ≤ i → slice_index l.self.words i ≡ slice_index l.initial.self.words i)
