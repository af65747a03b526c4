-- What one task does over boxes whose books are kept beside the world. This project's own.
use Rattle.std.specs.Prelude.{◌≤◌, ℕ, ◌+◌, ◌-◌}
use Rattle.event_worlds.specs.Worlds.{Known, TaskSide, World}
use Rattle.event_worlds.specs.tuple_account.Benches.{Bench}
use Rattle.event_worlds.specs.tuple_account.Histories.{Packet, weigh_parcels}
use Rattle.event_worlds.specs.tuple_account.Places.{spans}

abbrev pub known : World → (ℕ → ℕ) → Known
known w counts = record { world = w; counts = counts }

-- the outbox of task n, whose source gave so many words, and books by which so much was sent and
-- taken
abbrev pub task_bench : ℕ → ℕ → TaskSide → ((Packet → ℕ) → ℕ) → ((Packet → ℕ) → ℕ) → Bench
task_bench n count side sent taken = record {
  station = record {
    waiting = λ f. weigh_parcels f side.outbox;
    kept = λ g. 0;
    given = λ s j. spans n 0 count s j;
  };
  sent = λ i f. sent f;
  taken = λ i f. taken f;
}

-- what was sent and not taken, and more beside it
abbrev pub held_beside : ((Packet → ℕ) → ℕ) → ((Packet → ℕ) → ℕ) → ((Packet → ℕ) → ℕ)
    → (Packet → ℕ) → ℕ
held_beside sent taken more f = sent f - taken f + more f

-- no more was taken than was sent
abbrev pub IsCovered : ((Packet → ℕ) → ℕ) → ((Packet → ℕ) → ℕ) → Type 0
IsCovered sent taken = (f : Packet → ℕ) → taken f ≤ sent f
