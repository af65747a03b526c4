-- A worker's outboxes and the books of its passes, at two moments of a stretch.
-- This project's own.
use Rattle.std.specs.Prelude.{◌≡◌, ℕ, ◌+◌, ◌==◌, if◌then◌else◌}
use Rattle.tree_model.specs.bolt_ops.RowOp.{Custom}
use Rattle.tree_model.specs.storm_values.declared.value.Root.{Root}
use Rattle.tree_model.specs.topology_plan.Topology.{Topology}
use Rattle.tree_model.specs.declared.messages.AckMsg.{AckMsg}
use Rattle.tuple_account.specs.Histories.{Packet, History, issued, taken, met_in, told_in, dropped_in, drawn_in}
use Rattle.tuple_account.specs.Moves.{Station, IsWell}
use Rattle.tuple_account.specs.Stretches.{sum_below, Share}

-- what a worker's outboxes hold (as what waits), its entries and words, and by box what its own
-- books have of sent and taken
pub record Bench : Type 0 where
  pub station : Station
  pub sent : ℕ → (Packet → ℕ) → ℕ
  pub taken : ℕ → (Packet → ℕ) → ℕ

-- what each function of a worker says, over n boxes; books only grow
pub record Works (t : Topology) (custom : Custom) (n : ℕ) (a : Bench) (h : History) (b : Bench)
    : Type 0 where
  pub packets : (f : Packet → ℕ)
      → a.station.waiting f + issued t custom f h + sum_below (λ i. a.sent i f) n
      ≡ b.station.waiting f + sum_below (λ i. b.sent i f) n
  pub takes : (f : Packet → ℕ)
      → sum_below (λ i. b.taken i f) n ≡ sum_below (λ i. a.taken i f) n + taken f h
  pub notes : (g : Root → AckMsg → ℕ)
      → a.station.kept g + met_in g h ≡ b.station.kept g + (told_in g h + dropped_in g h)
  pub draws : (s j : ℕ) → a.station.given s j + drawn_in s j h ≡ b.station.given s j
  pub well : IsWell t custom h

-- passes that were just split
pub record IsFresh (a : Bench) : Type 0 where
  pub sent : (i : ℕ) (f : Packet → ℕ) → a.sent i f ≡ 0
  pub taken : (i : ℕ) (f : Packet → ℕ) → a.taken i f ≡ 0

abbrev pub share_of : Bench → History → Bench → Share
share_of a h b =
    record { old = a.station; new = b.station; sent = b.sent; taken = b.taken; history = h }

-- one packet more in the book of box i
abbrev pub OneMore : (ℕ → (Packet → ℕ) → ℕ) → ℕ → Packet → (ℕ → (Packet → ℕ) → ℕ) → Type 0
OneMore old i packet new =
    (k : ℕ) (f : Packet → ℕ) → new k f ≡ old k f + (if k == i then f packet else 0)
