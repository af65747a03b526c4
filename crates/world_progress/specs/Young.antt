-- Ackers' entries while none is dropped: one a root, at the root's acker, and young.
-- This project's own.
use Rattle.std.specs.Prelude.{◌≡◌, ◌≤◌, ℕ, List}
use Rattle.std.specs.List.{AllByRecursion}
use Rattle.event_worlds.specs.counted_items.Weights.{weigh}
use Rattle.event_worlds.specs.rotating_ledger.Held.{Held}
use Rattle.event_worlds.specs.storm_values.declared.value.Root.{Root}
use Rattle.event_worlds.specs.topology_plan.Topology.{Topology}
use Rattle.event_worlds.specs.tree_model.declared.messages.AckMsg.{AckMsg}
use Rattle.event_worlds.specs.tuple_account.Histories.{acker_of}
use Rattle.event_worlds.specs.tuple_account.Stuck.{holds}

-- an entry is at the acker of its root, and has aged so much at most
abbrev pub IsYoung : Topology → ℕ → ℕ → Held (List AckMsg) → Type 0
IsYoung t n most e = (e.age ≤ most) × (acker_of t e.root ≡ n)

-- so are the entries of an acker, one a root at most
pub record AreYoung (t : Topology) (n most : ℕ) (es : List (Held (List AckMsg))) : Type 0 where
  pub each : AllByRecursion (IsYoung t n most) es
  pub once : (root : Root) → weigh (holds root) es ≤ 1
