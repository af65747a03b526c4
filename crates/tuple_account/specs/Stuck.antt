-- Moments at which no work is left. This project's own.
use Rattle.std.specs.Prelude.{◌≡◌, ◌≢◌, ◌≤◌, ℕ, if◌then◌else◌, List, []}
use Rattle.std.specs.List.{AllByRecursion}
use Rattle.acker_core.specs.Entries.{AreSilent}
use Rattle.tree_model.specs.bolt_ops.RowOp.{Custom}
use Rattle.tree_model.specs.counted_items.Weights.{weigh}
use Rattle.rotating_ledger.specs.Held.{Held}
use Rattle.tree_model.specs.storm_values.declared.value.Root.{Root}
use Rattle.tree_model.specs.topology_plan.Topology.{Topology}
use Rattle.tree_model.specs.tuple_tickets.Roots.{root_eq}
use Rattle.tree_model.specs.tuple_tickets.Trees.{mute}
use Rattle.tree_model.specs.declared.messages.AckMsg.{AckMsg}
use Rattle.tuple_account.specs.Issued.{course_of_run}
use Rattle.tuple_account.specs.Histories.{Packet, Execution, History}
use Rattle.tuple_account.specs.Moves.{Station}
use Rattle.tuple_account.specs.Parts.{weigh_entries}

-- the weight that is 1 at the entries of a root
abbrev pub holds : Root → Held (List AckMsg) → ℕ
holds root e = if root_eq e.root root then 1 else 0

-- Nothing waits, no operation stayed mute and no entry was dropped. These are the entries of all
-- ackers: one a root at most, and none of them tells anything.
pub record IsStuck (t : Topology) (custom : Custom) (h : History) (b : Station)
    (entries : List (Held (List AckMsg))) : Type 0 where
  pub none_waits : (f : Packet → ℕ) → b.waiting f ≡ 0
  pub none_mute : AllByRecursion (λ (e : Execution). course_of_run t custom e.run ≢ mute) h.runs
  pub none_dropped : h.dropped ≡ []
  pub are_kept : (g : Root → AckMsg → ℕ) → b.kept g ≡ weigh_entries g entries
  pub distinct : (root : Root) → weigh (holds root) entries ≤ 1
  pub silent : AreSilent entries
