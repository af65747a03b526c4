-- Which pass is of which box, and what it knows.
use Rattle.std.specs.Prelude.{◌≡◌, ℕ}
use Rattle.crossbeam_queue.specs.Fifo.{Held}
use Rattle.crossbeam_queue.specs.Passes.{view, ruled_capacity}
use Rattle.topology_plan.specs.Topology.{Topology}
use Rattle.task_queues.specs.declared.rule.View.{View}
use Rattle.task_queues.specs.declared.pass.Mailbox.{Mailbox}
use Rattle.task_queues.specs.declared.pass.Pass.{Pass}
use Rattle.task_queues.specs.Rule.{Stood}

module _ {M : Type 0} where
  -- what the pass knows
  abbrev pub view_of : Pass M → View M
  view_of p = view p.inner

  -- the pass is of the box, whose capacity it knows
  pub record IsPassOf (box : Mailbox M) (p : Pass M) : Type 0 where
    pub queue : p.inner.table_id ≡ box.queue.table.shared.table_id
    pub capacity : (view_of p).capacity ≡ ruled_capacity box.queue

  -- Under the rule a box could hold so many messages while the pass knew this. That it was this
  -- box, at a moment of the call, is not said: where the pass has not all numbers, others may have
  -- sent and taken what they like.
  abbrev pub HeldAt : (Topology → ℕ → M → Type 0) → Pass M → ℕ → Type 0
  HeldAt is_true p count = Held count (Stood is_true (view_of p))
