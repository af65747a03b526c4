-- Rounds of steps: each task has a step, each acker, and then the coordinator. This project's own.
use Rattle.std.specs.Prelude.{◌≡◌, ◌≤◌, ◌<◌, ℕ, zero, suc, ◌+◌, ◌*◌, Bool, true, false, List, ◌++◌, All, length, map, filter, replicate}
use Rattle.std.specs.List.{range_with_len}
use Rattle.commit_order.specs.attempt_fates.declared.fates.Attempt.{Attempt}
use Rattle.commit_order.specs.attempt_fates.declared.fates.End.TheVariants as end
use Rattle.commit_order.specs.bolt_ops.RowOp.{Custom}
use Rattle.event_worlds.specs.Worlds.{Step, coordinator_steps, of_acker, of_open, of_outcome, of_shut, of_task, of_tick, of_turn}
use Rattle.commit_order.specs.topology_plan.declared.parts.Body.{Body}
use Rattle.commit_order.specs.topology_plan.declared.parts.Body.TheVariants.{Bolt, State}
use Rattle.commit_order.specs.topology_plan.declared.parts.Component.{Component}
use Rattle.commit_order.specs.topology_plan.declared.parts.Op.{Op}
use Rattle.commit_order.specs.topology_plan.declared.function.Attempts.{Attempts}
use Rattle.commit_order.specs.topology_plan.declared.function.Attempts.TheVariants.{MakeRows, FailBelow, MuteBelow}
use Rattle.commit_order.specs.topology_plan.Functions.{shape}
use Rattle.commit_order.specs.topology_plan.Topology.{Topology, tasks_in_all}
use Rattle.commit_order.specs.tree_model.declared.messages.AckMsg.{AckMsg}
use Rattle.commit_order.specs.tree_model.Trees.{node_count}
use Rattle.commit_order.specs.record_offers.Offers.{batch_count}
use Rattle.commit_order.specs.taken_records.Cuts.{Cut}

-- a round in which so many ticks come before the coordinator's step
abbrev pub round_with : Topology → ℕ → List Step
round_with t ticks =
    map of_task (range_with_len 0 (tasks_in_all t))
    ++ map of_acker (range_with_len 0 t.ackers)
    ++ replicate ticks of_tick
    ++ coordinator_steps

-- the steps have so many whole rounds, one after another, with anything between them
abbrev pub HasRounds : Topology → ℕ → List Step → Type 0
HasRounds t zero steps = Unit {0}
HasRounds t (suc count) steps =
    (first rest : List Step) × (ticks : ℕ)
    × (steps ≡ first ++ (round_with t ticks ++ rest)) × HasRounds t count rest

abbrev pub is_tick : Step → Bool
is_tick (of_task n) = false
is_tick (of_acker n) = false
is_tick of_turn = false
is_tick of_outcome = false
is_tick of_tick = true
is_tick (of_shut q) = false
is_tick (of_open q) = false

-- how many of the steps are ticks
abbrev pub ticks_in : List Step → ℕ
ticks_in steps = length (filter is_tick steps)

-- attempts that are not the last a plan allows may fail, with partitions none may; and none is mute
abbrev pub EndsByAttempts : Topology → Attempts → Type 0
EndsByAttempts t MakeRows = Unit {0}
EndsByAttempts t (FailBelow below) = (below ≤ t.attempts) × (0 < t.partitions → below ≤ 1)
EndsByAttempts t (MuteBelow below) = below ≤ 1

-- the operation fails at no attempt that is the last a plan allows, with partitions at none, and is
-- never mute
abbrev pub EndsByOp : Topology → Op → Type 0
EndsByOp t op = EndsByAttempts t (shape op.function).attempts

abbrev pub EndsByBody : Topology → Body → Type 0
EndsByBody t (Bolt o) = EndsByOp t o
EndsByBody t (State spec) = Unit {0}

-- every bolt lets a batch come through within the attempts of the plan, with partitions at the
-- first of them
abbrev pub CanFinish : Topology → Type 0
CanFinish t = All (λ (c : Component). EndsByBody t c.body) t.components

-- As many rounds as any run needs in which nothing is lost, by the attempts that there may be, the
-- nodes of all records and the least number of batches that hold them.
abbrev pub rounds_needed : Topology → Custom → Cut → ℕ
rounds_needed t custom cut =
    16 * t.attempts
    * (node_count t custom cut.records + batch_count (length cut.records) cut.size + 1)

-- no attempt ended because its ids coincide
abbrev pub DoesNotCoincide : Attempt → Type 0
DoesNotCoincide a = (list : List AckMsg) → a.end ≡ end.Coincided list → ⊥
