-- A round of the caller over the parts of all states: it is opened, and closed with a commit.
use Rattle.std.proofs.Common.{◌≡◌, ℕ, List, ◌++◌, sym, ap, subst, ◌∙◌, append_assoc}
use Rattle.std.specs.Prelude.{replicate}
use Rattle.event_worlds.specs.attempt_fates.declared.fates.Attempt.{Attempt}
use Rattle.event_worlds.specs.bolt_ops.RowOp.{Custom}
use Rattle.worker_stretches.specs.box_rows.declared.mail.Mail.{Mail}
use Rattle.worker_stretches.specs.event_engine.declared.engine.Engine.{Engine}
use Rattle.worker_stretches.specs.event_engine.Engines.{Goes, IsReady, IsStill, cut_in, shape, topology_in}
use Rattle.event_worlds.specs.Worlds.{Step, coordinator_steps, of_tick}
use Rattle.schedule_core.proofs.Drives.{breaks-then, drives-still, drives-then, unfollowed-then, wants-still, wants-then}
use Rattle.schedule_core.specs.Driving.{Breaks, Drives, WantsMemory}
use Rattle.schedule_core.specs.Following.{Unfollowed}
use Rattle.schedule_core.specs.Laws.{Laws}
use Rattle.schedule_core.specs.Rounding.{closing_steps, opening_steps}
use Rattle.event_worlds.specs.state_parts.declared.parts.StatePart.{StatePart}
use Rattle.event_worlds.specs.storm_ids.declared.ids.Ids.{Ghosts}
use Rattle.storm_stores.specs.CellMaps.{CellMap}
use Rattle.task_queues.specs.declared.pass.Pass.{Pass}
use Rattle.event_worlds.specs.topology_plan.Topology.{Topology}
use Rattle.event_worlds.specs.taken_records.Cuts.{Cut}
use Rattle.worker_rounds.proofs.Rounds.{reaches-part}
use Rattle.worker_rounds.specs.Laws.{RoundLaws}
use Rattle.worker_rounds.specs.Running.{Broken, Stopped, opening_by, round_by}
use Rattle.worker_stretches.specs.event_engine.Shutting.{shutting_steps}
use Rattle.worker_turns.specs.Carrying.{AreEmpty, IsSwept}

-- ---- a round

-- the steps of both parts of a round are those of the round
both-parts : (t : Topology) (shut n : ℕ) → opening_by t shut ++ closing_steps n ≡ round_by t shut n
both-parts t shut n =
    append_assoc (shutting_steps t.partitions shut) (opening_steps t) (closing_steps n)
    ∙ ap (λ (steps : List Step). shutting_steps t.partitions shut ++ steps) (sym (append_assoc (opening_steps t) (replicate n of_tick) coordinator_steps))

module _ {I S : Type 0} {g : Ghosts I} (tells : I → (ℕ → ℕ) → ℕ → Type 0) (holds : S → CellMap → Type 0) (count : S → ℕ) (t : Topology) (custom : Custom) (cut : Cut) (laws : Laws count t custom cut) (shut n : ℕ) (a b : Engine I g) (ready : IsReady t cut b)
    (opened : Goes tells t custom cut (opening_by t shut) a b) (still : IsStill a b) (p : List (StatePart S)) where
  -- it was closed
  pub drives-round : (c : Engine I g) (q : List (StatePart S)) → Drives tells holds count (topology_in b) custom (cut_in b) (closing_steps n) b c p q → Drives tells holds count t custom cut (round_by t shut n) a c p q
  drives-round c q closed =
      subst (λ (steps : List Step). Drives tells holds count t custom cut steps a c p q) (both-parts t shut n)
      (drives-then tells holds count t custom cut laws (opening_by t shut) (closing_steps n) a b c p p q (drives-still tells holds count t custom cut laws (opening_by t shut) a b p opened still)
      (subst (λ (u : Topology). Drives tells holds count u custom cut (closing_steps n) b c p q) ready.seated.of_topology
      (subst (λ (k : Cut). Drives tells holds count (topology_in b) custom k (closing_steps n) b c p q) ready.seated.of_cut closed)))

  -- or up to a bad cell
  pub breaks-round : (key : List ℕ) (c : Engine I g) (q : List (StatePart S)) → Breaks tells holds count (topology_in b) custom (cut_in b) (closing_steps n) key b c p q → Breaks tells holds count t custom cut (round_by t shut n) key a c p q
  breaks-round key c q closed =
      subst (λ (steps : List Step). Breaks tells holds count t custom cut steps key a c p q) (both-parts t shut n)
      (breaks-then tells holds count t custom cut laws (opening_by t shut) (closing_steps n) key a b c p p q (drives-still tells holds count t custom cut laws (opening_by t shut) a b p opened still)
      (subst (λ (u : Topology). Breaks tells holds count u custom cut (closing_steps n) key b c p q) ready.seated.of_topology
      (subst (λ (k : Cut). Breaks tells holds count (topology_in b) custom k (closing_steps n) key b c p q) ready.seated.of_cut closed)))

  -- or up to a commit at which a follower failed
  pub stops-round : (txid : ℕ) (c : Engine I g) (q : List (StatePart S)) → Unfollowed tells holds count (topology_in b) custom (cut_in b) (closing_steps n) txid b c p q → Unfollowed tells holds count t custom cut (round_by t shut n) txid a c p q
  stops-round txid c q closed =
      subst (λ (steps : List Step). Unfollowed tells holds count t custom cut steps txid a c p q) (both-parts t shut n)
      (unfollowed-then tells holds count t custom cut laws (opening_by t shut) (closing_steps n) txid a b c p p q (drives-still tells holds count t custom cut laws (opening_by t shut) a b p opened still)
      (subst (λ (u : Topology). Unfollowed tells holds count u custom cut (closing_steps n) txid b c p q) ready.seated.of_topology
      (subst (λ (k : Cut). Unfollowed tells holds count (topology_in b) custom k (closing_steps n) txid b c p q) ready.seated.of_cut closed)))

  -- or up to where memory was wanted
  pub wants-closed : (fates : List Attempt) (q : List (StatePart S)) → WantsMemory tells holds count (topology_in b) custom (cut_in b) b fates p q → WantsMemory tells holds count t custom cut a fates p q
  wants-closed fates q closed =
      wants-then tells holds count t custom cut laws (opening_by t shut) a b fates p p q (drives-still tells holds count t custom cut laws (opening_by t shut) a b p opened still)
      (subst (λ (u : Topology). WantsMemory tells holds count u custom cut b fates p q) ready.seated.of_topology
      (subst (λ (k : Cut). WantsMemory tells holds count (topology_in b) custom k b fates p q) ready.seated.of_cut closed))

-- memory was wanted after a round, which left the fates and the parts as they were
pub wants-swept : {I S : Type 0} {g : Ghosts I} (tells : I → (ℕ → ℕ) → ℕ → Type 0) (holds : S → CellMap → Type 0) (count : S → ℕ) (t : Topology) (custom : Custom) (cut : Cut) (laws : Laws count t custom cut) (steps : List Step) (a c d : Engine I g) (p q : List (StatePart S))
    → Drives tells holds count t custom cut steps a c p q → IsStill c d → WantsMemory tells holds count t custom cut a d.fates p q
wants-swept tells holds count t custom cut laws steps a c d p q drives still =
    wants-then tells holds count t custom cut laws steps a c d.fates p q q drives (wants-still tells holds count t custom cut laws c d.fates q still.fates)

module _ {I S : Type 0} {g : Ghosts I} (tells : I → (ℕ → ℕ) → ℕ → Type 0) (holds : S → CellMap → Type 0) (count : S → ℕ) (t : Topology) (custom : Custom) (cut : Cut) (laws : RoundLaws t custom cut) (old new : Engine I g) (row : List (Pass Mail))
    (ready : IsReady t cut old) (swept : IsSwept (shape old)) (empty : AreEmpty row) (shut ticks : ℕ) (was is : List (StatePart S)) where
  -- a bad cell stopped it
  pub broken-round : (key : List ℕ) → Breaks tells holds count t custom cut (round_by t shut ticks) key old new was is → Broken tells holds count t custom cut shut ticks key old new row was is
  broken-round key breaks = record {
    breaks = breaks;
    stood = reaches-part tells t custom cut laws old new row ready swept empty shut ticks breaks.steps breaks.rest breaks.first breaks.drives.goes;
  }

  -- or a follower
  pub stopped-round : (txid : ℕ) → Unfollowed tells holds count t custom cut (round_by t shut ticks) txid old new was is → Stopped tells holds count t custom cut shut ticks txid old new row was is
  stopped-round txid stops = record {
    stops = stops;
    stood = reaches-part tells t custom cut laws old new row ready swept empty shut ticks stops.steps stops.rest stops.first stops.drives.goes;
  }
