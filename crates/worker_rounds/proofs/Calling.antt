-- What the calls of a round leave, for the call that follows.
use Rattle.std.proofs.Common.{◌≡◌, ◌<◌, ℕ, ◌+◌, ◌-◌, ◌^◌, Bool, true, false, cond, List, [], ◌∷◌, length, length-append, map, refl, sym, ap, subst, ◌∙◌, arith}
use Rattle.std.specs.Prelude.{Err, Ok, OnErr, Result, min, nat_le}
use Rattle.std.specs.List.{AllZip, range_with_len}
use Rattle.std.specs.Result.{IsErrAnd}
use Rattle.event_worlds.specs.attempt_fates.Fates.{IsOnce}
use Rattle.event_worlds.specs.bolt_ops.RowOp.{Custom}
use Rattle.event_worlds.specs.commit_turns.Turns.{last_tick}
use Rattle.worker_stretches.proofs.event_engine.FatesLemmas.{kept_once}
use Rattle.worker_stretches.proofs.event_engine.GoesLemmas.{goes-then}
use Rattle.worker_stretches.proofs.event_engine.LoopLemmas.{ready_here}
use Rattle.worker_stretches.specs.event_engine.declared.engine.Engine.{Engine}
use Rattle.worker_stretches.specs.event_engine.Engines.{Goes, IsIdle, IsReady, IsStill, cut_in, has_ended, shape, topology_in}
use Rattle.worker_stretches.specs.event_engine.Shutting.{shutting_steps}
use Rattle.event_worlds.specs.Worlds.{Step, is_over, of_acker, of_task}
use Rattle.pulse_board.specs.Books.{Tells, drew, marked, ticked}
use Rattle.pulse_board.specs.declared.rule.Book.{Book}
use Rattle.schedule_core.specs.declared.fault.RunFault.{RunFault}
use Rattle.schedule_core.specs.declared.fault.RunFault.TheVariants as fault
use Rattle.schedule_core.specs.Driving.{AreKept, IsAtRest, IsOfSameRun, StillTells}
use Rattle.schedule_core.specs.Rounding.{opening_steps}
use Rattle.event_worlds.specs.state_parts.declared.parts.StatePart.{StatePart}
use Rattle.event_worlds.specs.state_parts.PartPlans.{AreParts}
use Rattle.event_worlds.specs.storm_ids.declared.ids.Ids.{Ghosts}
use Rattle.storm_stores.specs.CellMaps.{CellMap}
use Rattle.event_worlds.specs.topology_plan.Topology.{Topology, tasks_in_all}
use Rattle.event_worlds.specs.taken_records.Cuts.{Cut}
use Rattle.worker_rounds.specs.Running.{WasStopped, opening_by}
use Rattle.worker_turns.proofs.Stands.{idle-still}

-- ---- errors that are handed on

-- an error by want of memory is no stop, nor is success
pub no-stop : (r : Result (Unit {0}) RunFault) (error : RunFault) → IsErrAnd r (λ x. x ≡ error) → error ≡ fault.Memory → WasStopped r → ⊥
no-stop (Ok ok) error exits is stopped = stopped
no-stop (Err e) error exits is stopped = subst (λ (x : RunFault). WasStopped (Err x)) (exits ∙ is) stopped

-- the fault that a `?` hands on is that of the call
pub handed-on : {T U E : Type 0} (r : Result T E) (s : Result U E) (error e : E) → IsErrAnd r (λ x. x ≡ error) → s ≡ Err error → r ≡ Err e → s ≡ Err e
handed-on {T} {U} {E} r s error e exits was is =
    let same : e ≡ error = subst (λ (x : Result T E). IsErrAnd x (λ y. y ≡ error)) is exits in
    subst (λ (x : E). s ≡ Err x) (sym same) was

-- and the call's is that of the `?`
pub handed-back : {T U E : Type 0} (r : Result T E) (s : Result U E) (error e : E) → IsErrAnd r (λ x. x ≡ error) → s ≡ Err error → s ≡ Err e → r ≡ Err e
handed-back {T} {U} {E} (Ok v) s error e exits was is = absurd exits
handed-back {T} {U} {E} (Err x) s error e exits was is =
    let a : x ≡ error = exits in
    let b : Err error ≡ Err e = sym was ∙ is in cc

-- success is no want of memory
pub no-memory : {T : Type 0} (r : Result T RunFault) (v : T) → r ≡ Ok v → r ≡ Err fault.Memory → ⊥
no-memory r v was is = cc

-- want of memory
pub is-short : (r : Result (Unit {0}) RunFault) (error : RunFault) → IsErrAnd r (λ x. x ≡ error) → error ≡ fault.Memory → r ≡ Err fault.Memory
is-short (Ok ok) error exits is = absurd exits
is-short (Err e) error exits is = let a : e ≡ fault.Memory = exits ∙ is in ap (λ (x : RunFault). Err x) a

-- what is so of a bad cell and where a follower failed is so of a fault that is no want of memory
pub by-fault : {X : Type 0} (r : Result (Unit {0}) RunFault) (error : RunFault) → r ≡ Err error → ((key : List ℕ) → r ≡ Err (fault.BadCell key) → X) → ((txid : ℕ) → r ≡ Err (fault.Follow txid) → X) → (r ≡ Err fault.Memory → ⊥) → X
by-fault r (fault.BadCell key) is bad failed had = bad key is
by-fault r (fault.Follow txid) is bad failed had = failed txid is
by-fault r fault.Memory is bad failed had = absurd (had is)

pub on-err : {T E X : Type 0} (r : Result T E) → X → OnErr r X
on-err (Ok v) x = tt
on-err (Err e) x = x

-- ---- the board

-- a tick is counted, up to the greatest count
pub ticks-once : (b : Book) (number : ℕ) → Tells (ticked b number) → min (length (ticked b number).drawn) (2 ^ 64 - 1) ≡ min (length b.drawn + 1) (2 ^ 64 - 1)
ticks-once b number tells = by (nat_le number b.seen) tells
  where
    by : (c : Bool) → Tells (cond c (marked b) (drew b number)) → min (length (cond c (marked b) (drew b number)).drawn) (2 ^ 64 - 1) ≡ min (length b.drawn + 1) (2 ^ 64 - 1)
    by true told = let most = told.marked refl in omega arith
    by false told = let l = length-append b.drawn (number ∷ []) in omega arith

-- then so many ticks were counted
pub ticks-more : (first count now next : ℕ) → min now (2 ^ 64 - 1) ≡ min (first + count) (2 ^ 64 - 1) → min next (2 ^ 64 - 1) ≡ min (now + 1) (2 ^ 64 - 1) → min next (2 ^ 64 - 1) ≡ min (first + (count + 1)) (2 ^ 64 - 1)
ticks-more first count now next before once = omega arith

-- ---- parts

told-none : {S : Type 0} (tells : S → CellMap → Type 0) (parts : List (StatePart S)) → AllZip (StillTells tells) parts parts
told-none tells [] = tt
told-none tells (x ∷ xs) = (λ cells told. (cells, told), told-none tells xs)

-- nothing was done
pub kept-none : {S : Type 0} (tells : S → CellMap → Type 0) (parts : List (StatePart S)) → AreKept tells parts parts
kept-none tells parts = record { plans = refl; told = told-none tells parts }

-- ---- engines

module _ {I : Type 0} {g : Ghosts I} (t : Topology) (cut : Cut) where
  -- the fates of an engine whose fates are those of one that is ready
  pub once-still : (old new : Engine I g) → IsReady t cut old → IsStill old new → IsOnce cut last_tick new.fates
  once-still old new ready still = subst (IsOnce cut last_tick) (sym still.fates) (kept_once t cut (shape old).desk old.fates ready.kept ready.ticks)

  -- it is ready for the cut that it has
  pub ready-own : (e : Engine I g) → IsReady t cut e → IsReady t (cut_in e) e
  ready-own e ready = subst (λ (k : Cut). IsReady t k e) (sym ready.seated.of_cut) ready

  -- and what is ready for that is ready for this
  pub ready-after : (e new : Engine I g) → IsReady t cut e → IsReady t (cut_in e) new → IsReady t cut new
  ready-after e new ready own = subst (λ (k : Cut). IsReady t k new) ready.seated.of_cut own

  -- all is not over, as the plan and the cut tell it
  pub on-here : (e : Engine I g) → IsReady t cut e → has_ended e ≡ false → is_over t cut (shape e) ≡ false
  on-here e ready on =
      sym (ap (λ (u : Topology). is_over u (cut_in e) (shape e)) ready.seated.of_topology ∙ ap (λ (k : Cut). is_over t k (shape e)) ready.seated.of_cut) ∙ on

  -- no ordered commit is out where the coordinator stays as it is
  pub rests-opened : (old new : Engine I g) → IsReady t cut new → IsIdle old → IsStill old new → IsAtRest new
  rests-opened old new ready idle still = record { ready = ready_here t cut new ready; idle = idle-still old new still idle }

  -- the engine after a round's rest is ready
  pub ready-closed : (old new : Engine I g) → IsReady t cut old → IsOfSameRun old new → IsAtRest new → IsReady t cut new
  ready-closed old new ready same rest =
      subst (λ (u : Topology). IsReady u cut new) (same.topology ∙ ready.seated.of_topology)
      (subst (λ (k : Cut). IsReady (topology_in new) k new) (same.cut ∙ ready.seated.of_cut) rest.ready)

  -- parts of the plan are those of the engine's
  pub parts-there : {S : Type 0} (e : Engine I g) (parts : List (StatePart S)) → IsReady t cut e → AreParts t parts → AreParts (topology_in e) parts
  parts-there e parts ready are = subst (λ (u : Topology). AreParts u parts) (sym ready.seated.of_topology) are

  -- a task's number is one of the engine's
  pub task-there : (e : Engine I g) (n : ℕ) → IsReady t cut e → n < tasks_in_all t → n < tasks_in_all (topology_in e)
  task-there e n ready there = subst (λ (u : Topology). n < tasks_in_all u) (sym ready.seated.of_topology) there

  -- what was so for the cut that an engine has is so for this
  goes-after : (tells : I → (ℕ → ℕ) → ℕ → Type 0) (custom : Custom) (steps : List Step) (e new : Engine I g) → IsReady t cut e → Goes tells t custom (cut_in e) steps e new → Goes tells t custom cut steps e new
  goes-after tells custom steps e new ready own = subst (λ (k : Cut). Goes tells t custom k steps e new) ready.seated.of_cut own

  -- partitions are shut and opened, then there is each task's event, and then each acker's
  pub goes-opened : (tells : I → (ℕ → ℕ) → ℕ → Type 0) (custom : Custom) (shut : ℕ) (a s b c : Engine I g) → IsReady t cut a → IsReady t cut s → IsReady t cut b
      → Goes tells (topology_in a) custom (cut_in a) (shutting_steps (topology_in a).partitions shut) a s
      → Goes tells t custom (cut_in s) (map of_task (range_with_len 0 (tasks_in_all t))) s b
      → Goes tells (topology_in b) custom (cut_in b) (map of_acker (range_with_len 0 (topology_in b).ackers)) b c
      → Goes tells t custom cut (opening_by t shut) a c
  goes-opened tells custom shut a s b c ready ready_shut ready_acted shuts tasks ackers =
      goes-then tells t custom cut (shutting_steps t.partitions shut) (opening_steps t) a s c
      (subst (λ (u : Topology). Goes tells u custom cut (shutting_steps u.partitions shut) a s) ready.seated.of_topology
      (subst (λ (k : Cut). Goes tells (topology_in a) custom k (shutting_steps (topology_in a).partitions shut) a s) ready.seated.of_cut shuts))
      (goes-then tells t custom cut (map of_task (range_with_len 0 (tasks_in_all t))) (map of_acker (range_with_len 0 t.ackers)) s b c
      (goes-after tells custom (map of_task (range_with_len 0 (tasks_in_all t))) s b ready_shut tasks)
      (subst (λ (u : Topology). Goes tells u custom cut (map of_acker (range_with_len 0 u.ackers)) b c) ready_acted.seated.of_topology
      (subst (λ (k : Cut). Goes tells (topology_in b) custom k (map of_acker (range_with_len 0 (topology_in b).ackers)) b c) ready_acted.seated.of_cut ackers)))

-- ticks of an engine and of the board
pub in-time : (old new passed drawn now : ℕ) → old ≡ min drawn (2 ^ 64 - 1) → new ≡ min (old + passed) (2 ^ 64 - 1) → min now (2 ^ 64 - 1) ≡ min (drawn + passed) (2 ^ 64 - 1) → new ≡ min now (2 ^ 64 - 1)
in-time old new passed drawn now was is board = omega arith
