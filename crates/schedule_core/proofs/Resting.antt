-- Steps of an engine that is at rest, one after another.
use Rattle.std.proofs.Common.{◌≡◌, ℕ, List, ◌++◌, map, refl, sym, ap, subst, ◌∙◌, append_assoc}
use Rattle.std.specs.Prelude.{Err, Ok, OnErr, Result, replicate}
use Rattle.std.specs.List.{range_with_len}
use Rattle.std.specs.Result.{IsErrAnd}
use Rattle.event_worlds.specs.attempt_fates.declared.fates.Attempt.{Attempt}
use Rattle.event_worlds.specs.bolt_ops.RowOp.{Custom}
use Rattle.event_worlds.specs.commit_order.Orders.{desk_of}
use Rattle.event_engine.proofs.GoesLemmas.{goes-then}
use Rattle.event_engine.specs.declared.engine.Engine.{Engine}
use Rattle.event_engine.specs.Engines.{Goes, IsReady, IsStill, cut_in, has_ended, topology_in}
use Rattle.event_worlds.specs.Rounds.{round_with}
use Rattle.event_worlds.specs.Worlds.{Step, coordinator_steps, of_acker, of_task, of_tick}
use Rattle.schedule_core.proofs.Drives.{breaks-then, drives-still, drives-then, unfollowed-then, wants-then}
use Rattle.schedule_core.specs.Laws.{Laws}
use Rattle.schedule_core.specs.Rounding.{OpensBoosted, closing_steps, opening_steps}
use Rattle.schedule_core.specs.Driving.{Breaks, Drives, IsAtRest, IsOfSameRun, WantsMemory}
use Rattle.schedule_core.specs.Following.{Unfollowed}
use Rattle.schedule_core.specs.Schedules.{steps_of}
use Rattle.schedule_reader.specs.declared.event.Event.{Event}
use Rattle.event_worlds.specs.state_parts.declared.parts.StatePart.{StatePart}
use Rattle.event_worlds.specs.storm_ids.declared.ids.Ids.{Ghosts}
use Rattle.storm_stores.specs.CellMaps.{CellMap}
use Rattle.event_worlds.specs.topology_plan.Topology.{Topology, tasks_in_all}
use Rattle.event_worlds.specs.taken_records.Cuts.{Cut}

-- the fault that a `?` hands on is that of the call
pub handed_on : {T U E : Type 0} (r : Result T E) (s : Result U E) (error e : E) → IsErrAnd r (λ x. x ≡ error) → s ≡ Err error → r ≡ Err e → s ≡ Err e
handed_on {T} {U} {E} r s error e exits was is =
    let same : e ≡ error = subst (λ (x : Result T E). IsErrAnd x (λ y. y ≡ error)) is exits in
    subst (λ (x : E). s ≡ Err x) (sym same) was

pub on_err : {T E X : Type 0} (r : Result T E) → X → OnErr r X
on_err (Ok v) x = tt
on_err (Err e) x = x

module _ {I : Type 0} {g : Ghosts I} where
  pub same_run_none : (e : Engine I g) → IsOfSameRun e e
  same_run_none e = record { topology = refl; cut = refl }

  pub same_run_then : (a b c : Engine I g) → IsOfSameRun a b → IsOfSameRun b c → IsOfSameRun a c
  same_run_then a b c first second = record { topology = second.topology ∙ first.topology; cut = second.cut ∙ first.cut }

  -- an engine that is ready for another's plan and input is of the same run
  pub same_run_after : (old new : Engine I g) → IsReady (topology_in old) (cut_in old) new → IsOfSameRun old new
  same_run_after old new ready = record { topology = ready.seated.of_topology; cut = ready.seated.of_cut }

  -- steps that leave the coordinator alone leave an engine at rest
  pub at_rest_after : (old new : Engine I g) → IsAtRest old → IsReady (topology_in old) (cut_in old) new → IsStill old new → IsAtRest new
  at_rest_after old new rest ready still = record {
    ready =
        subst (λ (u : Topology). IsReady u (cut_in new) new) (sym ready.seated.of_topology)
        (subst (λ (k : Cut). IsReady (topology_in old) k new) (sym ready.seated.of_cut) ready);
    idle = λ on.
        let same : has_ended new ≡ has_ended old = ap (λ c. has_ended (record old { coordinator = c })) still.coordinator in
        ap (λ c. (desk_of c).out) still.coordinator ∙ rest.idle (sym same ∙ on);
  }

  pub at_rest_as : (new end : Engine I g) → end ≡ new → IsAtRest new → IsAtRest end
  at_rest_as new end is rest = subst (λ (e : Engine I g). IsAtRest e) (sym is) rest

module _ {I : Type 0} {g : Ghosts I} (tells : I → (ℕ → ℕ) → ℕ → Type 0) (custom : Custom) where
  -- what is so for a later engine's plan and input is so for the first one's
  pub goes_there : (steps : Topology → List Step) (old mid new : Engine I g) → IsOfSameRun old mid
      → Goes tells (topology_in mid) custom (cut_in mid) (steps (topology_in mid)) mid new
      → Goes tells (topology_in old) custom (cut_in old) (steps (topology_in old)) mid new
  goes_there steps old mid new same own =
      subst (λ (u : Topology). Goes tells u custom (cut_in old) (steps u) mid new) same.topology
      (subst (λ (k : Cut). Goes tells (topology_in mid) custom k (steps (topology_in mid)) mid new) same.cut own)

  pub opens_there : (old mid new : Engine I g) → IsOfSameRun old mid → OpensBoosted tells (topology_in mid) custom (cut_in mid) mid new → OpensBoosted tells (topology_in old) custom (cut_in old) mid new
  opens_there old mid new same own =
      subst (λ (u : Topology). OpensBoosted tells u custom (cut_in old) mid new) same.topology
      (subst (λ (k : Cut). OpensBoosted tells (topology_in mid) custom k mid new) same.cut own)

  -- each task's event, and then each acker's
  pub goes_opened : (a b c : Engine I g) → IsReady (topology_in a) (cut_in a) b
      → Goes tells (topology_in a) custom (cut_in a) (map of_task (range_with_len 0 (tasks_in_all (topology_in a)))) a b
      → Goes tells (topology_in b) custom (cut_in b) (map of_acker (range_with_len 0 (topology_in b).ackers)) b c
      → Goes tells (topology_in a) custom (cut_in a) (opening_steps (topology_in a)) a c
  goes_opened a b c ready tasks ackers =
      goes-then tells (topology_in a) custom (cut_in a) (map of_task (range_with_len 0 (tasks_in_all (topology_in a)))) (map of_acker (range_with_len 0 (topology_in a).ackers)) a b c tasks
      (goes_there (λ (u : Topology). map of_acker (range_with_len 0 u.ackers)) a b c (same_run_after a b ready) ackers)

module _ {I S : Type 0} {g : Ghosts I} (tells : I → (ℕ → ℕ) → ℕ → Type 0) (holds : S → CellMap → Type 0) (count : S → ℕ) (custom : Custom) where
  pub drives_there : (steps : Topology → List Step) (old mid new : Engine I g) (p q : List (StatePart S)) → IsOfSameRun old mid
      → Drives tells holds count (topology_in mid) custom (cut_in mid) (steps (topology_in mid)) mid new p q
      → Drives tells holds count (topology_in old) custom (cut_in old) (steps (topology_in old)) mid new p q
  drives_there steps old mid new p q same own =
      subst (λ (u : Topology). Drives tells holds count u custom (cut_in old) (steps u) mid new p q) same.topology
      (subst (λ (k : Cut). Drives tells holds count (topology_in mid) custom k (steps (topology_in mid)) mid new p q) same.cut own)

  pub breaks_there : (steps : Topology → List Step) (key : List ℕ) (old mid new : Engine I g) (p q : List (StatePart S)) → IsOfSameRun old mid
      → Breaks tells holds count (topology_in mid) custom (cut_in mid) (steps (topology_in mid)) key mid new p q
      → Breaks tells holds count (topology_in old) custom (cut_in old) (steps (topology_in old)) key mid new p q
  breaks_there steps key old mid new p q same own =
      subst (λ (u : Topology). Breaks tells holds count u custom (cut_in old) (steps u) key mid new p q) same.topology
      (subst (λ (k : Cut). Breaks tells holds count (topology_in mid) custom k (steps (topology_in mid)) key mid new p q) same.cut own)

  pub unfollowed_there : (steps : Topology → List Step) (txid : ℕ) (old mid new : Engine I g) (p q : List (StatePart S)) → IsOfSameRun old mid
      → Unfollowed tells holds count (topology_in mid) custom (cut_in mid) (steps (topology_in mid)) txid mid new p q
      → Unfollowed tells holds count (topology_in old) custom (cut_in old) (steps (topology_in old)) txid mid new p q
  unfollowed_there steps txid old mid new p q same own =
      subst (λ (u : Topology). Unfollowed tells holds count u custom (cut_in old) (steps u) txid mid new p q) same.topology
      (subst (λ (k : Cut). Unfollowed tells holds count (topology_in mid) custom k (steps (topology_in mid)) txid mid new p q) same.cut own)

  pub wants_there : (old mid : Engine I g) (fates : List Attempt) (p q : List (StatePart S)) → IsOfSameRun old mid
      → WantsMemory tells holds count (topology_in mid) custom (cut_in mid) mid fates p q
      → WantsMemory tells holds count (topology_in old) custom (cut_in old) mid fates p q
  wants_there old mid fates p q same own =
      subst (λ (u : Topology). WantsMemory tells holds count u custom (cut_in old) mid fates p q) same.topology
      (subst (λ (k : Cut). WantsMemory tells holds count (topology_in mid) custom k mid fates p q) same.cut own)

  -- an event's steps, where the event, the engine and the parts are told by equations
  pub drives_as : (t : Topology) (cut : Cut) (event known : Event) (old new end : Engine I g) (p q r : List (StatePart S)) → event ≡ known → end ≡ new → r ≡ q
      → Drives tells holds count t custom cut (steps_of t known) old new p q
      → Drives tells holds count t custom cut (steps_of t event) old end p r
  drives_as t cut event known old new end p q r of_event of_end of_parts drives =
      subst (λ (k : Event). Drives tells holds count t custom cut (steps_of t k) old end p r) (sym of_event)
      (subst (λ (e : Engine I g). Drives tells holds count t custom cut (steps_of t known) old e p r) (sym of_end)
      (subst (λ (x : List (StatePart S)). Drives tells holds count t custom cut (steps_of t known) old new p x) (sym of_parts) drives))

  -- the same of a bad cell
  pub breaks_as : (t : Topology) (cut : Cut) (event known : Event) (key : List ℕ) (old new : Engine I g) (p q : List (StatePart S)) → event ≡ known
      → Breaks tells holds count t custom cut (steps_of t known) key old new p q
      → Breaks tells holds count t custom cut (steps_of t event) key old new p q
  breaks_as t cut event known key old new p q of_event breaks =
      subst (λ (k : Event). Breaks tells holds count t custom cut (steps_of t k) key old new p q) (sym of_event) breaks

  -- and of a commit at which a follower failed
  pub unfollowed_as : (t : Topology) (cut : Cut) (event known : Event) (txid : ℕ) (old new : Engine I g) (p q : List (StatePart S)) → event ≡ known
      → Unfollowed tells holds count t custom cut (steps_of t known) txid old new p q
      → Unfollowed tells holds count t custom cut (steps_of t event) txid old new p q
  unfollowed_as t cut event known txid old new p q of_event ends =
      subst (λ (k : Event). Unfollowed tells holds count t custom cut (steps_of t k) txid old new p q) (sym of_event) ends

  -- steps that leave the coordinator alone, and then others
  module _ (first next : Topology → List Step) (a b d : Engine I g) (p q : List (StatePart S)) (laws : Laws count (topology_in a) custom (cut_in a)) (same : IsOfSameRun a b)
      (goes : Goes tells (topology_in a) custom (cut_in a) (first (topology_in a)) a b) (still : IsStill a b) where
    pub drives_on : Drives tells holds count (topology_in b) custom (cut_in b) (next (topology_in b)) b d p q
        → Drives tells holds count (topology_in a) custom (cut_in a) (first (topology_in a) ++ next (topology_in a)) a d p q
    drives_on last =
        drives-then tells holds count (topology_in a) custom (cut_in a) laws (first (topology_in a)) (next (topology_in a)) a b d p p q
        (drives-still tells holds count (topology_in a) custom (cut_in a) laws (first (topology_in a)) a b p goes still)
        (drives_there next a b d p q same last)

    -- or up to a bad cell
    pub breaks_on : (key : List ℕ) → Breaks tells holds count (topology_in b) custom (cut_in b) (next (topology_in b)) key b d p q
        → Breaks tells holds count (topology_in a) custom (cut_in a) (first (topology_in a) ++ next (topology_in a)) key a d p q
    breaks_on key last =
        breaks-then tells holds count (topology_in a) custom (cut_in a) laws (first (topology_in a)) (next (topology_in a)) key a b d p p q
        (drives-still tells holds count (topology_in a) custom (cut_in a) laws (first (topology_in a)) a b p goes still)
        (breaks_there next key a b d p q same last)

    -- or up to a commit at which a follower failed
    pub unfollowed_on : (txid : ℕ) → Unfollowed tells holds count (topology_in b) custom (cut_in b) (next (topology_in b)) txid b d p q
        → Unfollowed tells holds count (topology_in a) custom (cut_in a) (first (topology_in a) ++ next (topology_in a)) txid a d p q
    unfollowed_on txid last =
        unfollowed-then tells holds count (topology_in a) custom (cut_in a) laws (first (topology_in a)) (next (topology_in a)) txid a b d p p q
        (drives-still tells holds count (topology_in a) custom (cut_in a) laws (first (topology_in a)) a b p goes still)
        (unfollowed_there next txid a b d p q same last)

  -- or up to where memory was wanted
  pub wants_on : (first : Topology → List Step) (a b : Engine I g) (fates : List Attempt) (p q : List (StatePart S)) → Laws count (topology_in a) custom (cut_in a) → IsOfSameRun a b
      → Goes tells (topology_in a) custom (cut_in a) (first (topology_in a)) a b → IsStill a b → WantsMemory tells holds count (topology_in b) custom (cut_in b) b fates p q
      → WantsMemory tells holds count (topology_in a) custom (cut_in a) a fates p q
  wants_on first a b fates p q laws same goes still last =
      wants-then tells holds count (topology_in a) custom (cut_in a) laws (first (topology_in a)) a b fates p p q
      (drives-still tells holds count (topology_in a) custom (cut_in a) laws (first (topology_in a)) a b p goes still)
      (wants_there a b fates p q same last)

-- the steps of both parts of a round are those of the round
both_parts : (t : Topology) (n : ℕ) → opening_steps t ++ closing_steps n ≡ round_with t n
both_parts t n = sym (append_assoc (opening_steps t) (replicate n of_tick) coordinator_steps)

-- behind steps without ticks
pub quiet_parts : (t : Topology) (quiet : List Step) (n : ℕ) → (quiet ++ opening_steps t) ++ closing_steps n ≡ quiet ++ round_with t n
quiet_parts t quiet n = append_assoc quiet (opening_steps t) (closing_steps n) ∙ ap (λ (zs : List Step). quiet ++ zs) (both_parts t n)
