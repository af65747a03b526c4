-- What a load comes to, from what its parts came to.
use Rattle.std.proofs.Common.{◌≡◌, ◌⊎◌, ◌<◌, ℕ, ◌+◌, ◌*◌, List, [], ◌∷◌, ◌++◌, All, length, map, flat_map, inl, inr, refl, sym, ap, ◌∙◌, subst, append_assoc, arith}
use Rattle.std.specs.List.{AllByRecursion, range_with_len}
use Rattle.std.proofs.lemmas.List.Elements.{All-from_recursion}
use Rattle.std.proofs.lemmas.List.{append-nil}
use Rattle.std.proofs.lemmas.List.FromFn.{length-range_with_len}
use Rattle.load_source.specs.File.{load_text}
use Rattle.load_source.specs.Records.{records_after}
use Rattle.storm_resume.specs.storm_answers.declared.status.Status.{Status}
use Rattle.storm_resume.specs.storm_answers.declared.status.Status.TheVariants as status
use Rattle.storm_program.specs.Load.{LoadComes, load_events}
use Rattle.storm_resume.specs.storm_answers.Outside.{RunUse}
use Rattle.storm_program.specs.Replay.{ReplayEndsSo, ticks_of_schedule}
use Rattle.storm_resume.specs.storm_answers.Runs.{IsNotBegun, IsShort}
use Rattle.storm_resume.specs.storm_answers.steps.Ended.{WorkStops}
use Rattle.storm_resume.proofs.schedule_core.Rounding.{open-round}
use Rattle.storm_resume.proofs.schedule_core.TicksOfRuns.{ticks-of-rounds}
use Rattle.event_worlds.proofs.counted_items.Each.{each-append}
use Rattle.world_progress.specs.Rounding.{ShutsNone}
use Rattle.event_worlds.specs.attempt_fates.declared.fates.Attempt.{Attempt}
use Rattle.event_worlds.specs.bolt_ops.RowOp.{Custom}
use Rattle.event_worlds.specs.Rounds.{HasRounds, round_with, rounds_needed, ticks_in}
use Rattle.event_worlds.specs.Worlds.{Step, coordinator_steps, of_acker, of_task, round_steps, rounds_steps}
use Rattle.storm_resume.specs.schedule_core.Schedules.{all_steps}
use Rattle.schedule_reader.specs.declared.event.Event.{Event}
use Rattle.schedule_reader.specs.declared.event.Event.TheVariants.{Rounds}
use Rattle.event_worlds.specs.storm_values.declared.value.Value.{Value}
use Rattle.event_worlds.specs.tree_model.Trees.{node_count}
use Rattle.event_worlds.specs.record_offers.Offers.{batch_count}
use Rattle.event_worlds.specs.taken_records.Cuts.{Cut}
use Rattle.storm_resume.specs.storm_answers.Reports.{cut_by}
use Rattle.event_worlds.specs.topology_plan.Topology.{Topology, tasks_in_all}
use Rattle.topology_reader.specs.FirstFault.{IsFilePlan}

-- ---- its schedule

round_is : (t : Topology) → round_steps t ≡ round_with t 0
round_is t =
    ap (λ (steps : List Step). steps ++ coordinator_steps)
    (sym (append-nil (map of_task (range_with_len 0 (tasks_in_all t)) ++ map of_acker (range_with_len 0 t.ackers))))

rounds_over : (t : Topology) (ks : List ℕ) (rest : List Step)
    → HasRounds t (length ks) (flat_map (λ k. round_steps t) ks ++ rest)
rounds_over t [] rest = tt
rounds_over t (k ∷ ks) rest =
    let more : List Step = flat_map (λ k. round_steps t) ks in
    ([], more ++ rest, 0, append_assoc (round_steps t) more rest ∙ ap (λ (steps : List Step). steps ++ (more ++ rest)) (round_is t), rounds_over t ks rest)

-- so many rounds are so many
pub rounds_of_load : (t : Topology) (n : ℕ) → HasRounds t n (all_steps t (Rounds n ∷ []))
rounds_of_load t n =
    subst (λ m. HasRounds t m (rounds_steps t n ++ [])) (length-range_with_len 0 n)
    (rounds_over t (range_with_len 0 n) [])

task_ticks : (ns : List ℕ) → ticks_in (map of_task ns) ≡ 0
task_ticks [] = refl
task_ticks (n ∷ ns) = task_ticks ns

acker_ticks : (ns : List ℕ) → ticks_in (map of_acker ns) ≡ 0
acker_ticks [] = refl
acker_ticks (n ∷ ns) = acker_ticks ns

none-of : (a b c d e : ℕ) → a ≡ d + e → d ≡ b + c → b ≡ 0 → c ≡ 0 → e ≡ 0 → a ≡ 0
none-of a b c d e first second no_b no_c no_e = omega arith

round_ticks : (t : Topology) → ticks_in (round_steps t) ≡ 0
round_ticks t =
    let tasks : List Step = map of_task (range_with_len 0 (tasks_in_all t)) in
    let ackers : List Step = map of_acker (range_with_len 0 t.ackers) in
    none-of _ (ticks_in tasks) (ticks_in ackers) (ticks_in (tasks ++ ackers)) (ticks_in coordinator_steps)
    (ticks-of-rounds (tasks ++ ackers) coordinator_steps) (ticks-of-rounds tasks ackers)
    (task_ticks (range_with_len 0 (tasks_in_all t))) (acker_ticks (range_with_len 0 t.ackers)) refl

none-more : (a b c : ℕ) → a ≡ b + c → b ≡ 0 → c ≡ 0 → a ≡ 0
none-more a b c is no_b no_c = omega arith

over_ticks : (t : Topology) (ks : List ℕ) → ticks_in (flat_map (λ k. round_steps t) ks) ≡ 0
over_ticks t [] = refl
over_ticks t (k ∷ ks) =
    let more : List Step = flat_map (λ k. round_steps t) ks in
    none-more _ _ _ (ticks-of-rounds (round_steps t) more) (round_ticks t) (over_ticks t ks)

-- and hand out no tick
pub no_ticks_of_load : (t : Topology) (n : ℕ) → ticks_of_schedule t (Rounds n ∷ []) ≡ 0
no_ticks_of_load t n =
    none-more _ _ _ (ticks-of-rounds (rounds_steps t n) []) (over_ticks t (range_with_len 0 n)) refl

open_round : (t : Topology) → AllByRecursion ShutsNone (round_steps t)
open_round t = subst (λ (steps : List Step). AllByRecursion ShutsNone steps) (sym (round_is t)) (open-round t 0)

open_over : (t : Topology) (ks : List ℕ) → AllByRecursion ShutsNone (flat_map (λ k. round_steps t) ks ++ [])
open_over t [] = tt
open_over t (k ∷ ks) =
    let more : List Step = flat_map (λ k. round_steps t) ks in
    subst (λ (steps : List Step). AllByRecursion ShutsNone steps) (sym (append_assoc (round_steps t) more []))
    (each-append ShutsNone (round_steps t) (more ++ []) (open_round t) (open_over t ks))

-- and shut no partition
pub open_of_load : (t : Topology) (n : ℕ) → All ShutsNone (all_steps t (Rounds n ∷ []))
open_of_load t n = All-from_recursion ShutsNone (rounds_steps t n ++ []) (open_over t (range_with_len 0 n))

module _ (plan : Topology) (custom : Custom) (cut : Cut) (b : ℕ) (b_is : b ≡ batch_count (length cut.records) cut.size) (events : List Event) (is : events ≡ Rounds (64 * (node_count plan custom cut.records + b + 1)) ∷ []) where
  -- the one event is that of a load
  pub events_are : (records : List (List Value)) → cut ≡ cut_by plan records → events ≡ load_events plan custom records
  events_are records cut_is =
      is ∙ (ap (λ (n : ℕ). Rounds (64 * (node_count plan custom cut.records + n + 1)) ∷ []) b_is
      ∙ ap (λ (k : Cut). Rounds (64 * (node_count plan custom k.records + batch_count (length k.records) k.size + 1)) ∷ []) cut_is)

  -- and its rounds are enough
  pub rounds_serve : plan.attempts ≡ 4 → HasRounds plan (rounds_needed plan custom cut) (all_steps plan events)
  rounds_serve four =
      let count : ℕ = 64 * (node_count plan custom cut.records + b + 1) in
      let enough : count ≡ rounds_needed plan custom cut =
      ap (λ (n : ℕ). 64 * (node_count plan custom cut.records + n + 1)) b_is
      ∙ ap (λ (k : ℕ). 16 * k * (node_count plan custom cut.records + batch_count (length cut.records) cut.size + 1)) (sym four)
      in
      subst (λ (es : List Event). HasRounds plan (rounds_needed plan custom cut) (all_steps plan es)) (sym is)
      (subst (λ (n : ℕ). HasRounds plan n (all_steps plan (Rounds count ∷ []))) enough (rounds_of_load plan count))

  pub few_ticks : plan.buckets ≡ 3 → ticks_of_schedule plan events < plan.buckets
  few_ticks three =
      let none : ticks_of_schedule plan events ≡ 0 =
      ap (ticks_of_schedule plan) is ∙ no_ticks_of_load plan (64 * (node_count plan custom cut.records + b + 1))
      in omega arith

  pub shuts_none : All ShutsNone (all_steps plan events)
  shuts_none =
      subst (λ (es : List Event). All ShutsNone (all_steps plan es)) (sym is)
      (open_of_load plan (64 * (node_count plan custom cut.records + b + 1)))

-- ---- what it comes to

module _ (custom : Custom) (base : RunUse) (count seed : ℕ) (fates : List Attempt) where
  pub load_of_work : (plan : Topology) → IsFilePlan load_text plan → (s : Status) (text : List ℕ)
      → WorkStops (ReplayEndsSo custom plan (records_after count seed) (load_events plan custom (records_after count seed)) base fates) (IsNotBegun base fates ⊎ IsShort custom plan (records_after count seed) base fates) s text
      → LoadComes custom base count seed fates s text
  load_of_work plan file status.Memory text (inl idle) = inl idle
  load_of_work plan file status.Memory text (inr short) = inr (record { plan = plan; is_plan = file; comes = short })
  load_of_work plan file status.Exhausted text comes = (comes.0, record { plan = plan; is_plan = file; comes = comes.1 })
  load_of_work plan file status.Unfinished text comes = (comes.0, record { plan = plan; is_plan = file; comes = comes.1 })
  load_of_work plan file status.StoreFault text comes = record { plan = plan; is_plan = file; comes = comes }
  load_of_work plan file status.BadCell text comes = (comes.0, record { plan = plan; is_plan = file; comes = comes.1 })
  load_of_work plan file _ text comes = absurd comes
