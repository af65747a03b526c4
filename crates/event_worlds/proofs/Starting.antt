-- The first world.
use Rattle.std.proofs.Common.{◌≡◌, ◌<◌, ◌≤◌, ℕ, zero, suc, ◌+◌, ◌==◌, nat_lt, ltb-true, ltb-false, Bool, true, false, cond, eqb-true, eq-eqb, [], ◌∷◌, ◌++◌, length, map, replicate, refl, ap, ◌∙◌, arith}
use Rattle.std.specs.List.{AllByRecursion, range_with_len}
use Rattle.std.proofs.lemmas.List.FromFn.{get_or-map-range_with_len, map-range_with_len_more}
use Rattle.commit_order.specs.acker_core.Entries.{AreSilent}
use Rattle.commit_order.specs.bolt_ops.RowOp.{Custom}
use Rattle.commit_order.specs.commit_turns.Account.{desk_of, ends_of}
use Rattle.commit_order.specs.commit_turns.Desks.{first_desk}
use Rattle.commit_order.specs.commit_turns.Kept.{IsKept}
use Rattle.commit_order.specs.counted_items.Weights.{weigh}
use Rattle.commit_order.proofs.counted_items.Weighing.{weigh-push}
use Rattle.event_worlds.specs.Accounted.{IsCounted, IsInput, LedTo, station_of, weigh_ackers, weigh_tasks}
use Rattle.event_worlds.specs.Added.{first_history, first_start}
use Rattle.event_worlds.specs.Worlds.{AckerSide, TaskSide, first_counts, first_known, first_task, first_world, no_acker, no_task, origin_of, task_at}
use Rattle.event_worlds.proofs.Leading.{fits-alike}
use Rattle.event_worlds.proofs.Orderly.{orderly-first}
use Rattle.commit_order.proofs.output_collector.Lanes.{few_subs}
use Rattle.commit_order.specs.storm_values.declared.value.Root.{Root}
use Rattle.commit_order.specs.topology_plan.declared.parts.Origin.{Origin}
use Rattle.commit_order.specs.topology_plan.declared.parts.Origin.TheVariants as origin
use Rattle.commit_order.specs.topology_plan.Topology.{Topology, component_of, subs_of, tasks_in_all}
use Rattle.commit_order.specs.tree_model.declared.messages.AckMsg.{AckMsg}
use Rattle.commit_order.specs.taken_records.Cuts.{Cut}
use Rattle.commit_order.specs.tuple_account.Drawn.{started}
use Rattle.commit_order.specs.tuple_account.Fits.{Fits}
use Rattle.commit_order.specs.tuple_account.Histories.{Packet, Start, nothing, start_spans}
use Rattle.commit_order.specs.tuple_account.Moves.{Moves, empty}
use Rattle.commit_order.specs.tuple_account.Parts.{weigh_entries}
use Rattle.commit_order.specs.tuple_account.Stretches.{sum_below}
use Rattle.commit_order.proofs.tuple_account.Sourcing.{all-sources}

-- ---- sources one after another

sum-range : {X : Type 0} (f : X → ℕ) (g : ℕ → X) (n : ℕ) → weigh f (map g (range_with_len 0 n)) ≡ sum_below (λ i. f (g i)) n
sum-range f g zero = refl
sum-range f g (suc n) =
    let more : map g (range_with_len 0 (suc n)) ≡ map g (range_with_len 0 n) ++ g n ∷ [] =
    (ap (λ (k : ℕ). map g (range_with_len 0 k)) (let e : suc n ≡ n + 1 = omega arith in e) ∙ map-range_with_len_more g 0 n n (omega arith)) in
    ap (weigh f) more ∙ weigh-push f (map g (range_with_len 0 n)) (g n) ∙ ap (λ (k : ℕ). k + f (g n)) (sum-range f g n)

none-above : (c : ℕ → ℕ) (s n : ℕ) → n ≤ s → sum_below (λ i. cond (s == i) (c i) 0) n ≡ 0
none-above c s zero above = refl
none-above c s (suc n) above = cases (s == n) refl (none-above c s n (omega arith))
  where
    cases : (b : Bool) → (s == n) ≡ b → sum_below (λ i. cond (s == i) (c i) 0) n ≡ 0 → sum_below (λ i. cond (s == i) (c i) 0) n + cond b (c n) 0 ≡ 0
    cases true is rest = let same = eqb-true s n is in absurd (omega arith)
    cases false is rest = omega arith

-- no more than the source's own
own-alone : (c : ℕ → ℕ) (s n : ℕ) → sum_below (λ i. cond (s == i) (c i) 0) n ≤ c s
own-alone c s zero = omega arith
own-alone c s (suc n) = cases (s == n) refl (own-alone c s n)
  where
    cases : (b : Bool) → (s == n) ≡ b → sum_below (λ i. cond (s == i) (c i) 0) n ≤ c s → sum_below (λ i. cond (s == i) (c i) 0) n + cond b (c n) 0 ≤ c s
    cases true is rest = let same = eqb-true s n is in let none = none-above c s n (omega arith) in let e = ap c same in omega arith
    cases false is rest = omega arith

-- ---- empty boxes

module _ (t : Topology) (words : ℕ → ℕ → ℕ) where
  no_tuples : (f : Packet → ℕ) (a b n : ℕ) → weigh_tasks f a (map (first_task t words) (range_with_len b n)) ≡ 0
  no_tuples f a b zero = refl
  no_tuples f a b (suc n) = let rest = no_tuples f (a + 1) (b + 1) n in omega arith

no_messages : (f : Packet → ℕ) (a n : ℕ) → weigh_ackers f a (replicate n no_acker) ≡ 0
no_messages f a zero = refl
no_messages f a (suc n) = let rest = no_messages f (a + 1) n in omega arith

no_entries : (g : Root → AckMsg → ℕ) (n : ℕ) → weigh (λ (side : AckerSide). weigh_entries g side.entries) (replicate n no_acker) ≡ 0
no_entries g zero = refl
no_entries g (suc n) = let rest = no_entries g n in omega arith

all_silent : (n : ℕ) → AllByRecursion (λ (side : AckerSide). AreSilent side.entries) (replicate n no_acker)
all_silent zero = tt
all_silent (suc n) = (tt, all_silent n)

module _ (t : Topology) (custom : Custom) (cut : Cut) (words : ℕ → ℕ → ℕ) (input : IsInput t cut) where
  few : (from : Origin) → length (subs_of t from) ≤ 40
  few from = few_subs t from input.valid input.wired

  few_first : (s : ℕ) → first_counts t words s ≤ 40
  few_first s = cases (nat_lt s (tasks_in_all t + 1))
    where
      cases : (b : Bool) → cond b (length (subs_of t (origin_of t words s))) 0 ≤ 40
      cases true = few (origin_of t words s)
      cases false = omega arith

  none_past : (s : ℕ) → tasks_in_all t + 1 ≤ s → first_counts t words s ≡ 0
  none_past s past = cases (nat_lt s (tasks_in_all t + 1)) refl
    where
      cases : (b : Bool) → nat_lt s (tasks_in_all t + 1) ≡ b → cond b (length (subs_of t (origin_of t words s))) 0 ≡ 0
      cases true is = let below = ltb-true s (tasks_in_all t + 1) is in absurd (omega arith)
      cases false is = refl

  first_there : (s : ℕ) → s < tasks_in_all t + 1 → first_counts t words s ≡ length (subs_of t (origin_of t words s))
  first_there s there = cases (nat_lt s (tasks_in_all t + 1)) refl
    where
      cases : (b : Bool) → nat_lt s (tasks_in_all t + 1) ≡ b → cond b (length (subs_of t (origin_of t words s))) 0 ≡ length (subs_of t (origin_of t words s))
      cases true is = refl
      cases false is = let above = ltb-false s (tasks_in_all t + 1) is in absurd (omega arith)

  task_origin : (s : ℕ) → s < tasks_in_all t → origin_of t words s ≡ origin.Component (component_of t s)
  task_origin s there = cases (s == tasks_in_all t) refl
    where
      cases : (b : Bool) → (s == tasks_in_all t) ≡ b → cond b origin.Spout (origin.Component (component_of t s)) ≡ origin.Component (component_of t s)
      cases true is = let same = eqb-true s (tasks_in_all t) is in absurd (omega arith)
      cases false is = refl

  spout_origin : origin_of t words (tasks_in_all t) ≡ origin.Spout
  spout_origin =
      ap (λ (b : Bool). cond b origin.Spout (origin.Component (component_of t (tasks_in_all t)))) (eq-eqb (tasks_in_all t) (tasks_in_all t) refl)

  moves : Moves t custom empty (first_history t words) (station_of (first_known t cut words))
  moves = record {
    packets = λ f. let a = no_tuples t words f 0 0 (tasks_in_all t) in let b = no_messages f 0 t.ackers in omega arith;
    notes = λ g. let a = no_entries g t.ackers in omega arith;
    draws = λ s j.
        let a = sum-range (start_spans s j) (first_start t words) (tasks_in_all t + 1) in
        let b = all-sources (first_counts t words) (tasks_in_all t + 1) none_past s j in omega arith;
    well = record { begun = tt; runs = tt; told = tt };
  }

  counted : IsCounted t (first_known t cut words)
  counted = record {
    tasks = λ n there.
        let at : (task_at t n (first_world t cut words)).stand.given ≡ length (subs_of t (origin.Component (component_of t n))) =
        ap (λ (side : TaskSide). side.stand.given) (get_or-map-range_with_len (first_task t words) 0 (tasks_in_all t) n n (no_task t) there (omega arith)) in
        let own = first_there n (omega arith) ∙ ap (λ (from : Origin). length (subs_of t from)) (task_origin n there) in
        let small = few (origin.Component (component_of t n)) in omega arith;
    spout =
        let own = first_there (tasks_in_all t) (omega arith) ∙ ap (λ (from : Origin). length (subs_of t from)) spout_origin in
        let small = few origin.Spout in omega arith;
  }

  few_starts : (s : ℕ) → started s (first_history t words) ≤ 40
  few_starts s =
      let a = sum-range (λ (x : Start). cond (s == x.source) x.count 0) (first_start t words) (tasks_in_all t + 1) in
      let b = own-alone (first_counts t words) s (tasks_in_all t + 1) in
      let c = few_first s in omega arith

  -- start words alone led to the first world
  pub led-first : IsKept t cut (first_desk cut) [] → Fits t (desk_of cut (first_desk cut)) (ends_of []) nothing
      → LedTo t custom cut words (first_history t words) (first_known t cut words)
  led-first kept fits = record {
    reached = record { moves = moves; once = λ root. omega arith };
    drawn = record { of_begun = tt; of_runs = tt };
    starts = few_starts;
    orderly = orderly-first t cut input words;
    counted = counted;
    kept = kept;
    fits = fits-alike t (desk_of cut (first_desk cut)) (ends_of []) nothing (first_history t words) refl refl fits;
    spans = record { waits = tt; ends = tt };
    silent = all_silent t.ackers;
    ticks = omega arith;
    unheard = omega arith;
    last = omega arith;
  }
