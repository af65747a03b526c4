-- Where nothing stands in a world in which nothing was lost, all pending attempts are settled.
use Rattle.std.proofs.Common.{◌≡◌, ◌≢◌, ◌<◌, ◌≤◌, inl, inr, ℕ, zero, suc, ◌+◌, ◌-◌, nat_lt, Bool, true, false, cond, List, [], ◌∷◌, length, get_or, map, slice_get, Option, None, refl, sym, ap, ◌∙◌, subst, arith}
use Rattle.std.specs.Prelude.{All, sum_by}
use Rattle.std.specs.List.{AllByRecursion, flat_map}
use Rattle.std.specs.Option.{option_map_or}
use Rattle.std.proofs.lemmas.Bool.{and_parts, cases_eq, le-ltb, ltb-false, ltb-true}
use Rattle.std.proofs.lemmas.List.Sums.{sum_by-cons}
use Rattle.std.proofs.lemmas.Option.{slice_get-get_or}
use Rattle.event_worlds.specs.acker_core.Entries.{tell}
use Rattle.event_worlds.specs.bolt_ops.Operations.{fails_at, is_failing, is_mute_at, is_silent, out}
use Rattle.event_worlds.specs.bolt_ops.RowOp.{Custom}
use Rattle.event_worlds.specs.bolt_ops.declared.operation.Outcome.TheVariants as outcome
use Rattle.event_worlds.specs.commit_turns.declared.wait.Wait.{Wait}
use Rattle.event_worlds.specs.commit_turns.Account.{desk_of, ends_of, waits_of}
use Rattle.event_worlds.specs.counted_items.Weights.{weigh}
use Rattle.event_worlds.proofs.counted_items.Each.{each-both, each-flat_map, each-map, each-weaker}
use Rattle.event_worlds.proofs.counted_items.Weighing.{each-weighs, weigh-flat_map, weigh-map, weigh-le_each, weigh-zero}
use Rattle.event_worlds.specs.Accounted.{station_of, weigh_ackers, weigh_tasks}
use Rattle.event_worlds.specs.Worlds.{AckerSide, Known, TaskSide, no_acker, no_task}
use Rattle.event_worlds.specs.rotating_ledger.Held.{Held}
use Rattle.event_worlds.specs.storm_values.declared.value.Root.{Root}
use Rattle.event_worlds.specs.storm_values.declared.value.Value.{Value}
use Rattle.event_worlds.specs.topology_plan.declared.parts.Body.{Body}
use Rattle.event_worlds.specs.topology_plan.declared.parts.Body.TheVariants.{Bolt, State}
use Rattle.event_worlds.specs.topology_plan.declared.parts.Component.{Component}
use Rattle.event_worlds.specs.topology_plan.declared.parts.Op.{Op}
use Rattle.event_worlds.specs.topology_plan.declared.function.Attempts.{Attempts}
use Rattle.event_worlds.specs.topology_plan.declared.function.Attempts.TheVariants.{MakeRows, FailBelow, MuteBelow}
use Rattle.event_worlds.specs.topology_plan.Functions.{shape}
use Rattle.event_worlds.specs.topology_plan.Topology.{Topology, component_from, component_of, tasks_in_all}
use Rattle.event_worlds.specs.topology_plan.Valid.{IsValid}
use Rattle.event_worlds.specs.tree_model.declared.messages.AckMsg.{AckMsg}
use Rattle.event_worlds.specs.tree_model.declared.messages.Parcel.TheVariants.{ToTask, ToAcker}
use Rattle.event_worlds.specs.tree_model.declared.messages.Tuple.{Tuple}
use Rattle.event_worlds.specs.tree_model.Courses.{course_at, course_by, course_of}
use Rattle.event_worlds.specs.tree_model.Trees.{node_count, nodes_of}
use Rattle.event_worlds.specs.taken_records.Cuts.{Cut}
use Rattle.event_worlds.specs.tuple_account.Ends.{Waits}
use Rattle.event_worlds.specs.tuple_account.Fits.{is_tried}
use Rattle.event_worlds.specs.tuple_account.Histories.{Execution, History, IsTaskOf, Opening, Packet, acker_of, of_parcel, of_verdict, on_tuple, opens, taken, weigh_parcels}
use Rattle.event_worlds.specs.tuple_account.Histories as histories
use Rattle.event_worlds.specs.tuple_account.Moves.{Reached, Station, account_of}
use Rattle.event_worlds.specs.tuple_account.Sound.{IsRouted}
use Rattle.event_worlds.specs.tuple_account.Stuck.{IsStuck, holds}
use Rattle.event_worlds.proofs.tuple_account.Reading.{few, packets, rows_are_found, tuples_weight}
use Rattle.event_worlds.proofs.tuple_account.Routing as routing
use Rattle.event_worlds.proofs.tuple_account.Settling as settling
use Rattle.event_worlds.specs.tuple_account.Accounts.{is_of}
use Rattle.event_worlds.specs.tuple_account.Accounts as tuples
use Rattle.event_worlds.specs.tuple_account.Issued.{course_of_run}
use Rattle.event_worlds.specs.tuple_tickets.Roots.{root_eq}
use Rattle.event_worlds.specs.tuple_tickets.Trees.{fails, goes, mute}
use Rattle.event_worlds.proofs.tuple_tickets.Roots.{root_itself, same_root}
use Rattle.event_worlds.specs.Rounds.{CanFinish, EndsByAttempts, EndsByBody, EndsByOp}
use Rattle.world_progress.proofs.Answering.{IsIdleSide}
use Rattle.world_progress.specs.Lasting.{Lasting}
use Rattle.world_progress.proofs.Phases.{IsEmpty}
use Rattle.world_progress.specs.Young.{AreYoung}

-- ---- nothing waits

tasks-none : (f : Packet → ℕ) (a : ℕ) (sides : List TaskSide) (d : TaskSide) → ((i : ℕ) → i < length sides → ((get_or sides i d).inbox ≡ []) × ((get_or sides i d).outbox ≡ [])) → weigh_tasks f a sides ≡ 0
tasks-none f a [] d all = refl
tasks-none f a (side ∷ sides) d all =
    let here = all 0 (omega arith) in
    let x : weigh (λ (tuple : Tuple). f (of_parcel (ToTask a tuple))) side.inbox ≡ 0 = ap (weigh (λ (tuple : Tuple). f (of_parcel (ToTask a tuple)))) here.0 in
    let y : weigh_parcels f side.outbox ≡ 0 = ap (weigh_parcels f) here.1 in
    let rest = tasks-none f (a + 1) sides d (λ i below. all (suc i) (omega arith)) in omega arith

ackers-none : (f : Packet → ℕ) (a : ℕ) (sides : List AckerSide) (d : AckerSide) → ((i : ℕ) → i < length sides → IsIdleSide (get_or sides i d)) → weigh_ackers f a sides ≡ 0
ackers-none f a [] d all = refl
ackers-none f a (side ∷ sides) d all =
    let here = all 0 (omega arith) in
    let x : weigh (λ (m : AckMsg). f (of_parcel (ToAcker a m))) side.inbox ≡ 0 = ap (weigh (λ (m : AckMsg). f (of_parcel (ToAcker a m)))) here.inbox in
    let y = ap (weigh (λ v. f (of_verdict v))) here.outbox in
    let rest = ackers-none f (a + 1) sides d (λ i below. all (suc i) (omega arith)) in omega arith

-- ---- each root has one entry at most

all_zero : {X : Type 0} (f : X → ℕ) (xs : List X) (d : X) → ((i : ℕ) → i < length xs → f (get_or xs i d) ≡ 0) → weigh f xs ≡ 0
all_zero f [] d all = refl
all_zero f (x ∷ xs) d all = let z = all 0 (omega arith) in let rest = all_zero f xs d (λ i below. all (suc i) (omega arith)) in omega arith

-- items that weigh 1 at most, and only at one number
only_there : {X : Type 0} (f : X → ℕ) (a n : ℕ) (xs : List X) (d : X) → ((i : ℕ) → i < length xs → f (get_or xs i d) ≤ 1) → ((i : ℕ) → i < length xs → (a + i ≡ n → ⊥) → f (get_or xs i d) ≡ 0)
    → weigh f xs ≤ 1
only_there f a n [] d one none = omega arith
only_there f a n (x ∷ xs) d one none =
    elim (cases_eq a n) [
      | inl same ↦ (let l = one 0 (omega arith) in let z = all_zero f xs d (λ i below. none (suc i) (omega arith) (λ e. omega arith)) in omega arith)
      | inr differ ↦ (let z = none 0 (omega arith) (λ e. differ (omega arith)) in
          let rest = only_there f (a + 1) n xs d (λ i below. one (suc i) (omega arith)) (λ i below other. none (suc i) (omega arith) (λ e. other (omega arith))) in omega arith)
    ]

away : (t : Topology) (n most : ℕ) (es : List (Held (List AckMsg))) (root : Root) → AreYoung t n most es → (n ≡ acker_of t root → ⊥) → weigh (holds root) es ≡ 0
away t n most es root young other =
    let l = weigh-le_each (holds root) (λ (e : Held (List AckMsg)). 0) (λ (e : Held (List AckMsg)). (e.age ≤ most) × (acker_of t e.root ≡ n)) (λ e is. by e (root_eq e.root root) refl is.1) es young.each in
    let z = weigh-zero (λ (e : Held (List AckMsg)). 0) (λ e. refl) es in omega arith
  where
    by : (e : Held (List AckMsg)) (b : Bool) → root_eq e.root root ≡ b → acker_of t e.root ≡ n → cond {A = ℕ} b 1 0 ≤ 0
    by e false is here = omega arith
    by e true is here = absurd (other (sym here ∙ ap (acker_of t) (same_root e.root root is)))

-- ---- no operation stays mute

speaks_by : (t : Topology) (attempts : Attempts) (attempt : ℕ) → 1 ≤ attempt → EndsByAttempts t attempts → is_silent attempts attempt ≡ false
speaks_by t MakeRows attempt some ends = refl
speaks_by t (FailBelow below) attempt some ends = refl
speaks_by t (MuteBelow below) attempt some ends = le-ltb attempt below (omega arith)

never_mute : (t : Topology) (o : Op) (attempt : ℕ) → 1 ≤ attempt → EndsByOp t o → is_mute_at o attempt ≡ false
never_mute t o attempt some ends = speaks_by t (shape o.function).attempts attempt some ends

last_by : (t : Topology) (attempts : Attempts) (attempt : ℕ) → t.attempts ≤ attempt → EndsByAttempts t attempts → is_failing attempts attempt ≡ false
last_by t MakeRows attempt last ends = refl
last_by t (FailBelow below) attempt last ends = let few = ends.0 in le-ltb attempt below (omega arith)
last_by t (MuteBelow below) attempt last ends = refl

pub at_last : (t : Topology) (o : Op) (attempt : ℕ) → t.attempts ≤ attempt → EndsByOp t o → fails_at o attempt ≡ false
at_last t o attempt last ends = last_by t (shape o.function).attempts attempt last ends

first_by : (t : Topology) (attempts : Attempts) (attempt : ℕ) → 0 < t.partitions → 1 ≤ attempt → EndsByAttempts t attempts → is_failing attempts attempt ≡ false
first_by t MakeRows attempt some first ends = refl
first_by t (FailBelow below) attempt some first ends = let few = ends.1 some in le-ltb attempt below (omega arith)
first_by t (MuteBelow below) attempt some first ends = refl

pub at_first : (t : Topology) (o : Op) (attempt : ℕ) → 0 < t.partitions → 1 ≤ attempt → EndsByOp t o → fails_at o attempt ≡ false
at_first t o attempt some first ends = first_by t (shape o.function).attempts attempt some first ends

goes_mute : goes ≡ mute → ⊥
goes_mute e = cc

fails_mute : fails ≡ mute → ⊥
fails_mute e = cc

body_speaks : (t : Topology) (custom : Custom) (body : Body) (row : List Value) (attempt : ℕ) → 1 ≤ attempt → EndsByBody t body → course_by custom body row attempt ≢ mute
body_speaks t custom (State spec) row attempt some ends = goes_mute
body_speaks t custom (Bolt o) row attempt some ends = by (fails_at o attempt) (is_mute_at o attempt) (never_mute t o attempt some ends)
  where
    by : (f m : Bool) → m ≡ false → course_of (cond f outcome.Fail (cond m outcome.Mute (outcome.Rows (out custom o row)))) ≢ mute
    by true m off = fails_mute
    by false false off = goes_mute
    by false true off = absurd (never off)
      where
        never : true ≡ false → ⊥
        never e = cc

component_there : (c n : ℕ) (components : List Component) → n < sum_by (λ (component : Component). component.tasks) components → component_from c n components < c + length components
component_there c n [] below = absurd (omega arith)
component_there c n (component ∷ components) below =
    by (nat_lt n component.tasks) refl (λ later. component_there (c + 1) (n - component.tasks) components later)
  where
    by : (b : Bool) → nat_lt n component.tasks ≡ b → (n - component.tasks < sum_by (λ (other : Component). other.tasks) components → component_from (c + 1) (n - component.tasks) components < (c + 1) + length components)
        → cond b c (component_from (c + 1) (n - component.tasks) components) < c + suc (length components)
    by true is later = omega arith
    by false is later =
        let past = ltb-false n component.tasks is in
        let more = sum_by-cons (λ (other : Component). other.tasks) component components in
        let l = later (omega arith) in omega arith

pub component_in : (t : Topology) (n : ℕ) → n < tasks_in_all t → component_of t n < length t.components
component_in t n there = let l = component_there 0 n t.components there in omega arith

module _ (t : Topology) (custom : Custom) (can : CanFinish t) where
  speaks : (c : ℕ) (row : List Value) (attempt : ℕ) → c < length t.components → 1 ≤ attempt → course_at t custom attempt (record { component = c; row = row }) ≢ mute
  speaks c row attempt there some = by t.components there can
    where
      by : (cs : List Component) → c < length cs → All (λ (x : Component). EndsByBody t x.body) cs → option_map_or (λ (x : Component). course_by custom x.body row attempt) (slice_get cs c) mute ≢ mute
      by [] below all = absurd (omega arith)
      by (x ∷ xs) below all = subst (λ (o : Option Component). option_map_or (λ (y : Component). course_by custom y.body row attempt) o mute ≢ mute) (sym (slice_get-get_or (x ∷ xs) c x below))
          (body_speaks t custom (get_or (x ∷ xs) c x).body row attempt some (all c x below))

-- ---- runs

module _ (t : Topology) (custom : Custom) (h : History) (b : Station) (reached : Reached t custom h b) where
  -- each run was at a task of its tuple's component
  runs_at_home : AllByRecursion (λ (e : Execution). IsTaskOf t e.run.tuple.component e.run.task) h.runs
  runs_at_home =
      each-map (IsRouted t) (λ (e : Execution). of_parcel (ToTask e.run.task e.run.tuple)) h.runs
      (routing.routed t custom h b reached (map (λ (e : Execution). of_parcel (ToTask e.run.task e.run.tuple)) h.runs) within)
    where
      within : (f : Packet → ℕ) → weigh f (map (λ (e : Execution). of_parcel (ToTask e.run.task e.run.tuple)) h.runs) ≤ b.waiting f + taken f h
      within f = let m = weigh-map f (λ (e : Execution). of_parcel (ToTask e.run.task e.run.tuple)) h.runs in omega arith

  -- a tuple that ran was issued
  pub runs_issued : (f : Tuple → ℕ) → weigh (λ (e : Execution). f e.run.tuple) h.runs ≤ weigh f (tuples.issued t custom (account_of h b))
  runs_issued f = let p = packets t custom h b reached (on_tuple f) in let i = tuples_weight t custom h b reached f in omega arith

-- the rows of a root that was not begun
rows_none : (root : Root) (os : List Opening) → weigh (opens root) os ≡ 0 → histories.rows_in os root ≡ []
rows_none root [] none = refl
rows_none root (o ∷ os) none = by (root_eq o.begun.root root) refl (λ later. rows_none root os later)
  where
    by : (c : Bool) → root_eq o.begun.root root ≡ c → (weigh (opens root) os ≡ 0 → histories.rows_in os root ≡ []) → cond c o.begun.rows (histories.rows_in os root) ≡ []
    by false is later = later (omega arith)
    by true is later = let one : opens root o ≡ 1 = ap (λ (c : Bool). cond {A = ℕ} c 1 0) is in absurd (omega arith)

pub no_nodes : (t : Topology) (custom : Custom) → node_count t custom [] ≡ 0
unfolding nodes_of
no_nodes t custom = refl

module _ (t : Topology) (custom : Custom) (h : History) (b : Station) (reached : Reached t custom h b) (valid : IsValid t) where
  -- the root of an issued tuple was begun
  pub was_begun : (x : Tuple) → ((f : Tuple → ℕ) → f x ≤ weigh f (tuples.issued t custom (account_of h b))) → 1 ≤ weigh (opens x.root) h.begun
  was_begun x stands = by (weigh (opens x.root) h.begun) refl
    where
      by : (n : ℕ) → weigh (opens x.root) h.begun ≡ n → 1 ≤ n
      by (suc n) is = omega arith
      by zero is =
          let here : is_of x.root x ≡ 1 = ap (λ (c : Bool). cond {A = ℕ} c 1 0) (root_itself x.root x.root refl) in
          let s = stands (is_of x.root) in
          let l = few t custom h b reached (histories.rows_in h.begun) (rows_are_found t custom h b reached) valid x.root in
          let r = ap (node_count t custom) (rows_none x.root h.begun is) ∙ no_nodes t custom in absurd (omega arith)

-- the attempts that were begun have numbers from 1 on
tried_some : (tries : ℕ → ℕ) (root : Root) → is_tried tries root ≡ true → (1 ≤ root.attempt) × (root.attempt ≤ tries root.txid)
tried_some tries root is =
    let both = and_parts (nat_lt 0 root.attempt) (nat_lt root.attempt (tries root.txid + 1)) is in
    let low = ltb-true 0 root.attempt both.0 in
    let high = ltb-true root.attempt (tries root.txid + 1) both.1 in (omega arith, omega arith)

pub begun_tried : (tries : ℕ → ℕ) (root : Root) (os : List Opening) → weigh (opens root) os ≡ cond (is_tried tries root) 1 0 → 1 ≤ weigh (opens root) os → (1 ≤ root.attempt) × (root.attempt ≤ tries root.txid)
begun_tried tries root os is some = by (is_tried tries root) refl is
  where
    by : (c : Bool) → is_tried tries root ≡ c → weigh (opens root) os ≡ cond c 1 0 → (1 ≤ root.attempt) × (root.attempt ≤ tries root.txid)
    by true on e = tried_some tries root on
    by false off e = absurd (omega arith)

module _ (t : Topology) (custom : Custom) (cut : Cut) (words : ℕ → ℕ → ℕ) (valid : IsValid t) (can : CanFinish t) (h : History) (k : Known) (last : Lasting t custom cut words h k) where
  abbrev b : Station
  b = station_of k

  none_mute : AllByRecursion (λ (e : Execution). course_of_run t custom e.run ≢ mute) h.runs
  none_mute =
      each-weaker (λ (e : Execution). IsTaskOf t e.run.tuple.component e.run.task × ((f : Execution → ℕ) → f e ≤ weigh f h.runs)) (λ (e : Execution). course_of_run t custom e.run ≢ mute) one h.runs
      (each-both (λ (e : Execution). IsTaskOf t e.run.tuple.component e.run.task) (λ (e : Execution). (f : Execution → ℕ) → f e ≤ weigh f h.runs) h.runs (runs_at_home t custom h b last.led.reached) (each-weighs h.runs))
    where
      one : (e : Execution) → IsTaskOf t e.run.tuple.component e.run.task × ((f : Execution → ℕ) → f e ≤ weigh f h.runs) → course_of_run t custom e.run ≢ mute
      one e both =
          let begun = was_begun t custom h b last.led.reached valid e.run.tuple (λ f. let l = both.1 (λ (x : Execution). f x.run.tuple) in let i = runs_issued t custom h b last.led.reached f in omega arith) in
          let tried = begun_tried (desk_of cut k.world.desk).tries e.run.tuple.root h.begun (last.led.fits.numbered e.run.tuple.root) begun in
          let there : e.run.tuple.component < length t.components = subst (λ (c : ℕ). c < length t.components) both.0.belongs (component_in t e.run.task both.0.there) in
          speaks t custom can e.run.tuple.component e.run.tuple.row e.run.tuple.root.attempt there tried.0

  distinct : (root : Root) → weigh (holds root) (flat_map (λ (side : AckerSide). side.entries) k.world.ackers) ≤ 1
  distinct root =
      let f = weigh-flat_map (holds root) (λ (side : AckerSide). side.entries) k.world.ackers in
      let o = only_there (λ (side : AckerSide). weigh (holds root) side.entries) 0 (acker_of t root) k.world.ackers no_acker (λ i below. (last.seats i).young.once root)
      (λ i below other. away t i (get_or k.world.ackers i no_acker).counted (get_or k.world.ackers i no_acker).entries root (last.seats i).young (λ e. other (omega arith))) in omega arith

  module _ (empty : IsEmpty t k.world) where
    none_waits : (f : Packet → ℕ) → b.waiting f ≡ 0
    none_waits f =
        let orderly = last.led.orderly in
        let c = orderly.task_count in
        let d = orderly.acker_count in
        let x = tasks-none f 0 k.world.tasks (no_task t) (λ i below. let e = empty.tasks i (omega arith) in (e.inbox, e.outbox)) in
        let y = ackers-none f 0 k.world.ackers no_acker (λ i below. empty.ackers i (omega arith)) in
        let u = ap (weigh (λ v. f (of_verdict v))) empty.verdicts in
        let v = ap (weigh_parcels f) empty.orders in omega arith

    stuck : IsStuck t custom h b (flat_map (λ (side : AckerSide). side.entries) k.world.ackers)
    stuck = record {
      none_waits = none_waits;
      none_mute = none_mute;
      none_dropped = last.whole;
      are_kept = λ g. sym (weigh-flat_map (λ (e : Held (List AckMsg)). weigh (g e.root) e.value) (λ (side : AckerSide). side.entries) k.world.ackers);
      distinct = distinct;
      silent = each-flat_map (λ (e : Held (List AckMsg)). tell e.root e.value ≡ None) (λ (side : AckerSide). side.entries) k.world.ackers last.led.silent;
    }

    pub all_settled : AllByRecursion (λ (w : Wait). w.settled ≢ None) k.world.desk.pending
    all_settled =
        each-map (λ (w : Waits). w.settled ≢ None) waits_of k.world.desk.pending
        (settling.settled t custom h b last.led.reached (flat_map (λ (side : AckerSide). side.entries) k.world.ackers) stuck (desk_of cut k.world.desk)
        (ends_of k.world.fates) last.led.fits)
