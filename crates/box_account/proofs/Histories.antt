-- What a history that went through boxes left in their taken lists: the tuples that were executed,
-- the messages that were met with their tuples, and the verdicts that were heard.
use Rattle.std.proofs.Common.{◌≡◌, ◌≤◌, ℕ, ◌+◌, ◌&&◌, Bool, cond, List, map, flat_map, refl, ap, ◌∙◌, subst, arith}
use Rattle.std.specs.Coded.{Coded, code_by, coded×, coded_ℕ, coded_list}
use Rattle.std.specs.List.{AllByRecursion}
use Rattle.event_worlds.specs.acker_core.declared.verdict.Verdict.{Verdict}
use Rattle.event_worlds.specs.bolt_ops.RowOp.{Custom}
use Rattle.box_account.specs.Taken.{TookTrue, WasHeard, WasTaken}
use Rattle.box_account.specs.Telling.{TookOnce, TookTuple}
use Rattle.box_account.proofs.Boxes.{all-weight, stands_there}
use Rattle.box_rows.specs.declared.mail.Mail.{Mail}
use Rattle.box_rows.specs.Rows.{taken_in}
use Rattle.event_worlds.specs.counted_items.Weights.{weigh}
use Rattle.event_worlds.proofs.counted_items.Each.{each-any, each-append, each-both, each-flat_map, each-map, each-to_map, each-weaker}
use Rattle.event_worlds.proofs.counted_items.Equality.{each-within}
use Rattle.event_worlds.proofs.counted_items.Weighing.{each-weighs, weigh-map}
use Rattle.event_worlds.specs.storm_values.declared.value.Root.{Root}
use Rattle.event_worlds.specs.storm_values.declared.value.Value.{Value}
use Rattle.task_queues.specs.declared.pass.Pass.{Pass}
use Rattle.event_worlds.specs.topology_plan.Topology.{Topology}
use Rattle.event_worlds.specs.tree_model.declared.messages.AckMsg.{AckMsg}
use Rattle.event_worlds.specs.tree_model.declared.messages.Parcel.TheVariants.{ToTask, ToAcker}
use Rattle.event_worlds.specs.tree_model.declared.messages.Tuple.{Tuple}
use Rattle.event_worlds.specs.tree_model.Lists.{root_of}
use Rattle.event_worlds.specs.tuple_account.Accounts.{IsNode, is_at, issued_notes}
use Rattle.event_worlds.specs.tuple_account.Accounts as tuples
use Rattle.event_worlds.specs.tuple_account.Histories.{Execution, History, IsTaskOf, Opening, Packet, Receipt, acker_of, of_parcel, of_verdict, on_tuple, taken}
use Rattle.event_worlds.specs.tuple_account.Issued.{Begun, Run, course_of_run, init_of, notes_by, notes_of}
use Rattle.event_worlds.specs.tuple_account.Moves.{AreRows, Reached, Station, account_of}
use Rattle.event_worlds.specs.tuple_account.Sound.{IsRouted}
use Rattle.event_worlds.proofs.tuple_account.Codes.{msg_code, value_code}
use Rattle.event_worlds.proofs.tuple_account.Reading.{met_issued, nodes, once, packets, tuples_weight}
use Rattle.event_worlds.proofs.tuple_account.Routing.{routed, runs_routed}
use Rattle.event_worlds.specs.tuple_tickets.declared.edge.Edge.{Edge}
use Rattle.event_worlds.specs.tuple_tickets.Paths.{path_eq}
use Rattle.event_worlds.specs.tuple_tickets.Trees.{Course, fails, goes, mute}
use Rattle.event_worlds.proofs.tuple_tickets.Codes.{edge_code, root_code}
use Rattle.event_worlds.proofs.tuple_tickets.Paths.{path_itself}
use Rattle.event_worlds.proofs.tuple_tickets.Roots.{root_itself}

tuple_code : Coded Tuple
tuple_code =
    code_by (Root × (Edge × (ℕ × List Value))) (coded× root_code (coded× edge_code (coded× coded_ℕ (coded_list value_code))))
    (λ x. (x.root, (x.edge, (x.component, x.row)))) (λ c. record { root = c.0; edge = c.1.0; component = c.1.1.0; row = c.1.1.1 }) (λ x. refl)

module _ (t : Topology) (custom : Custom) (h : History) (b : Station) (reached : Reached t custom h b) (rows_of : Root → List (List Value)) (rows_are : AreRows rows_of h.begun)
    (row : List (Pass Mail)) (took : TookTrue t row) (enough : (f : Packet → ℕ) → taken f h ≤ taken_in row f) (few : (f : Packet → ℕ) → taken_in row f ≤ b.waiting f + taken f h) where
  -- ---- what was executed, met and heard

  run_taken : (e : Execution) → ((g : Execution → ℕ) → g e ≤ weigh g h.runs) → WasTaken t row (ToTask e.run.task e.run.tuple)
  run_taken e some =
      stands_there t row took (of_parcel (ToTask e.run.task e.run.tuple))
      (λ f. let s = some (λ (x : Execution). f (of_parcel (ToTask x.run.task x.run.tuple))) in let n = enough f in omega arith)

  met_taken : (x : Receipt) → ((g : Receipt → ℕ) → g x ≤ weigh g h.met) → WasTaken t row (ToAcker x.acker x.message)
  met_taken x some =
      stands_there t row took (of_parcel (ToAcker x.acker x.message))
      (λ f. let s = some (λ (y : Receipt). f (of_parcel (ToAcker y.acker y.message))) in let n = enough f in omega arith)

  heard_taken : (v : Verdict) → ((g : Verdict → ℕ) → g v ≤ weigh g h.heard) → WasHeard t row v
  heard_taken v some = stands_there t row took (of_verdict v) (λ f. let s = some (λ (u : Verdict). f (of_verdict u)) in let n = enough f in omega arith)

  pub all_heard : AllByRecursion (WasHeard t row) h.heard
  all_heard = each-weaker (λ (v : Verdict). (g : Verdict → ℕ) → g v ≤ weigh g h.heard) (WasHeard t row) heard_taken h.heard (each-weighs h.heard)

  -- ---- tuples

  abbrev IsItsNode : Tuple → Type 0
  IsItsNode tuple = IsNode t custom rows_of tuple

  runs_nodes : AllByRecursion (λ (e : Execution). IsItsNode e.run.tuple) h.runs
  runs_nodes =
      each-map IsItsNode (λ (e : Execution). e.run.tuple) h.runs
      (each-within tuple_code IsItsNode (map (λ (e : Execution). e.run.tuple) h.runs) (tuples.issued t custom (account_of h b))
      (λ f. let p = packets t custom h b reached (on_tuple f) in let i = tuples_weight t custom h b reached f in let m = weigh-map f (λ (e : Execution). e.run.tuple) h.runs in omega arith)
      (nodes t custom h b reached rows_of rows_are))

  -- an execution that stands in the history
  record Executed (e : Execution) : Type 0 where
    stands : (g : Execution → ℕ) → g e ≤ weigh g h.runs
    node : IsItsNode e.run.tuple
    belongs : IsTaskOf t e.run.tuple.component e.run.task

  all_executed : AllByRecursion Executed h.runs
  all_executed =
      each-weaker (λ (e : Execution). ((g : Execution → ℕ) → g e ≤ weigh g h.runs) × (IsItsNode e.run.tuple × IsRouted t (of_parcel (ToTask e.run.task e.run.tuple)))) Executed
      (λ e is. record { stands = is.0; node = is.1.0; belongs = is.1.1 }) h.runs
      (each-both (λ (e : Execution). (g : Execution → ℕ) → g e ≤ weigh g h.runs) (λ (e : Execution). IsItsNode e.run.tuple × IsRouted t (of_parcel (ToTask e.run.task e.run.tuple))) h.runs (each-weighs h.runs)
      (each-both (λ (e : Execution). IsItsNode e.run.tuple) (λ (e : Execution). IsRouted t (of_parcel (ToTask e.run.task e.run.tuple))) h.runs runs_nodes (runs_routed t custom h b reached)))

  is_at-itself : (tuple : Tuple) → is_at tuple.root tuple.edge.path tuple ≡ 1
  is_at-itself tuple =
      ap (λ (c : Bool). cond {A = ℕ} (c && path_eq tuple.edge.path tuple.edge.path) 1 0) (root_itself tuple.root tuple.root refl)
      ∙ ap (λ (c : Bool). cond {A = ℕ} c 1 0) (path_itself tuple.edge.path)

  took_once : (e : Execution) → Executed e → TookOnce t custom row (rows_of e.run.tuple.root) e.run.tuple.root e.run.tuple.edge.path
  took_once e is = record {
    tuple = e.run.tuple;
    task = e.run.task;
    of_root = refl;
    of_path = refl;
    node = is.node;
    belongs = is.belongs;
    taken = run_taken e is.stands;
    once =
        (let f = on_tuple (is_at e.run.tuple.root e.run.tuple.edge.path) in
        let a = all-weight f row in
        let n = enough f in
        let m = few f in
        let p = packets t custom h b reached f in
        let i = tuples_weight t custom h b reached (is_at e.run.tuple.root e.run.tuple.edge.path) in
        let o = once t custom h b reached rows_of rows_are e.run.tuple.root e.run.tuple.edge.path in
        let s = is.stands (λ (x : Execution). is_at e.run.tuple.root e.run.tuple.edge.path x.run.tuple) in
        let z = is_at-itself e.run.tuple in omega arith);
  }

  -- ---- messages

  abbrev pub TookItsTuple : AckMsg → Type 0
  TookItsTuple m = TookTuple t custom row (rows_of (root_of m)) (root_of m) m

  run_notes : (e : Execution) → Executed e → (c : Course) → AllByRecursion TookItsTuple (notes_by t custom e.run c)
  unfolding took_once
  run_notes e is goes = ((took_once e is, refl), tt)
  run_notes e is fails = (took_once e is, tt)
  run_notes e is mute = tt

  all_notes : AllByRecursion TookItsTuple (issued_notes t custom (account_of h b))
  all_notes =
      each-append TookItsTuple (map (init_of t) (map (λ (o : Opening). o.begun) h.begun)) (flat_map (notes_of t custom) (map (λ (e : Execution). e.run) h.runs))
      (each-to_map TookItsTuple (init_of t) (map (λ (o : Opening). o.begun) h.begun) (each-any (λ (o : Begun). TookItsTuple (init_of t o)) (λ o. tt) (map (λ (o : Opening). o.begun) h.begun)))
      (each-flat_map TookItsTuple (notes_of t custom) (map (λ (e : Execution). e.run) h.runs)
      (each-to_map (λ (u : Run). AllByRecursion TookItsTuple (notes_of t custom u)) (λ (e : Execution). e.run) h.runs
      (each-weaker Executed (λ (e : Execution). AllByRecursion TookItsTuple (notes_of t custom e.run)) (λ e is. run_notes e is (course_of_run t custom e.run)) h.runs all_executed)))

  abbrev messages_met : List AckMsg
  messages_met = map (λ (x : Receipt). x.message) h.met

  -- a message was taken from the box of its root's acker, and so was its tuple
  abbrev pub TellsItself : AckMsg → Type 0
  TellsItself m = WasTaken t row (ToAcker (acker_of t (root_of m)) m) × TookItsTuple m

  abbrev met_packet : Receipt → Packet
  met_packet x = of_parcel (ToAcker x.acker x.message)

  met_routed : AllByRecursion (λ (x : Receipt). x.acker ≡ acker_of t (root_of x.message)) h.met
  met_routed = each-map (IsRouted t) met_packet h.met (routed t custom h b reached (map met_packet h.met) (λ f. let m = weigh-map f met_packet h.met in omega arith))

  met_at_acker : AllByRecursion (λ (m : AckMsg). WasTaken t row (ToAcker (acker_of t (root_of m)) m)) messages_met
  met_at_acker =
      each-to_map (λ (m : AckMsg). WasTaken t row (ToAcker (acker_of t (root_of m)) m)) (λ (x : Receipt). x.message) h.met
      (each-weaker (λ (x : Receipt). ((g : Receipt → ℕ) → g x ≤ weigh g h.met) × (x.acker ≡ acker_of t (root_of x.message))) (λ (x : Receipt). WasTaken t row (ToAcker (acker_of t (root_of x.message)) x.message))
      (λ x is. subst (λ (n : ℕ). WasTaken t row (ToAcker n x.message)) is.1 (met_taken x is.0)) h.met
      (each-both (λ (x : Receipt). (g : Receipt → ℕ) → g x ≤ weigh g h.met) (λ (x : Receipt). x.acker ≡ acker_of t (root_of x.message)) h.met (each-weighs h.met) met_routed))

  pub all_met : AllByRecursion TellsItself messages_met
  all_met =
      each-both (λ (m : AckMsg). WasTaken t row (ToAcker (acker_of t (root_of m)) m)) TookItsTuple messages_met met_at_acker
      (each-within msg_code TookItsTuple messages_met (issued_notes t custom (account_of h b)) (λ g. let m = met_issued t custom h b reached g in let w = weigh-map g (λ (x : Receipt). x.message) h.met in omega arith) all_notes)
