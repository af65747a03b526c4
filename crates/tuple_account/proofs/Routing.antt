-- Where packets go, and the codes of packets.
use Rattle.std.proofs.Common.{◌≡◌, ◌≤◌, ℕ, ◌+◌, ◌⊎◌, inl, inr, List, [], ◌∷◌, ◌++◌, map, flat_map, refl, arith}
use Rattle.std.specs.Coded.{Coded, code_by, coded×, coded⊎, coded_ℕ, coded_list}
use Rattle.std.specs.List.{AllByRecursion}
use Rattle.acker_core.specs.declared.verdict.Verdict.{Verdict}
use Rattle.acker_core.specs.declared.verdict.Verdict.TheVariants.{Complete, Fails}
use Rattle.tree_model.specs.bolt_ops.RowOp.{Custom}
use Rattle.tree_model.specs.counted_items.Weights.{weigh}
use Rattle.tree_model.proofs.counted_items.Each.{each-append, each-flat_map, each-map, each-to_map, each-weaker, each-any}
use Rattle.tree_model.proofs.counted_items.Equality.{each-within}
use Rattle.tree_model.proofs.counted_items.Weighing.{weigh-append, weigh-map, weigh-flat_map, weigh-same}
use Rattle.tree_model.specs.storm_values.declared.value.Root.{Root}
use Rattle.tree_model.specs.storm_values.declared.value.Value.{Value}
use Rattle.tree_model.specs.topology_plan.Topology.{Topology}
use Rattle.tree_model.specs.tuple_tickets.declared.edge.Edge.{Edge}
use Rattle.tree_model.proofs.tuple_tickets.Codes.{root_code, edge_code}
use Rattle.tree_model.specs.declared.messages.AckMsg.{AckMsg}
use Rattle.tree_model.specs.declared.messages.Parcel.{Parcel}
use Rattle.tree_model.specs.declared.messages.Parcel.TheVariants.{ToTask, ToAcker}
use Rattle.tree_model.specs.declared.messages.Tuple.{Tuple}
use Rattle.tuple_account.specs.Issued.{first_tuples, init_of, children_of, notes_of}
use Rattle.tuple_account.proofs.Codes.{value_code, msg_code}
use Rattle.tuple_account.specs.Histories.{Packet, of_parcel, of_verdict, Opening, Execution, Told, History, GoTo, IsOpening, IsExecution, to_tasks, to_acker, weigh_parcels, opening_parcels, execution_parcels, taken, issued}
use Rattle.tuple_account.specs.Moves.{Station, Reached}
use Rattle.tuple_account.specs.Sound.{IsRouted}

-- ---- codes

tuple_code : Coded Tuple
tuple_code =
    code_by (Root × (Edge × (ℕ × List Value))) (coded× root_code (coded× edge_code (coded× coded_ℕ (coded_list value_code))))
    (λ x. (x.root, (x.edge, (x.component, x.row)))) (λ c. record { root = c.0; edge = c.1.0; component = c.1.1.0; row = c.1.1.1 }) (λ x. refl)

abbrev parcel_out : Parcel → (ℕ × Tuple) ⊎ (ℕ × AckMsg)
parcel_out (ToTask task tuple) = inl (task, tuple)
parcel_out (ToAcker acker m) = inr (acker, m)

abbrev parcel_in : (ℕ × Tuple) ⊎ (ℕ × AckMsg) → Parcel
parcel_in (inl both) = ToTask both.0 both.1
parcel_in (inr both) = ToAcker both.0 both.1

parcel_back : (p : Parcel) → parcel_in (parcel_out p) ≡ p
parcel_back (ToTask task tuple) = refl
parcel_back (ToAcker acker m) = refl

parcel_code : Coded Parcel
parcel_code = code_by ((ℕ × Tuple) ⊎ (ℕ × AckMsg)) (coded⊎ (coded× coded_ℕ tuple_code) (coded× coded_ℕ msg_code)) parcel_out parcel_in parcel_back

abbrev verdict_out : Verdict → (Root × List AckMsg) ⊎ (Root × List ℕ)
verdict_out (Complete root list) = inl (root, list)
verdict_out (Fails root path) = inr (root, path)

abbrev verdict_in : (Root × List AckMsg) ⊎ (Root × List ℕ) → Verdict
verdict_in (inl both) = Complete both.0 both.1
verdict_in (inr both) = Fails both.0 both.1

verdict_back : (v : Verdict) → verdict_in (verdict_out v) ≡ v
verdict_back (Complete root list) = refl
verdict_back (Fails root path) = refl

pub verdict_code : Coded Verdict
verdict_code = code_by ((Root × List AckMsg) ⊎ (Root × List ℕ)) (coded⊎ (coded× root_code (coded_list msg_code)) (coded× root_code (coded_list coded_ℕ))) verdict_out verdict_in verdict_back

abbrev packet_out : Packet → Parcel ⊎ Verdict
packet_out (of_parcel p) = inl p
packet_out (of_verdict v) = inr v

abbrev packet_in : Parcel ⊎ Verdict → Packet
packet_in (inl p) = of_parcel p
packet_in (inr v) = of_verdict v

packet_back : (p : Packet) → packet_in (packet_out p) ≡ p
packet_back (of_parcel p) = refl
packet_back (of_verdict v) = refl

pub packet_code : Coded Packet
packet_code = code_by (Parcel ⊎ Verdict) (coded⊎ parcel_code verdict_code) packet_out packet_in packet_back

-- ---- what is sent is sent where it belongs

module _ (t : Topology) where
  abbrev IsRoutedParcel : Parcel → Type 0
  IsRoutedParcel p = IsRouted t (of_parcel p)

  routed_tuples : (tuples : List Tuple) (targets : List ℕ) → GoTo t tuples targets → AllByRecursion IsRoutedParcel (to_tasks tuples targets)
  routed_tuples [] targets all = tt
  routed_tuples (tuple ∷ tuples) [] all = absurd all
  routed_tuples (tuple ∷ tuples) (task ∷ targets) all = (all.0, routed_tuples tuples targets all.1)

  routed_opening : (o : Opening) → IsOpening t o → AllByRecursion IsRoutedParcel (opening_parcels t o)
  routed_opening o is = each-append IsRoutedParcel (to_tasks (first_tuples t o.begun) o.targets) (to_acker t (init_of t o.begun) ∷ []) (routed_tuples (first_tuples t o.begun) o.targets is.sent) (refl, tt)

  routed_execution : (custom : Custom) (e : Execution) → IsExecution t custom e → AllByRecursion IsRoutedParcel (execution_parcels t custom e)
  routed_execution custom e is =
      each-append IsRoutedParcel (to_tasks (children_of t custom e.run) e.targets) (map (to_acker t) (notes_of t custom e.run)) (routed_tuples (children_of t custom e.run) e.targets is.sent)
      (each-to_map IsRoutedParcel (to_acker t) (notes_of t custom e.run) (each-any (λ (m : AckMsg). IsRoutedParcel (to_acker t m)) (λ m. refl) (notes_of t custom e.run)))

module _ (t : Topology) (custom : Custom) (h : History) (b : Station) (reached : Reached t custom h b) where
  abbrev opening_packets : Opening → List Packet
  opening_packets o = map of_parcel (opening_parcels t o)

  abbrev execution_packets : Execution → List Packet
  execution_packets e = map of_parcel (execution_parcels t custom e)

  abbrev issued_packets : List Packet
  issued_packets = flat_map opening_packets h.begun ++ (flat_map execution_packets h.runs ++ map (λ (x : Told). of_verdict x.verdict) h.told)

  issued_weight : (f : Packet → ℕ) → weigh f issued_packets ≡ issued t custom f h
  issued_weight f =
      let x = weigh-append f (flat_map opening_packets h.begun) (flat_map execution_packets h.runs ++ map (λ (x : Told). of_verdict x.verdict) h.told) in
      let y = weigh-append f (flat_map execution_packets h.runs) (map (λ (x : Told). of_verdict x.verdict) h.told) in
      let u = weigh-flat_map f opening_packets h.begun in
      let v = weigh-flat_map f execution_packets h.runs in
      let w = weigh-map f (λ (x : Told). of_verdict x.verdict) h.told in
      let p = weigh-same (λ (o : Opening). weigh f (opening_packets o)) (λ (o : Opening). weigh_parcels f (opening_parcels t o)) (λ o. weigh-map f of_parcel (opening_parcels t o)) h.begun in
      let q = weigh-same (λ (e : Execution). weigh f (execution_packets e)) (λ (e : Execution). weigh_parcels f (execution_parcels t custom e)) (λ e. weigh-map f of_parcel (execution_parcels t custom e)) h.runs in omega arith

  issued_routed : AllByRecursion (IsRouted t) issued_packets
  issued_routed =
      each-append (IsRouted t) (flat_map opening_packets h.begun) (flat_map execution_packets h.runs ++ map (λ (x : Told). of_verdict x.verdict) h.told)
      (each-flat_map (IsRouted t) opening_packets h.begun (each-weaker (IsOpening t) (λ (o : Opening). AllByRecursion (IsRouted t) (opening_packets o)) (λ o is. each-to_map (IsRouted t) of_parcel (opening_parcels t o) (routed_opening t o is)) h.begun reached.moves.well.begun))
      (each-append (IsRouted t) (flat_map execution_packets h.runs) (map (λ (x : Told). of_verdict x.verdict) h.told)
      (each-flat_map (IsRouted t) execution_packets h.runs (each-weaker (IsExecution t custom) (λ (e : Execution). AllByRecursion (IsRouted t) (execution_packets e)) (λ e is. each-to_map (IsRouted t) of_parcel (execution_parcels t custom e) (routed_execution t custom e is)) h.runs reached.moves.well.runs))
      (each-to_map (IsRouted t) (λ (x : Told). of_verdict x.verdict) h.told (each-any (λ (x : Told). IsRouted t (of_verdict x.verdict)) (λ x. tt) h.told)))

  -- what waits or was taken
  pub routed : (packets : List Packet) → ((f : Packet → ℕ) → weigh f packets ≤ b.waiting f + taken f h) → AllByRecursion (IsRouted t) packets
  routed packets within = each-within packet_code (IsRouted t) packets issued_packets (λ f. let w = within f in let m = reached.moves.packets f in let i = issued_weight f in omega arith) issued_routed

  abbrev executed : Execution → Packet
  executed e = of_parcel (ToTask e.run.task e.run.tuple)

  -- each tuple was executed by a task of its component
  pub runs_routed : AllByRecursion (λ (e : Execution). IsRouted t (of_parcel (ToTask e.run.task e.run.tuple))) h.runs
  runs_routed = each-map (IsRouted t) executed h.runs (routed (map executed h.runs) (λ f. let m = weigh-map f executed h.runs in omega arith))
