-- Weights of the parcels that openings and executions send.
use Rattle.std.proofs.Common.{◌≡◌, ℕ, ◌+◌, List, [], ◌∷◌, map, refl, ap, arith}
use Rattle.acker_core.specs.declared.verdict.Verdict.{Verdict}
use Rattle.tree_model.specs.bolt_ops.RowOp.{Custom}
use Rattle.tree_model.specs.counted_items.Weights.{weigh}
use Rattle.tree_model.proofs.counted_items.Weighing.{weigh-append, weigh-map, weigh-zero, weigh-same}
use Rattle.tree_model.specs.topology_plan.Topology.{Topology}
use Rattle.tree_model.specs.declared.messages.AckMsg.{AckMsg}
use Rattle.tree_model.specs.declared.messages.Parcel.{Parcel}
use Rattle.tree_model.specs.declared.messages.Parcel.TheVariants.{ToTask, ToAcker}
use Rattle.tree_model.specs.declared.messages.Tuple.{Tuple}
use Rattle.tuple_account.specs.Issued.{first_tuples, init_of, children_of, notes_of}
use Rattle.tuple_account.specs.Histories.{Packet, of_parcel, of_verdict, Opening, Execution, Told, History, GoTo, to_tasks, to_acker, weigh_parcels, opening_parcels, execution_parcels, on_tuple, issued}

abbrev pub on_message : (AckMsg → ℕ) → Packet → ℕ
on_message g (of_parcel (ToTask task tuple)) = 0
on_message g (of_parcel (ToAcker acker m)) = g m
on_message g (of_verdict v) = 0

abbrev pub on_verdict : (Verdict → ℕ) → Packet → ℕ
on_verdict f (of_parcel (ToTask task tuple)) = 0
on_verdict f (of_parcel (ToAcker acker m)) = 0
on_verdict f (of_verdict v) = f v

-- ---- tuples to their tasks

sent_tuples : (f : Tuple → ℕ) (t : Topology) (tuples : List Tuple) (targets : List ℕ) → GoTo t tuples targets → weigh_parcels (on_tuple f) (to_tasks tuples targets) ≡ weigh f tuples
sent_tuples f t [] targets all = refl
sent_tuples f t (tuple ∷ tuples) [] all = absurd all
sent_tuples f t (tuple ∷ tuples) (task ∷ targets) all = ap (λ (n : ℕ). f tuple + n) (sent_tuples f t tuples targets all.1)

-- a weight that no tuple has
sent_none : (f : Packet → ℕ) → ((task : ℕ) (tuple : Tuple) → f (of_parcel (ToTask task tuple)) ≡ 0) → (tuples : List Tuple) (targets : List ℕ) → weigh_parcels f (to_tasks tuples targets) ≡ 0
sent_none f none [] targets = refl
sent_none f none (tuple ∷ tuples) [] = refl
sent_none f none (tuple ∷ tuples) (task ∷ targets) = let here = none task tuple in let rest = sent_none f none tuples targets in omega arith

module _ (t : Topology) (custom : Custom) where
  -- ---- of an opening

  opening-weight : (f : Packet → ℕ) (o : Opening) → weigh_parcels f (opening_parcels t o) ≡ weigh_parcels f (to_tasks (first_tuples t o.begun) o.targets) + f (of_parcel (to_acker t (init_of t o.begun)))
  opening-weight f o = let e = weigh-append (λ (p : Parcel). f (of_parcel p)) (to_tasks (first_tuples t o.begun) o.targets) (to_acker t (init_of t o.begun) ∷ []) in omega arith

  pub opening_tuples : (f : Tuple → ℕ) (o : Opening) → GoTo t (first_tuples t o.begun) o.targets → weigh_parcels (on_tuple f) (opening_parcels t o) ≡ weigh f (first_tuples t o.begun)
  opening_tuples f o go = let e = opening-weight (on_tuple f) o in let s = sent_tuples f t (first_tuples t o.begun) o.targets go in omega arith

  pub opening_notes : (g : AckMsg → ℕ) (o : Opening) → weigh_parcels (on_message g) (opening_parcels t o) ≡ g (init_of t o.begun)
  opening_notes g o = let e = opening-weight (on_message g) o in let s = sent_none (on_message g) (λ task tuple. refl) (first_tuples t o.begun) o.targets in omega arith

  opening_verdicts : (f : Verdict → ℕ) (o : Opening) → weigh_parcels (on_verdict f) (opening_parcels t o) ≡ 0
  opening_verdicts f o = let e = opening-weight (on_verdict f) o in let s = sent_none (on_verdict f) (λ task tuple. refl) (first_tuples t o.begun) o.targets in omega arith

  -- ---- of an execution

  execution-weight : (f : Packet → ℕ) (e : Execution) → weigh_parcels f (execution_parcels t custom e) ≡ weigh_parcels f (to_tasks (children_of t custom e.run) e.targets) + weigh (λ (m : AckMsg). f (of_parcel (to_acker t m))) (notes_of t custom e.run)
  execution-weight f e =
      let a = weigh-append (λ (p : Parcel). f (of_parcel p)) (to_tasks (children_of t custom e.run) e.targets) (map (to_acker t) (notes_of t custom e.run)) in
      let m = weigh-map (λ (p : Parcel). f (of_parcel p)) (to_acker t) (notes_of t custom e.run) in omega arith

  pub execution_tuples : (f : Tuple → ℕ) (e : Execution) → GoTo t (children_of t custom e.run) e.targets → weigh_parcels (on_tuple f) (execution_parcels t custom e) ≡ weigh f (children_of t custom e.run)
  execution_tuples f e go =
      let w = execution-weight (on_tuple f) e in
      let s = sent_tuples f t (children_of t custom e.run) e.targets go in
      let z = weigh-zero (λ (m : AckMsg). on_tuple f (of_parcel (to_acker t m))) (λ m. refl) (notes_of t custom e.run) in omega arith

  pub execution_notes : (g : AckMsg → ℕ) (e : Execution) → weigh_parcels (on_message g) (execution_parcels t custom e) ≡ weigh g (notes_of t custom e.run)
  execution_notes g e = let w = execution-weight (on_message g) e in let s = sent_none (on_message g) (λ task tuple. refl) (children_of t custom e.run) e.targets in omega arith

  execution_verdicts : (f : Verdict → ℕ) (e : Execution) → weigh_parcels (on_verdict f) (execution_parcels t custom e) ≡ 0
  execution_verdicts f e =
      let w = execution-weight (on_verdict f) e in
      let s = sent_none (on_verdict f) (λ task tuple. refl) (children_of t custom e.run) e.targets in
      let z = weigh-zero (λ (m : AckMsg). on_verdict f (of_parcel (to_acker t m))) (λ m. refl) (notes_of t custom e.run) in omega arith

  -- ---- of a history

  pub issued_messages : (g : AckMsg → ℕ) (h : History) → issued t custom (on_message g) h ≡ weigh (λ (o : Opening). g (init_of t o.begun)) h.begun + weigh (λ (e : Execution). weigh g (notes_of t custom e.run)) h.runs
  issued_messages g h =
      let b = weigh-same (λ (o : Opening). weigh_parcels (on_message g) (opening_parcels t o)) (λ (o : Opening). g (init_of t o.begun)) (opening_notes g) h.begun in
      let r = weigh-same (λ (e : Execution). weigh_parcels (on_message g) (execution_parcels t custom e)) (λ (e : Execution). weigh g (notes_of t custom e.run)) (execution_notes g) h.runs in
      let z = weigh-zero (λ (x : Told). on_message g (of_verdict x.verdict)) (λ x. refl) h.told in omega arith

  pub issued_verdicts : (f : Verdict → ℕ) (h : History) → issued t custom (on_verdict f) h ≡ weigh (λ (x : Told). f x.verdict) h.told
  issued_verdicts f h =
      let b = weigh-zero (λ (o : Opening). weigh_parcels (on_verdict f) (opening_parcels t o)) (opening_verdicts f) h.begun in
      let r = weigh-zero (λ (e : Execution). weigh_parcels (on_verdict f) (execution_parcels t custom e)) (execution_verdicts f) h.runs in omega arith
