-- The account of the tuples alone, and what follows of it.
use Rattle.std.proofs.Common.{◌≡◌, ◌≤◌, ℕ, ◌+◌, Bool, true, false, cond, List, [], ◌∷◌, length, map, flat_map, refl, ap, ◌∙◌, arith}
use Rattle.std.specs.List.{AllByRecursion}
use Rattle.acker_core.specs.declared.verdict.Verdict.{Verdict}
use Rattle.tree_model.specs.bolt_ops.RowOp.{Custom}
use Rattle.tree_model.specs.counted_items.Weights.{weigh}
use Rattle.tree_model.proofs.counted_items.Each.{each-to_map, each-weaker, each-both}
use Rattle.tree_model.proofs.counted_items.Weighing.{weigh-append, weigh-map, weigh-flat_map, weigh-zero, weigh-same_each, each-weighs}
use Rattle.tree_model.specs.storm_values.declared.value.Root.{Root}
use Rattle.tree_model.specs.storm_values.declared.value.Value.{Value}
use Rattle.tree_model.specs.topology_plan.Topology.{Topology}
use Rattle.tree_model.specs.topology_plan.Valid.{IsValid}
use Rattle.tree_model.specs.tuple_tickets.Roots.{root_eq}
use Rattle.tree_model.specs.tuple_tickets.Tickets.{made_by}
use Rattle.tree_model.specs.tuple_tickets.Trees.{Course, goes}
use Rattle.tree_model.proofs.tuple_tickets.Roots.{root_itself}
use Rattle.tree_model.specs.declared.messages.AckMsg.{AckMsg}
use Rattle.tree_model.specs.declared.messages.Parcel.TheVariants.{ToAcker}
use Rattle.tree_model.specs.declared.messages.Tuple.{Tuple}
use Rattle.tree_model.specs.Trees.{kids_of, node_count}
use Rattle.tuple_account.specs.Accounts.{is_begun, is_of, is_at, issued_notes, IsBegun, IsRun, IsAccount, IsNode}
use Rattle.tuple_account.specs.Accounts as tuples
use Rattle.tuple_account.specs.Issued.{Begun, Run, node_of, first_tuples, init_of, course_of_run, children_of, notes_of}
use Rattle.tuple_account.proofs.Sound as sound
use Rattle.tuple_account.specs.Histories.{Packet, of_parcel, of_verdict, Opening, Execution, Receipt, Told, History, IsOpening, IsExecution, weigh_parcels, opening_parcels, execution_parcels, on_tuple, taken, issued, opens, rows_in, met_in, told_in, dropped_in}
use Rattle.tuple_account.specs.Moves.{Station, Reached, AreRows, account_of}
use Rattle.tuple_account.proofs.Sending.{on_message, opening_tuples, execution_tuples, issued_messages}

-- ---- rows

-- the rows of each opening are found by its root, where no root was begun twice
rows_found : (os : List Opening) → ((root : Root) → weigh (opens root) os ≤ 1) → AllByRecursion (λ (o : Opening). o.begun.rows ≡ rows_in os o.begun.root) os
rows_found [] once = tt
rows_found (o ∷ os) once = (
  rw (root_itself o.begun.root o.begun.root refl) refl,
  each-weaker (λ (x : Opening). (x.begun.rows ≡ rows_in os x.begun.root) × ((f : Opening → ℕ) → f x ≤ weigh f os)) (λ (x : Opening). x.begun.rows ≡ rows_in (o ∷ os) x.begun.root) later os
      (each-both (λ (x : Opening). x.begun.rows ≡ rows_in os x.begun.root) (λ (x : Opening). (f : Opening → ℕ) → f x ≤ weigh f os) os (rows_found os (λ root. let w = once root in omega arith)) (each-weighs os)),
)
  where
    later : (x : Opening) → (x.begun.rows ≡ rows_in os x.begun.root) × ((f : Opening → ℕ) → f x ≤ weigh f os) → x.begun.rows ≡ rows_in (o ∷ os) x.begun.root
    later x both = cases (root_eq o.begun.root x.begun.root) refl
      where
        cases : (b : Bool) → root_eq o.begun.root x.begun.root ≡ b → x.begun.rows ≡ cond b o.begun.rows (rows_in os x.begun.root)
        cases false is = both.0
        cases true is =
            let first : opens x.begun.root o ≡ 1 = rw is refl in
            let here : opens x.begun.root x ≡ 1 = rw (root_itself x.begun.root x.begun.root refl) refl in
            let more = both.1 (opens x.begun.root) in
            let w = once x.begun.root in absurd (omega arith)

made_size : {X : Type 0} (c : Course) (xs : List X) (n : ℕ) → n ≡ length (made_by c xs) → c ≡ goes → n ≡ length xs
made_size c xs n is going = is ∙ ap (λ (k : Course). length (made_by k xs)) going

module _ (t : Topology) (custom : Custom) (h : History) (b : Station) (reached : Reached t custom h b) where
  -- what waits and was taken is what was issued
  pub packets : (f : Packet → ℕ) → b.waiting f + taken f h ≡ issued t custom f h
  packets f = let e = reached.moves.packets f in omega arith

  -- the tuples that were issued
  pub tuples_are : (f : Tuple → ℕ) → weigh f (tuples.issued t custom (account_of h b)) ≡ weigh (λ (o : Opening). weigh f (first_tuples t o.begun)) h.begun + weigh (λ (e : Execution). weigh f (children_of t custom e.run)) h.runs
  tuples_are f =
      let x = weigh-append f (flat_map (first_tuples t) (map (λ (o : Opening). o.begun) h.begun)) (flat_map (children_of t custom) (map (λ (e : Execution). e.run) h.runs)) in
      let y = weigh-flat_map f (first_tuples t) (map (λ (o : Opening). o.begun) h.begun) in
      let z = weigh-flat_map f (children_of t custom) (map (λ (e : Execution). e.run) h.runs) in
      let u = weigh-map (λ (c : Begun). weigh f (first_tuples t c)) (λ (o : Opening). o.begun) h.begun in
      let v = weigh-map (λ (r : Run). weigh f (children_of t custom r)) (λ (e : Execution). e.run) h.runs in omega arith

  pub tuples_weight : (f : Tuple → ℕ) → issued t custom (on_tuple f) h ≡ weigh f (tuples.issued t custom (account_of h b))
  tuples_weight f =
      let one = weigh-same_each (λ (o : Opening). weigh_parcels (on_tuple f) (opening_parcels t o)) (λ (o : Opening). weigh f (first_tuples t o.begun)) (IsOpening t) (λ o is. opening_tuples t custom f o is.sent) h.begun reached.moves.well.begun in
      let two = weigh-same_each (λ (e : Execution). weigh_parcels (on_tuple f) (execution_parcels t custom e)) (λ (e : Execution). weigh f (children_of t custom e.run)) (IsExecution t custom) (λ e is. execution_tuples t custom f e is.sent) h.runs reached.moves.well.runs in
      let none = weigh-zero (λ (x : Told). on_tuple f (of_verdict x.verdict)) (λ x. refl) h.told in
      let all = tuples_are f in omega arith

  -- the messages that were issued
  pub notes_are : (g : AckMsg → ℕ) → weigh g (issued_notes t custom (account_of h b)) ≡ weigh (λ (o : Opening). g (init_of t o.begun)) h.begun + weigh (λ (e : Execution). weigh g (notes_of t custom e.run)) h.runs
  notes_are g =
      let x = weigh-append g (map (init_of t) (map (λ (o : Opening). o.begun) h.begun)) (flat_map (notes_of t custom) (map (λ (e : Execution). e.run) h.runs)) in
      let y = weigh-map g (init_of t) (map (λ (o : Opening). o.begun) h.begun) in
      let z = weigh-flat_map g (notes_of t custom) (map (λ (e : Execution). e.run) h.runs) in
      let u = weigh-map (λ (c : Begun). g (init_of t c)) (λ (o : Opening). o.begun) h.begun in
      let v = weigh-map (λ (r : Run). weigh g (notes_of t custom r)) (λ (e : Execution). e.run) h.runs in omega arith

  pub messages_weight : (g : AckMsg → ℕ) → issued t custom (on_message g) h ≡ weigh g (issued_notes t custom (account_of h b))
  messages_weight g = let i = issued_messages t custom g h in let n = notes_are g in omega arith

  -- what was met was issued
  pub met_issued : (g : AckMsg → ℕ) → weigh (λ (x : Receipt). g x.message) h.met ≤ weigh g (issued_notes t custom (account_of h b))
  met_issued g = let p = packets (on_message g) in let m = messages_weight g in omega arith

  -- what is held of messages was met
  pub held_met : (g : Root → AckMsg → ℕ) → b.kept g + (told_in g h + dropped_in g h) ≡ met_in g h
  held_met g = let e = reached.moves.notes g in omega arith

  pub rows_are_found : AreRows (rows_in h.begun) h.begun
  rows_are_found = rows_found h.begun reached.once

module _ (t : Topology) (custom : Custom) (h : History) (b : Station) (reached : Reached t custom h b) (rows_of : Root → List (List Value)) (rows_are : AreRows rows_of h.begun) where
  pub account : IsAccount t custom rows_of (account_of h b)
  account = record {
    balanced = λ f.
        let p = packets t custom h b reached (on_tuple f) in
        let i = tuples_weight t custom h b reached f in
        let m = weigh-zero (λ (x : Receipt). on_tuple f (of_parcel (ToAcker x.acker x.message))) (λ x. refl) h.met in
        let v = weigh-zero (λ (v : Verdict). on_tuple f (of_verdict v)) (λ v. refl) h.heard in
        let r = weigh-map (λ (u : Run). f u.tuple) (λ (e : Execution). e.run) h.runs in omega arith;
    distinct = λ root. let m = weigh-map (is_begun root) (λ (o : Opening). o.begun) h.begun in let o = reached.once root in omega arith;
    begun_well = each-to_map (IsBegun t custom rows_of) (λ (o : Opening). o.begun) h.begun
        (each-weaker (λ (o : Opening). IsOpening t o × (o.begun.rows ≡ rows_of o.begun.root)) (λ (o : Opening). IsBegun t custom rows_of o.begun) (λ o both. record { rows = both.1; ids = both.0.ids }) h.begun
        (each-both (IsOpening t) (λ (o : Opening). o.begun.rows ≡ rows_of o.begun.root) h.begun reached.moves.well.begun rows_are));
    runs_well = each-to_map (IsRun t custom) (λ (e : Execution). e.run) h.runs
        (each-weaker (IsExecution t custom) (λ (e : Execution). IsRun t custom e.run) (λ e is. made_size (course_of_run t custom e.run) (kids_of t custom (node_of e.run.tuple)) (length e.run.ids) is.ids) h.runs reached.moves.well.runs);
  }

  pub once : (root : Root) (path : List ℕ) → weigh (is_at root path) (tuples.issued t custom (account_of h b)) ≤ 1
  once = sound.once t custom rows_of (account_of h b) account

  pub nodes : AllByRecursion (IsNode t custom rows_of) (tuples.issued t custom (account_of h b))
  nodes = sound.nodes t custom rows_of (account_of h b) account

  pub few : IsValid t → (root : Root) → weigh (is_of root) (tuples.issued t custom (account_of h b)) ≤ node_count t custom (rows_of root)
  few = sound.few t custom rows_of (account_of h b) account
